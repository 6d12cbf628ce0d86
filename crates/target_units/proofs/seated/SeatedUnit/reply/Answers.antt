use Rattle.std.proofs.Common.{◌∙◌}
use Rattle.target_units.proofs.Tellings.{reply_seen}
use Rattle.target_units.proofs.seated.SeatedUnit.reply.Goals as goal

pub returns-clause-seat : goal.returns-clause-seat
returns-clause-seat c =
    λ hosts seat time h. (λ i. (c.self.view_is i).reply) ∙ reply_seen hosts seat time c.args.self.now h

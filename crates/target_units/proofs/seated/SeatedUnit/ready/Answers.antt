use Rattle.std.proofs.Common.{◌∙◌}
use Rattle.target_units.proofs.Tellings.{ready_seen}
use Rattle.target_units.proofs.seated.SeatedUnit.ready.Goals as goal

pub returns-clause-seat : goal.returns-clause-seat
returns-clause-seat c = λ hosts seat time h lt own. c.ready_now.ensures
    ∙ ready_seen hosts seat time c.args.self.now c.args.unit c.args.seek h lt own

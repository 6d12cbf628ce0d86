use Rattle.std.proofs.Common.{◌∙◌}
use Rattle.target_units.proofs.Tellings.{block_seen}
use Rattle.target_units.proofs.seated.SeatedUnit.block.Goals as goal

pub returns-clause-seat : goal.returns-clause-seat
returns-clause-seat c = λ hosts seat time h. c.block_now.ensures ∙ block_seen hosts seat time c.args.self.now h

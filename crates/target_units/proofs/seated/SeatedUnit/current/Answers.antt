use Rattle.std.proofs.Common.{◌∙◌}
use Rattle.target_units.proofs.SeatSteps.{current_seen}
use Rattle.target_units.proofs.seated.SeatedUnit.current.Goals as goal

pub returns-clause-seat : goal.returns-clause-seat
returns-clause-seat c = λ hosts seat time h. c.current_process.ensures ∙ current_seen hosts seat time c.args.self.now h

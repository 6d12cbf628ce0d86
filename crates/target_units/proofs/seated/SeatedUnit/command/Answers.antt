use Rattle.std.proofs.Common.{◌∙◌}
use Rattle.target_units.proofs.Tellings.{entry_seen}
use Rattle.target_units.proofs.seated.SeatedUnit.command.Goals as goal

pub returns-clause-seat : goal.returns-clause-seat
returns-clause-seat c = λ hosts seat time h. c.entry.ensures ∙ entry_seen hosts seat time c.args.self.now h

-- A text that is written to the end, or until the sink fails; or there was no memory for it.
use Rattle.std.specs.Prelude.{ℕ, List, Result, Ok, Err}
use Rattle.bus_base.specs.declared.failures.Failed.{Failed}
use Rattle.bus_cli.specs.Lines.{memory_line, Writing, Adds, AddsFront, SaysLine}
use Rattle.bus_cli.specs.declared.status.Status.{Status}
use Rattle.bus_cli.specs.declared.status.Status.TheVariants.{Done, Write, Memory}

-- What was written with this status: the text, or with Write a front of it; or that there was no memory.
abbrev pub SaysText : Status → List ℕ → Writing → Type 0
SaysText Done text w = Adds text w
SaysText Write text w = AddsFront text w
SaysText Memory text w = SaysLine memory_line w
SaysText _ text w = ⊥

-- the statuses with which it ends
abbrev pub TellsText : Status → Type 0
TellsText Done = Unit {0}
TellsText Write = Unit {0}
TellsText Memory = Unit {0}
TellsText _ = ⊥

-- the status of a text that was written, or not to its end
abbrev pub status_written : Result (Unit {0}) Failed → Status
status_written (Ok _) = Done
status_written (Err _) = Write

use Rattle.std.proofs.Common.{◌≡◌, refl}
use Rattle.std.specs.Prelude.{true, false, Option, Some, None}
use Rattle.bus_transcript.specs.declared.item.Name.{Name}
use Rattle.bus_transcript.specs.declared.process.Process.{Process}
use Rattle.bus_transcript.specs.Processes.{process_after}
use Rattle.bus_transcript.proofs.laws.processes_are_numbered.Goals as goal

number_0 : (last : Option Process) (name : Name) → (process_after false true last name).name.number ≡ 0
number_0 None name = refl
number_0 (Some p) name = refl

pub returns-clause-aborts : goal.returns-clause-aborts
returns-clause-aborts c = λ last name. number_0 last name

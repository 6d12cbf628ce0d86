-- What a process has carried, by its bytes alone: of its command, its data and its status (6.4, 6.6.19).
use Rattle.std.specs.Prelude.{ℕ, List}
use Rattle.due_model.specs.bus_trace.specs.declared.Row.{Row}
use Rattle.due_model.specs.scenario.specs.Value.{ScenarioValue}
use Rattle.due_model.specs.story_model.specs.CarriedBytes.{CarriedBytes}
use Rattle.due_model.specs.RunState.{RunState}
use Rattle.trace_laws.specs.row_laws.specs.Tells.{UndoesSame, UndoFacts}

pub record Load : Type 0 where
  pub command : List ℕ
  pub moved : List ℕ
  pub status : List ℕ

abbrev pub load : CarriedBytes → Load
load c = record { command = c.command.bytes; moved = c.moved.bytes; status = c.status.bytes }

-- What MESSAGE PARITY ERROR brings back with the row are the bytes that the process has (6.6.13).
abbrev pub UndoesLoads : RunState → Row → Type 0
UndoesLoads k row = UndoesSame load k row

-- So wherever it may come.
abbrev pub UndoLoadFacts : ScenarioValue → List Row → Type 0
UndoLoadFacts s rows = UndoFacts load s rows

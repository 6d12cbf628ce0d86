-- What a process has carried are its own bytes: its command descriptor block and, where it writes, the data that it
-- sends; the pointers stand in them (6.4, 6.6.19, 6.6.20).
use Rattle.std.specs.Prelude.{ℕ, ◌%◌, ◌≡◌, ◌≤◌, ◌<◌, true, List, [], ◌∷◌, ⊤, ◌++◌, length, slice_index_or, Some}
use Rattle.due_model.specs.bus_base.specs.declared.ProcId.{ProcId}
use Rattle.due_model.specs.bus_trace.specs.declared.Row.{Row}
use Rattle.due_model.specs.bus_trace.specs.Phases.{is_command, is_data}
use Rattle.due_model.specs.scenario.specs.Value.{ScenarioValue}
use Rattle.due_model.specs.array_model.specs.Processes.{Process, process_of}
use Rattle.due_model.specs.story_model.specs.BusState.{RowReading, row_reading}
use Rattle.due_model.specs.story_model.specs.CarriedBytes.{Area, CarriedBytes}
use Rattle.due_model.specs.story_model.specs.Links.{Link}
use Rattle.due_model.specs.RunState.{RunState, process_here, carried_here}
use Rattle.due_model.specs.RunSteps.{run_state}
use Rattle.due_model.specs.Tasks.{is_writing}

-- The bytes of an area are a front of these, and its pointers stand in them or at their end.
pub record IsFilled (a : Area) (content : List ℕ) : Type 0 where
  pub rest : List ℕ
  pub bytes_are : a.bytes ++ rest ≡ content
  pub active_in : a.active ≤ length a.bytes
  pub saved_in : a.saved ≤ length a.bytes

-- The bytes of COMMAND since the pointers were last restored are a front of the block, and the pointer stands at their
-- end.
pub record TakesBlock (c : CarriedBytes) (cdb : List ℕ) : Type 0 where
  pub rest : List ℕ
  pub block_is : c.block ++ rest ≡ cdb
  pub active_is : c.command.active ≡ length c.block
  pub saved_is : c.command.saved ≡ 0
  pub filled : IsFilled c.command cdb

pub record CarriesOwn (c : CarriedBytes) (t : Process) : Type 0 where
  pub command : TakesBlock c t.cdb
  pub sent : is_writing t ≡ true → IsFilled c.moved t.sent
  pub status : c.status.saved ≡ 0

abbrev pub IsOwn : ScenarioValue → CarriedBytes → Type 0
IsOwn s c = (t : Process) → process_of s c.id ≡ Some t → CarriesOwn c t

-- So is what MESSAGE PARITY ERROR would bring back.
pub record AllCarryOwn (s : ScenarioValue) (k : RunState) : Type 0 where
  pub each : (id : ProcId) → IsOwn s (carried_here k id)
  pub undone : (l : Link) (c : CarriedBytes) → k.story.link ≡ Some l → l.undo ≡ Some c → IsOwn s c

-- A byte that crosses in COMMAND, or in a data phase of a process that writes, is that at the pointer of the process of
-- the connection, and stands in what it sends: what the initiator is due to drive, as long as the target asks for no
-- byte more.
pub record SendsNext (s : ScenarioValue) (k : RunState) (c : Process) (d : RowReading) : Type 0 where
  pub command : is_command d.change.before ≡ true
      → (d.change.after.data_bits % 256 ≡ slice_index_or c.cdb (carried_here k c.id).command.active 0)
      × ((carried_here k c.id).command.active < length c.cdb)
  pub moved : is_data d.change.before ≡ true → is_writing c ≡ true
      → (d.change.after.data_bits % 256 ≡ slice_index_or c.sent (carried_here k c.id).moved.active 0)
      × ((carried_here k c.id).moved.active < length c.sent)

abbrev pub SendsOwn : ScenarioValue → RunState → Row → Type 0
SendsOwn s k row = (c : Process) → process_here s k ≡ Some c → (row_reading k.story.bus_state row).crosses ≡ true
    → SendsNext s k c (row_reading k.story.bus_state row)

-- In all of these rows.
abbrev pub AllSendOwn : ScenarioValue → List Row → Type 0
AllSendOwn s [] = ⊤
AllSendOwn s (row ∷ rows) = AllSendOwn s rows × SendsOwn s (run_state s rows) row

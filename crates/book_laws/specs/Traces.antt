-- The rows of a trace, by what they do with a connection: what the lines show, and what devices are due to do. With
-- these the books hold after all of them.
use Rattle.std.specs.Prelude.{◌≡◌, ◌<◌, true, false, List, [], ◌∷◌, Some, None, ⊤}
use Rattle.due_model.specs.bus_trace.specs.declared.Row.{Row}
use Rattle.due_model.specs.bus_trace.specs.declared.changes.Change.{Change}
use Rattle.due_model.specs.bus_trace.specs.declared.connection.Connection.{Connection}
use Rattle.due_model.specs.bus_trace.specs.Phases.{changes_phase, is_message_out, is_message_in}
use Rattle.due_model.specs.scenario.specs.Value.{ScenarioValue}
use Rattle.due_model.specs.array_model.specs.Processes.{Process, process_of}
use Rattle.due_model.specs.story_model.specs.BusState.{row_reading}
use Rattle.due_model.specs.story_model.specs.Items.{Item}
use Rattle.due_model.specs.story_model.specs.TraceHistory.{aim_of}
use Rattle.due_model.specs.dialogue_model.specs.Wants.{Ready}
use Rattle.due_model.specs.RunState.{RunState, bus_of, process_item}
use Rattle.due_model.specs.RunSteps.{run_state}
use Rattle.due_model.specs.Wants.{ready_of}
use Rattle.book_laws.specs.Carrying.{AllCarryOwn, SendsOwn}
use Rattle.book_laws.specs.FirstBytes.{Opens}
use Rattle.book_laws.specs.Giving.{Gives, GivesNext, IsQuiet}
use Rattle.book_laws.specs.Hearing.{HasPhase, LeavesWhole, MovesRuns}
use Rattle.book_laws.specs.Knowing.{Knows, NamesServed}
use Rattle.book_laws.specs.Rows.{IsRowIn, IsFirstRow}
use Rattle.book_laws.specs.Speaking.{Speaks, SaysNext}

-- The process that a target has ready is of the scenario, and of the ends of the connection that it makes; its unit is
-- 0 to 7.
pub record IsReadyFor (s : ScenarioValue) (k : RunState) (n : Connection) : Type 0 where
  pub ready : Ready
  pub ready_is : ready_of s k n.target ≡ Some ready
  pub unit_in : ready.process.unit < 8
  pub process : Process
  pub process_is : process_of s ready.process.id ≡ Some process
  pub initiator_is : process.initiator ≡ n.initiator
  pub target_is : process.target ≡ n.target

-- An initiator selects for its item, and its target.
pub record IsAimedAt (s : ScenarioValue) (k : RunState) (n : Connection) : Type 0 where
  pub item : Item
  pub aim_is : aim_of k.story.aims n.initiator ≡ Some item
  pub target_is : (c : Process) → process_item s (Some item) ≡ Some c → c.target ≡ n.target

pub record Begins (s : ScenarioValue) (k : RunState) (row : Row) (n : Connection) : Type 0 where
  pub first : IsFirstRow k row n
  pub selects : n.reselected ≡ false → IsAimedAt s k n
  pub reselects : n.reselected ≡ true → IsReadyFor s k n
  pub names : n.reselected ≡ true → is_message_in (row_reading k.story.bus_state row).change.after ≡ true

-- A row of a connection, before and after which RST is false: the bytes that cross are those that the two ends are due
-- to drive, and cross in a phase that has begun; the first phase is MESSAGE OUT; names are of the process that is
-- served, the data pointer stands where the run does, and a phase is left as it is due to be.
pub record GoesOn (s : ScenarioValue) (k : RunState) (row : Row) (n : Connection) (c : Change) : Type 0 where
  pub row_is : IsRowIn k row n c
  pub calm : (bus_of k).rst ≡ false
  pub phase : HasPhase k
  pub says : SaysNext k n c
  pub gives : GivesNext k n c
  pub names : NamesServed s k row n
  pub sends : SendsOwn s k row
  pub begun : (row_reading k.story.bus_state row).crosses ≡ true → k.exchange.begun ≡ true
  pub first : changes_phase (row_reading k.story.bus_state row).change ≡ true → k.exchange.begun ≡ false
      → is_message_out (row_reading k.story.bus_state row).change.after ≡ true
  pub runs : (row_reading k.story.bus_state row).crosses ≡ true → MovesRuns s k n
  pub leaves : changes_phase (row_reading k.story.bus_state row).change ≡ true → LeavesWhole s k n

-- It ends with the row.
pub record Ends (s : ScenarioValue) (k : RunState) (row : Row) (n : Connection) : Type 0 where
  pub connection_is : k.story.bus_state.connection ≡ Some n
  pub next_is : (row_reading k.story.bus_state row).next ≡ None
  pub calm : (bus_of k).rst ≡ false
  pub phase : HasPhase k
  pub carries_none : (row_reading k.story.bus_state row).crosses ≡ false
  pub leaves : changes_phase (row_reading k.story.bus_state row).change ≡ true → LeavesWhole s k n

pub data RowOf (s : ScenarioValue) (k : RunState) (row : Row) : Type 0 where
  apart : k.story.bus_state.connection ≡ None → (row_reading k.story.bus_state row).next ≡ None → RowOf s k row
  begins : (n : Connection) → Begins s k row n → RowOf s k row
  goes_on : (n : Connection) (c : Change) → GoesOn s k row n c → RowOf s k row
  ends : (n : Connection) → Ends s k row n → RowOf s k row
  under_reset : (row_reading k.story.bus_state row).change.after.rst ≡ true
      → (row_reading k.story.bus_state row).crosses ≡ false → RowOf s k row

abbrev pub AreRowsOf : ScenarioValue → List Row → Type 0
AreRowsOf s [] = ⊤
AreRowsOf s (row ∷ rows) = AreRowsOf s rows × RowOf s (run_state s rows) row

-- ---- the books after them

pub record Books (s : ScenarioValue) (k : RunState) : Type 0 where
  pub carry : AllCarryOwn s k
  pub unbegun : k.story.bus_state.connection ≡ None → k.exchange.begun ≡ false
  pub speaks : (n : Connection) → k.story.bus_state.connection ≡ Some n → (bus_of k).rst ≡ false → Speaks s k n
  pub gives : (n : Connection) → k.story.bus_state.connection ≡ Some n → (bus_of k).rst ≡ false → Gives k
  pub knows : (n : Connection) → k.story.bus_state.connection ≡ Some n → (bus_of k).rst ≡ false → Knows s k n
  pub opens : (n : Connection) → k.story.bus_state.connection ≡ Some n → (bus_of k).rst ≡ false → Opens k n
  pub quiet : (n : Connection) → k.story.bus_state.connection ≡ Some n → (bus_of k).rst ≡ false → IsQuiet k

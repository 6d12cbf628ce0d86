-- What holds of each row of a prompt trace, of a process that runs with it: the bytes that a write sends have come with
-- it; and any other has carried the bytes that its reply gives.
use Rattle.std.specs.Prelude.{◌≡◌, ◌≤◌, true, false, ◌&&◌, ◌==◌, List, [], ◌∷◌, length, Some, ⊤}
use Rattle.due_model.specs.bus_trace.specs.declared.Row.{Row}
use Rattle.due_model.specs.cdb_codec.specs.declared.status.TheConstants.{GOOD}
use Rattle.due_model.specs.scenario.specs.Value.{ScenarioValue}
use Rattle.due_model.specs.array_model.specs.ArrayHistory.{reply_in}
use Rattle.due_model.specs.array_model.specs.Execution.{Reply}
use Rattle.due_model.specs.array_model.specs.Processes.{Process, process_of}
use Rattle.trace_laws.specs.scsi_device.specs.Writes.{is_of_size}
use Rattle.due_model.specs.story_model.specs.BusState.{row_reading}
use Rattle.due_model.specs.story_model.specs.HistoryEvents.{row_events_by}
use Rattle.due_model.specs.story_model.specs.Right.{has_run, moved_bytes}
use Rattle.due_model.specs.RunState.{RunState, array_of, carried_here}
use Rattle.due_model.specs.RunSteps.{run_state, run_state_after}
use Rattle.due_model.specs.Tasks.{is_writing}
use Rattle.trace_laws.specs.story_laws.specs.WholeRuns.{bytes_come}

-- It runs with the row, and this is its reply.
pub record IsRunning (s : ScenarioValue) (k : RunState) (row : Row) (c : Process) (reply : Reply) : Type 0 where
  pub runs : has_run (row_events_by s k.story (row_reading k.story.bus_state row) row) c.id ≡ true
  pub process_is : process_of s c.id ≡ Some c
  pub reply_is : reply_in (array_of s (run_state_after s k row)).replies c.id ≡ Some reply

-- All that it sends came, where it writes and ends GOOD; and its unit keeps the size of its blocks.
abbrev pub SendsAtRun : ScenarioValue → RunState → Row → Type 0
SendsAtRun s k row = (c : Process) (reply : Reply) → IsRunning s k row c reply → is_writing c ≡ true
    → (reply.status == GOOD) ≡ true → (length c.sent ≤ bytes_come s k c) × (is_of_size s k c ≡ true)

-- Any other has carried the bytes that it moves.
abbrev pub GivesAtRun : ScenarioValue → RunState → Row → Type 0
GivesAtRun s k row = (c : Process) (reply : Reply) → IsRunning s k row c reply
    → (is_writing c && reply.status == GOOD) ≡ false → (carried_here k c.id).moved.bytes ≡ moved_bytes c reply

-- Of all rows.
abbrev pub AllMove : ScenarioValue → List Row → Type 0
AllMove s [] = ⊤
AllMove s (row ∷ rows) = AllMove s rows × SendsAtRun s (run_state s rows) row × GivesAtRun s (run_state s rows) row

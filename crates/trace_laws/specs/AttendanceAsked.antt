-- What is asked of a row, so that its events are those that the target of its connection rests on: the plain disk array
-- permits them, what begins a connection is placed, and what fails or was answered is so by the phase (6.1.6, 6.6.5,
-- 7.3).
use Rattle.std.specs.Prelude.{ℕ, ◌≡◌, ◌||◌, true, false, List, [], ◌∷◌, Some, None, is_some}
use Rattle.due_model.specs.bus_base.specs.declared.ProcId.{ProcId}
use Rattle.due_model.specs.bus_trace.specs.declared.Row.{Row}
use Rattle.due_model.specs.bus_trace.specs.declared.connection.Connection.{Connection}
use Rattle.due_model.specs.bus_trace.specs.Phases.{changes_phase}
use Rattle.due_model.specs.bus_trace.specs.Terms.{connection}
use Rattle.due_model.specs.bus_trace.specs.Trace.{bus}
use Rattle.due_model.specs.scenario.specs.Value.{ScenarioValue}
use Rattle.due_model.specs.array_model.specs.ArrayHistory.{reply_in}
use Rattle.due_model.specs.array_model.specs.Execution.{Reply}
use Rattle.due_model.specs.array_model.specs.Steps.{running_process}
use Rattle.due_model.specs.array_model.specs.Units.{Array, RunningProcess}
use Rattle.due_model.specs.story_model.specs.BusState.{row_reading}
use Rattle.due_model.specs.story_model.specs.Items.{process}
use Rattle.due_model.specs.dialogue_model.specs.NextPhase.{phase_of}
use Rattle.due_model.specs.Allowed.{is_allowed}
use Rattle.due_model.specs.RunState.{RunState, array_of, bus_of, carried_here, item_of}
use Rattle.due_model.specs.RunSteps.{run_state, events_of_row}
use Rattle.due_model.specs.bus_base.specs.declared.Event.TheVariants as events
use Rattle.due_model.specs.dialogue_model.specs.declared.exchange.Next.TheVariants as nexts
use Rattle.due_model.specs.dialogue_model.specs.declared.exchange.Phase.TheVariants as phases

-- The reply that the array has given to the process has this status.
pub record HasGiven (a : Array) (id : ProcId) (status : ℕ) : Type 0 where
  pub reply : Reply
  pub given : reply_in a.replies id ≡ Some reply
  pub status_is : reply.status ≡ status

-- A process ends with the status of its reply.
abbrev pub EndsAsGiven : ScenarioValue → List Row → Row → Type 0
EndsAsGiven s rows row = (n : Connection) (id : ProcId) (status : ℕ) → connection rows ≡ Some n → (bus rows).rst ≡ false
    → (run_state s rows).served ≡ Some (process id) → events_of_row s rows row ≡ (events.End id status ∷ [])
    → HasGiven (array_of s (run_state s rows)) id status

-- As a selection begins a connection its process has no reply.
abbrev pub BeginsUnanswered : ScenarioValue → List Row → Row → Type 0
BeginsUnanswered s rows row = (n : Connection) (id : ProcId) → connection rows ≡ None → connection (row ∷ rows) ≡ Some n
    → (bus (row ∷ rows)).rst ≡ false → n.reselected ≡ false → (run_state s (row ∷ rows)).served ≡ Some (process id)
    → reply_in (array_of s (run_state s (row ∷ rows))).replies id ≡ None

-- The reply that the process of a connection has is the one that was given.
abbrev pub HasReplyGiven : Array → ProcId → Type 0
HasReplyGiven a id = (running : RunningProcess) (reply : Reply) → running_process a id ≡ Some running
    → running.reply ≡ Some reply → reply_in a.replies id ≡ Some reply

abbrev pub RepliesGiven : ScenarioValue → List Row → Type 0
RepliesGiven s rows = (n : Connection) (id : ProcId) → connection rows ≡ Some n → (bus rows).rst ≡ false
    → (run_state s rows).served ≡ Some (process id) → HasReplyGiven (array_of s (run_state s rows)) id

-- COMMAND with a byte struck has failed; and an answer was given where STATUS follows a message.
pub record LeftAnswered (k : RunState) (id : ProcId) : Type 0 where
  pub command : phase_of (bus_of k) ≡ phases.Command → k.exchange.plan.struck ≡ true
      → is_some (carried_here k id).failure ≡ true
  pub message : phase_of (bus_of k) ≡ phases.MessageIn → (bus_of k).atn ≡ false → k.exchange.plan.next ≡ nexts.Status
      → ((carried_here k id).shown || (carried_here k id).refused) ≡ true

-- As the present phase, which has begun, is left.
abbrev pub LeavesAnswered : ScenarioValue → List Row → Row → Type 0
LeavesAnswered s rows row = (n : Connection) (id : ProcId) → connection rows ≡ Some n
    → (bus rows).rst ≡ false → (bus (row ∷ rows)).rst ≡ false → (run_state s rows).exchange.begun ≡ true
    → changes_phase (row_reading (run_state s rows).story.bus_state row).change ≡ true
    → item_of (run_state s rows).story.link ≡ Some (process id) → LeftAnswered (run_state s rows) id

pub record AttendanceAsked (s : ScenarioValue) (rows : List Row) (row : Row) : Type 0 where
  pub allowed : is_allowed s (run_state s rows) row (row_reading (run_state s rows).story.bus_state row) ≡ true
  pub begins : BeginsUnanswered s rows row
  pub leaves : LeavesAnswered s rows row
  pub replies : RepliesGiven s rows

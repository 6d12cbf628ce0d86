-- What is kept of the data that processes send: where their data pointers stand, and how many bytes of a run were asked
-- for and answered.
use Rattle.std.specs.Prelude.{◌+◌, ◌≡◌, ◌<◌, true, List, ◌∷◌, length, Some, None}
use Rattle.due_model.specs.bus_base.specs.declared.ProcId.{ProcId}
use Rattle.due_model.specs.bus_trace.specs.declared.Row.{Row}
use Rattle.due_model.specs.bus_trace.specs.declared.connection.Connection.{Connection}
use Rattle.due_model.specs.bus_trace.specs.Phases.{is_data}
use Rattle.due_model.specs.bus_trace.specs.Terms.{connection}
use Rattle.due_model.specs.scenario.specs.Value.{ScenarioValue}
use Rattle.due_model.specs.array_model.specs.Processes.{Process}
use Rattle.due_model.specs.story_model.specs.BusState.{row_reading}
use Rattle.due_model.specs.story_model.specs.Items.{process, has_item}
use Rattle.due_model.specs.dialogue_model.specs.declared.exchange.Task.{Task}
use Rattle.due_model.specs.dialogue_model.specs.Arrivals.{policy_of}
use Rattle.due_model.specs.dialogue_model.specs.DataRuns.{run_at}
use Rattle.due_model.specs.dialogue_model.specs.NextPhase.{phase_of}
use Rattle.due_model.specs.Defs.{target_def_of}
use Rattle.due_model.specs.RunState.{bus_of, process_here, process_served, carried_here}
use Rattle.due_model.specs.RunSteps.{run_state}
use Rattle.due_model.specs.Tasks.{is_writing, task_of}
use Rattle.row_laws.specs.DataPointers.{IsServedAnew}
use Rattle.story_laws.specs.RunCounts.{CountFacts}
use Rattle.story_laws.specs.RunFacts.{RunFacts}
use Rattle.due_model.specs.dialogue_model.specs.declared.exchange.Phase.TheVariants as phases

pub record DataFacts (s : ScenarioValue) (rows : List Row) : Type 0 where
  pub runs : RunFacts s rows
  pub counts : CountFacts s rows

-- What is asked of a row beside: that the process of a connection that begins is neither over nor has shown a reply,
-- and that the process that is served was sent.
pub record DataPremises (s : ScenarioValue) (rows : List Row) (row : Row) : Type 0 where
  pub anew : (n : Connection) → connection rows ≡ None → connection (row ∷ rows) ≡ Some n
      → IsServedAnew s (run_state s rows) n
  pub sent : (id : ProcId) → (run_state s rows).served ≡ Some (process id)
      → has_item (run_state s rows).story.sent.sent (process id) ≡ true

-- What the laws ask of a row of a connection: as a byte crosses the data pointer stands in what is sent, in DATA OUT as
-- many bytes after the beginning of the run as were answered.
pub record DataAsked (s : ScenarioValue) (rows : List Row) (row : Row) : Type 0 where
  pub moved : (c : Process) → process_here s (run_state s rows) ≡ Some c
      → (row_reading (run_state s rows).story.bus_state row).crosses ≡ true → is_data (bus_of (run_state s rows)) ≡ true
      → is_writing c ≡ true → (carried_here (run_state s rows) c.id).moved.active < length c.sent
  pub active_is : (row_reading (run_state s rows).story.bus_state row).crosses ≡ true
      → (c : Process) (t : Task) → process_served s (run_state s rows) ≡ Some c
      → task_of s (run_state s rows) ≡ Some t → phase_of (bus_of (run_state s rows)) ≡ phases.DataOut
      → (carried_here (run_state s rows) c.id).moved.active
      ≡ (run_at (policy_of (target_def_of s c.target)) t t.runs).start + (run_state s rows).handshakes.answers

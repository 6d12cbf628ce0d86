-- Where the data pointers of processes of one kind stand after some rows: of all that write, or of all others.
use Rattle.std.specs.Prelude.{◌≡◌, true, false, List, Some, None}
use Rattle.due_model.specs.bus_base.specs.declared.ProcId.{ProcId}
use Rattle.due_model.specs.bus_trace.specs.declared.Row.{Row}
use Rattle.due_model.specs.bus_trace.specs.declared.connection.Connection.{Connection}
use Rattle.due_model.specs.scenario.specs.Value.{ScenarioValue}
use Rattle.due_model.specs.array_model.specs.Processes.{Process, process_of, same_id}
use Rattle.due_model.specs.story_model.specs.Items.{process, has_item}
use Rattle.due_model.specs.RunState.{RunState, bus_of, process_served}
use Rattle.due_model.specs.RunSteps.{run_state}
use Rattle.due_model.specs.Tasks.{is_writing}
use Rattle.row_laws.specs.DataPointers.{IsWaiting, ServedPointers, UndoesServed}

-- In a connection, of the process that is served.
pub record IsServedWell (s : ScenarioValue) (k : RunState) (n : Connection) (q : Process) : Type 0 where
  pub target_is : q.target ≡ n.target
  pub pointers : ServedPointers s k q

-- What is kept of those of this kind.
pub record RunsBy (kind : Process → Type 0) (s : ScenarioValue) (k : RunState) : Type 0 where
  pub waits : (q : Process) → process_of s q.id ≡ Some q → kind q
      → ((x : ProcId) → k.served ≡ Some (process x) → same_id x q.id ≡ false) → IsWaiting s k q
  pub free : k.story.bus_state.connection ≡ None → k.served ≡ None
  pub reset : (n : Connection) (q : Process) → k.story.bus_state.connection ≡ Some n → (bus_of k).rst ≡ true
      → process_served s k ≡ Some q → kind q → has_item k.story.sent.over (process q.id) ≡ true
  pub undoes : (n : Connection) → k.story.bus_state.connection ≡ Some n → (bus_of k).rst ≡ false → UndoesServed k
  pub served : (n : Connection) (q : Process) → k.story.bus_state.connection ≡ Some n → (bus_of k).rst ≡ false
      → process_served s k ≡ Some q → kind q → IsServedWell s k n q

abbrev pub IsWriter : Process → Type 0
IsWriter q = is_writing q ≡ true

abbrev pub RunFacts : ScenarioValue → List Row → Type 0
RunFacts s rows = RunsBy IsWriter s (run_state s rows)

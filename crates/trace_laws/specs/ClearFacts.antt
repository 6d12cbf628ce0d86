-- Between its connections nothing has struck a process that is open and has no answer: as one is disconnected in the
-- middle of its data no byte that was struck is left to be carried again (6.6.6, 6.6.10, 6.6.19).
use Rattle.std.specs.Prelude.{◌≡◌, true, false, List, Some}
use Rattle.due_model.specs.bus_base.specs.declared.ProcId.{ProcId}
use Rattle.due_model.specs.bus_trace.specs.declared.Row.{Row}
use Rattle.due_model.specs.bus_trace.specs.declared.connection.Connection.{Connection}
use Rattle.due_model.specs.scenario.specs.Value.{ScenarioValue}
use Rattle.due_model.specs.array_model.specs.Processes.{same_id}
use Rattle.due_model.specs.story_model.specs.Items.{process, has_item}
use Rattle.due_model.specs.RunState.{RunState, bus_of, carried_here}
use Rattle.due_model.specs.RunSteps.{run_state}
use Rattle.story_laws.specs.row_laws.specs.DataPointers.{UndoesServed, is_marked}
use Rattle.trace_laws.specs.Failures.{IsClear}

-- Of a process that is not over and was not answered.
pub record StandsClear (k : RunState) (id : ProcId) : Type 0 where
  pub clear : has_item k.story.sent.over (process id) ≡ false → is_marked (carried_here k id) ≡ false
      → IsClear (carried_here k id)

-- Of all that no connection serves, and under RST of all; in a connection MESSAGE PARITY ERROR brings back no other.
pub record ClearBooks (k : RunState) : Type 0 where
  pub away : (id : ProcId) → ((x : ProcId) → k.served ≡ Some (process x) → same_id x id ≡ false) → StandsClear k id
  pub reset : (bus_of k).rst ≡ true → (id : ProcId) → StandsClear k id
  pub undoes : (n : Connection) → k.story.bus_state.connection ≡ Some n → (bus_of k).rst ≡ false → UndoesServed k

abbrev pub ClearFacts : ScenarioValue → List Row → Type 0
ClearFacts s rows = ClearBooks (run_state s rows)

-- What holds of each process of the plain disk array that was not answered; and of each event of a history.
use Rattle.std.specs.Prelude.{◌≡◌, List, [], ◌∷◌, None, Some, ⊤}
use Rattle.due_model.specs.bus_base.specs.declared.Event.{Event}
use Rattle.due_model.specs.bus_base.specs.declared.ProcId.{ProcId}
use Rattle.due_model.specs.bus_trace.specs.declared.Row.{Row}
use Rattle.due_model.specs.scenario.specs.Value.{ScenarioValue}
use Rattle.due_model.specs.array_model.specs.ArrayHistory.{reply_in}
use Rattle.due_model.specs.array_model.specs.Processes.{Process, process_of}
use Rattle.due_model.specs.array_model.specs.Units.{RunningProcess, Array}
use Rattle.due_model.specs.RunState.{RunState, array_of, carried_here}
use Rattle.due_model.specs.RunSteps.{run_state}
use Rattle.trace_laws.specs.row_laws.specs.Places.{Each}

abbrev pub OnEvents : (Event → Type 0) → List Event → Type 0
OnEvents q [] = ⊤
OnEvents q (e ∷ history) = q e × OnEvents q history

abbrev pub IfOpen : (ProcId → Type 0) → Array → RunningProcess → Type 0
IfOpen h a r = reply_in a.replies r.process.id ≡ None → h r.process.id

abbrev pub OnOpen : (ProcId → Type 0) → Array → Type 0
OnOpen h a = Each (IfOpen h a) (IfOpen h a) a

-- It has carried its whole command block.
abbrev pub HasBlock : ScenarioValue → RunState → ProcId → Type 0
HasBlock s k id = (c : Process) → process_of s id ≡ Some c → (carried_here k id).command.bytes ≡ c.cdb

abbrev pub BlockFacts : ScenarioValue → List Row → Type 0
BlockFacts s rows = OnOpen (HasBlock s (run_state s rows)) (array_of s (run_state s rows))

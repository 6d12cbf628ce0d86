-- What is kept of the processes that ran, and of those that ended.
use Rattle.std.specs.Prelude.{ℕ, ◌≡◌, true, false, List, [], ◌∷◌, Some, is_some, ⊤}
use Rattle.due_model.specs.bus_base.specs.declared.Event.{Event}
use Rattle.due_model.specs.bus_base.specs.declared.Event.TheVariants as events
use Rattle.due_model.specs.bus_base.specs.declared.ProcId.{ProcId}
use Rattle.due_model.specs.bus_trace.specs.declared.Row.{Row}
use Rattle.due_model.specs.scenario.specs.Value.{ScenarioValue}
use Rattle.due_model.specs.array_model.specs.ArrayHistory.{reply_in}
use Rattle.due_model.specs.array_model.specs.Execution.{Reply}
use Rattle.due_model.specs.array_model.specs.Processes.{Process, process_of}
use Rattle.due_model.specs.story_model.specs.BusState.{row_reading}
use Rattle.due_model.specs.story_model.specs.HistoryEvents.{row_events_by, is_completion}
use Rattle.due_model.specs.story_model.specs.Items.{process, has_item}
use Rattle.due_model.specs.story_model.specs.Links.{Link}
use Rattle.due_model.specs.story_model.specs.Right.{has_run, moved_bytes}
use Rattle.due_model.specs.RunState.{RunState, array_of, carried_here}
use Rattle.due_model.specs.RunSteps.{run_state, run_state_after}
use Rattle.right_laws.specs.Open.{OnEvents, HasBlock}

-- It is a process of the scenario with a reply, and has carried its command block and the bytes that it moves with this
-- reply.
abbrev pub HasMoved : ScenarioValue → RunState → ProcId → Type 0
HasMoved s k id = (c : Process) (reply : Reply) → process_of s id ≡ Some c
    → reply_in (array_of s k).replies id ≡ Some reply → (carried_here k id).moved.bytes ≡ moved_bytes c reply

pub record HasRun (s : ScenarioValue) (k : RunState) (id : ProcId) : Type 0 where
  pub process : Process
  pub process_is : process_of s id ≡ Some process
  pub given : is_some (reply_in (array_of s k).replies id) ≡ true
  pub block : HasBlock s k id
  pub moved : HasMoved s k id

abbrev pub RanBooks : ScenarioValue → RunState → Type 0
RanBooks s k = (id : ProcId) → has_run k.story.history id ≡ true → HasRun s k id

-- One that ended is over, with a reply; and its status is all that it has carried in STATUS.
pub record HasEnded (s : ScenarioValue) (k : RunState) (id : ProcId) (status : ℕ) : Type 0 where
  pub status_is : (carried_here k id).status.bytes ≡ status ∷ []
  pub over : has_item k.story.sent.over (process id) ≡ true

abbrev pub IsEnded : ScenarioValue → RunState → Event → Type 0
IsEnded s k (events.End id status) = HasEnded s k id status
IsEnded s k _ = ⊤

pub record RightFacts (s : ScenarioValue) (rows : List Row) : Type 0 where
  pub ran : RanBooks s (run_state s rows)
  pub ended : OnEvents (IsEnded s (run_state s rows)) (run_state s rows).story.history

-- ---- what is asked of a row

-- A process that runs with it has carried the bytes that it moves.
abbrev pub MovesAtRun : ScenarioValue → RunState → Row → Type 0
MovesAtRun s k row = (id : ProcId) (c : Process) (reply : Reply)
    → has_run (row_events_by s k.story (row_reading k.story.bus_state row) row) id ≡ true
    → process_of s id ≡ Some c → reply_in (array_of s (run_state_after s k row)).replies id ≡ Some reply
    → (carried_here k id).moved.bytes ≡ moved_bytes c reply

-- As COMMAND COMPLETE is taken one byte of STATUS was carried.
abbrev pub StatusAtEnd : RunState → Row → Type 0
StatusAtEnd k row = (l : Link) (id : ProcId) → k.story.link ≡ Some l
    → l.item ≡ Some (process id) → (row_reading k.story.bus_state row).change.after.rst ≡ false
    → is_some (row_reading k.story.bus_state row).next ≡ true
    → is_completion l (row_reading k.story.bus_state row).change ≡ true
    → (status : ℕ) × ((carried_here k id).status.bytes ≡ status ∷ [])

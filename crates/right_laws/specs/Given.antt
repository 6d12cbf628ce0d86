-- What a process that is not over has given or sent of its data: none, or some where a write would end GOOD if it ran
-- now, and any other has given a front of what it would give then (6.1.5, 6.6.20); and what this asks of a row.
use Rattle.std.specs.Prelude.{ℕ, ◌%◌, ◌≡◌, ◌≤◌, ◌<◌, ◌⊎◌, true, false, List, [], ◌++◌, length, slice_index_or, Some}
use Rattle.std.specs.Prelude.{is_some}
use Rattle.due_model.specs.bus_base.specs.declared.ProcId.{ProcId}
use Rattle.due_model.specs.bus_trace.specs.Phases.{changes_phase, is_command, is_data}
use Rattle.due_model.specs.bus_trace.specs.declared.Row.{Row}
use Rattle.due_model.specs.cdb_codec.specs.declared.status.TheConstants.{GOOD}
use Rattle.due_model.specs.scenario.specs.Value.{ScenarioValue}
use Rattle.due_model.specs.array_model.specs.Execution.{Reply}
use Rattle.due_model.specs.array_model.specs.Processes.{Process, process_of}
use Rattle.due_model.specs.array_model.specs.Units.{Array}
use Rattle.due_model.specs.story_model.specs.BusState.{row_reading}
use Rattle.due_model.specs.story_model.specs.Items.{process}
use Rattle.due_model.specs.story_model.specs.Links.{Link}
use Rattle.due_model.specs.RunState.{RunState, array_of, carried_here}
use Rattle.due_model.specs.RunSteps.{run_state, run_state_after}
use Rattle.due_model.specs.Tasks.{is_writing, reply_now}
use Rattle.right_laws.specs.Asked.{IsRunning}
use Rattle.right_laws.specs.Open.{OnOpen}

pub record IsFront (bytes all : List ℕ) : Type 0 where
  pub rest : List ℕ
  pub all_is : bytes ++ rest ≡ all

pub record GivesGood (a : Array) (c : Process) (bytes : List ℕ) : Type 0 where
  pub good : is_writing c ≡ true → (reply_now a c).status ≡ GOOD
  pub front : is_writing c ≡ false → IsFront bytes (reply_now a c).bytes

abbrev pub GivenIn : Array → Process → List ℕ → Type 0
GivenIn a c bytes = (bytes ≡ []) ⊎ GivesGood a c bytes

-- By this array, and by what it has carried.
abbrev pub HasGiven : ScenarioValue → Array → RunState → ProcId → Type 0
HasGiven s a k id = (c : Process) → process_of s id ≡ Some c → GivenIn a c (carried_here k id).moved.bytes

-- Of each process that waits, or runs, and has no reply.
abbrev pub GivenFacts : ScenarioValue → List Row → Type 0
GivenFacts s rows =
    OnOpen (HasGiven s (array_of s (run_state s rows)) (run_state s rows)) (array_of s (run_state s rows))

-- ---- what is asked of a row

-- As a byte of its data crosses: a write would end GOOD; any other gives the byte at its pointer, which stands in what
-- it has carried, or at its end, and in what it gives.
pub record GivesNext (s : ScenarioValue) (k : RunState) (c : Process) (id : ProcId) (byte : ℕ) : Type 0 where
  pub good : is_writing c ≡ true → (reply_now (array_of s k) c).status ≡ GOOD
  pub byte_is : is_writing c ≡ false
      → byte ≡ slice_index_or (reply_now (array_of s k) c).bytes (carried_here k id).moved.active 0
  pub active_in : is_writing c ≡ false → (carried_here k id).moved.active ≤ length (carried_here k id).moved.bytes
  pub within : is_writing c ≡ false → (carried_here k id).moved.active < length (reply_now (array_of s k) c).bytes

abbrev pub GivesAtCrossing : ScenarioValue → RunState → Row → Type 0
GivesAtCrossing s k row = (l : Link) (id : ProcId) (c : Process) → k.story.link ≡ Some l
    → l.item ≡ Some (process id) → process_of s id ≡ Some c → (row_reading k.story.bus_state row).crosses ≡ true
    → is_data (row_reading k.story.bus_state row).change.before ≡ true
    → GivesNext s k c id ((row_reading k.story.bus_state row).change.after.data_bits % 256)

-- As COMMAND is left no data were carried.
abbrev pub NoneAtArrival : RunState → Row → Type 0
NoneAtArrival k row = (l : Link) (id : ProcId) → k.story.link ≡ Some l
    → l.item ≡ Some (process id) → (row_reading k.story.bus_state row).change.after.rst ≡ false
    → is_some (row_reading k.story.bus_state row).next ≡ true
    → changes_phase (row_reading k.story.bus_state row).change ≡ true
    → is_command (row_reading k.story.bus_state row).change.before ≡ true → (carried_here k id).moved.bytes ≡ []

-- As it runs as many bytes were carried as its reply has.
abbrev pub WholeAtRun : ScenarioValue → RunState → Row → Type 0
WholeAtRun s k row = (c : Process) (reply : Reply) → IsRunning s k row c reply → is_writing c ≡ false
    → length reply.bytes ≤ length (carried_here k c.id).moved.bytes

-- One that has carried some of its data has the reply that it had.
abbrev pub HasReplyStill : ScenarioValue → RunState → RunState → ProcId → Type 0
HasReplyStill s k j id = (c : Process) → process_of s id ≡ Some c → ((carried_here j id).moved.bytes ≡ [] → ⊥)
    → reply_now (array_of s j) c ≡ reply_now (array_of s k) c

pub record GivesAsked (s : ScenarioValue) (k : RunState) (row : Row) : Type 0 where
  pub crosses : GivesAtCrossing s k row
  pub arrives : NoneAtArrival k row
  pub whole : WholeAtRun s k row
  pub stays : OnOpen (HasReplyStill s k (run_state_after s k row)) (array_of s (run_state_after s k row))

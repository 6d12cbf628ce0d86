-- Which process last sent its unit a byte of the data of writes: one of the scenario that writes there; and the current
-- process of a unit, once it has made a run, until it has its reply (6.1.5.1, 7.8).
use Rattle.std.specs.Prelude.{ℕ, ◌≡◌, ◌==◌, nat_le, true, false, List, [], ◌∷◌, Some, None, ⊤}
use Rattle.due_model.specs.bus_base.specs.declared.ProcId.{ProcId}
use Rattle.due_model.specs.bus_trace.specs.declared.Row.{Row}
use Rattle.due_model.specs.bus_trace.specs.declared.connection.Connection.{Connection}
use Rattle.due_model.specs.bus_trace.specs.Changes.{change_of}
use Rattle.due_model.specs.bus_trace.specs.Phases.{changes_phase}
use Rattle.due_model.specs.bus_trace.specs.Terms.{connection}
use Rattle.due_model.specs.bus_trace.specs.Trace.{bus}
use Rattle.due_model.specs.scenario.specs.Value.{ScenarioValue}
use Rattle.due_model.specs.array_model.specs.Processes.{Process, process_of, same_id}
use Rattle.due_model.specs.array_model.specs.Units.{RunningProcess, UnitState, guest_at}
use Rattle.due_model.specs.dialogue_model.specs.declared.exchange.Task.{Task}
use Rattle.due_model.specs.dialogue_model.specs.Arrivals.{policy_of}
use Rattle.due_model.specs.dialogue_model.specs.DataRuns.{run_length}
use Rattle.due_model.specs.dialogue_model.specs.Hearing.{begun}
use Rattle.due_model.specs.dialogue_model.specs.NextPhase.{phase_of}
use Rattle.due_model.specs.Defs.{target_def_of}
use Rattle.due_model.specs.LastingState.{ProcessProgress, progress_in}
use Rattle.due_model.specs.RunState.{RunState, array_of, bus_of, process_served}
use Rattle.due_model.specs.RunSteps.{run_state}
use Rattle.due_model.specs.Tasks.{is_writing, task_of}
use Rattle.scsi_device.specs.Heard.{instructions}
use Rattle.scsi_device.specs.Writes.{Writer, writer_of, writers, is_of_size}
use Rattle.row_laws.specs.HeardPlaces.{ArePlaced}
use Rattle.row_laws.specs.ItemFacts.{AllP}
use Rattle.row_laws.specs.Places.{Runs}
use Rattle.due_model.specs.dialogue_model.specs.declared.exchange.Phase.TheVariants as phases

-- ---- of each unit

abbrev pub AllUnits : (UnitState → Type 0) → List UnitState → Type 0
AllUnits q [] = ⊤
AllUnits q (u ∷ units) = q u × AllUnits q units

-- A process that writes has made no run.
abbrev pub IsUnrun : List ProcessProgress → Process → Type 0
IsUnrun made c = is_writing c ≡ true → (progress_in made c.id).runs ≡ 0

-- One that has made a run, and has no reply, last sent its unit a byte.
abbrev pub IsLastWriter : List ProcessProgress → List Writer → RunningProcess → Type 0
IsLastWriter made all r =
    is_writing r.process ≡ true → r.reply ≡ None → ((progress_in made r.process.id).runs == 0) ≡ false
    → writer_of all r.process.target r.process.unit ≡ Some r.process.id

abbrev pub IsOther : RunningProcess → Process → Type 0
IsOther r c = same_id c.id r.process.id ≡ false

-- Those that wait have made no run, and are others than the current one.
pub record IsWrittenUnit (made : List ProcessProgress) (all : List Writer) (u : UnitState) : Type 0 where
  pub waits : AllP (IsUnrun made) u.waiting
  pub current : Runs (IsLastWriter made all) u.current
  pub apart : Runs (λ r. AllP (IsOther r) u.waiting) u.current

-- No process stands there.
abbrev pub IsEmptyUnit : UnitState → Type 0
IsEmptyUnit u = AllP (λ p. ⊥) u.waiting × Runs (λ r. ⊥) u.current

-- ---- of all that is kept

-- The process that last sent a byte to this unit.
pub record IsWriterOf (s : ScenarioValue) (target unit : ℕ) (id : ProcId) : Type 0 where
  pub process : Process
  pub process_is : process_of s id ≡ Some process
  pub writes : is_writing process ≡ true
  pub target_is : process.target ≡ target
  pub unit_is : process.unit ≡ unit

-- Before the target of a connection knows the command, the process that it serves has made no run.
abbrev pub IsUnrunServed : ScenarioValue → List Row → Type 0
IsUnrunServed s rows = (n : Connection) (c : Process) → connection rows ≡ Some n → (bus rows).rst ≡ false
    → (instructions s rows).known ≡ false → process_served s (run_state s rows) ≡ Some c
    → (progress_in (run_state s rows).progress c.id).runs ≡ 0

-- In DATA OUT, once a byte has come, the process that is served last sent one.
abbrev pub IsPresentWriter : ScenarioValue → List Row → Type 0
IsPresentWriter s rows = (n : Connection) (c : Process) → connection rows ≡ Some n → (bus rows).rst ≡ false
    → (run_state s rows).exchange.begun ≡ true → phase_of (bus_of (run_state s rows)) ≡ phases.DataOut
    → process_served s (run_state s rows) ≡ Some c → ((run_state s rows).handshakes.answers == 0) ≡ false
    → writer_of (writers s rows) c.target c.unit ≡ Some c.id

pub record WriteFacts (s : ScenarioValue) (rows : List Row) : Type 0 where
  pub whose : (target unit : ℕ) (id : ProcId) → writer_of (writers s rows) target unit ≡ Some id
      → IsWriterOf s target unit id
  pub units : AllUnits (IsWrittenUnit (run_state s rows).progress (writers s rows))
      (array_of s (run_state s rows)).units
  pub reset : (bus rows).rst ≡ true → AllUnits IsEmptyUnit (array_of s (run_state s rows)).units
  pub unrun : IsUnrunServed s rows
  pub present : IsPresentWriter s rows

-- ---- what is asked of a row

-- In DATA OUT the process that is served is no guest.
abbrev pub IsNoGuest : ScenarioValue → List Row → Type 0
IsNoGuest s rows = (n : Connection) (c : Process) → connection rows ≡ Some n → (bus rows).rst ≡ false
    → (run_state s rows).exchange.begun ≡ true → phase_of (bus_of (run_state s rows)) ≡ phases.DataOut
    → process_served s (run_state s rows) ≡ Some c → guest_at (array_of s (run_state s rows)).guests c.id ≡ None

-- Of a run that has bytes all were answered.
pub record IsAnsweredWhole (s : ScenarioValue) (k : RunState) (c : Process) (t : Task) : Type 0 where
  pub whole : nat_le (run_length (policy_of (target_def_of s c.target)) t) k.handshakes.answers ≡ true
  pub some : (k.handshakes.answers == 0) ≡ false
  pub moves : (t.moved == 0) ≡ false

-- Under RST a connection that still stands is in DATA IN only for a process that does not write.
abbrev pub ReadsUnderRst : ScenarioValue → List Row → Type 0
ReadsUnderRst s rows = (n : Connection) (c : Process) → connection rows ≡ Some n → (bus rows).rst ≡ true
    → (run_state s rows).exchange.begun ≡ true → phase_of (bus_of (run_state s rows)) ≡ phases.DataIn
    → process_served s (run_state s rows) ≡ Some c → is_writing c ≡ false

-- Data move for a process that runs; the units keep the size of their blocks; and as DATA OUT is left with no byte
-- struck its run was answered whole.
pub record WritesAsked (s : ScenarioValue) (rows : List Row) (row : Row) : Type 0 where
  pub placed : ArePlaced s rows
  pub guests : IsNoGuest s rows
  pub resets : ReadsUnderRst s rows
  pub sizes : (c : Process) → process_served s (run_state s rows) ≡ Some c → is_of_size s (run_state s rows) c ≡ true
  pub answered : (n : Connection) (c : Process) (t : Task) → connection rows ≡ Some n → (bus rows).rst ≡ false
      → (bus (row ∷ rows)).rst ≡ false → connection (row ∷ rows) ≡ Some n → begun rows ≡ true
      → changes_phase (change_of rows row) ≡ true → phase_of (bus_of (run_state s rows)) ≡ phases.DataOut
      → (run_state s rows).exchange.plan.struck ≡ false → process_served s (run_state s rows) ≡ Some c
      → task_of s (run_state s rows) ≡ Some t → IsAnsweredWhole s (run_state s rows) c t

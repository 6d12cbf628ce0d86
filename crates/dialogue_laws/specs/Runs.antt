-- Where a process goes on with its data, where it is disconnected, and where its status follows (6.6.6, 6.6.20).
use Rattle.std.specs.Prelude.{ℕ, ◌≡◌, ◌⊎◌, Bool, false, not, ◌&&◌, List, ◌∷◌, Some, nat_lt, if◌then◌else◌}
use Rattle.due_model.specs.bus_base.specs.declared.Event.{Event}
use Rattle.due_model.specs.bus_trace.specs.Trace.{bus}
use Rattle.due_model.specs.bus_trace.specs.declared.Row.{Row}
use Rattle.due_model.specs.scenario.specs.Value.{ScenarioValue}
use Rattle.due_model.specs.scenario.specs.declared.value.Policy.{Policy}
use Rattle.due_model.specs.array_model.specs.Processes.{Process}
use Rattle.due_model.specs.bus_trace.specs.declared.connection.Connection.{Connection}
use Rattle.due_model.specs.dialogue_model.specs.Arrivals.{policy_of}
use Rattle.due_model.specs.dialogue_model.specs.declared.exchange.Arrival.{Arrival}
use Rattle.due_model.specs.dialogue_model.specs.declared.exchange.Arrival.TheVariants as arrivals
use Rattle.due_model.specs.dialogue_model.specs.declared.exchange.Next.{Next}
use Rattle.due_model.specs.array_model.specs.ArrayHistory.{reply_in}
use Rattle.due_model.specs.Defs.{target_def_of}
use Rattle.due_model.specs.Tasks.{arrival_of, reply_now, task_with}
use Rattle.due_model.specs.dialogue_model.specs.DataRuns.{runs_in_all}
use Rattle.due_model.specs.dialogue_model.specs.NextPhase.{phase_of}
use Rattle.due_model.specs.dialogue_model.specs.declared.exchange.Messages.{Messages}
use Rattle.due_model.specs.dialogue_model.specs.declared.exchange.Next.TheVariants as nexts
use Rattle.due_model.specs.dialogue_model.specs.declared.exchange.Phase.{Phase}
use Rattle.due_model.specs.dialogue_model.specs.declared.exchange.Phase.TheVariants as phases
use Rattle.due_model.specs.dialogue_model.specs.declared.exchange.Task.{Task}
use Rattle.due_model.specs.LastingState.{progress_in}
use Rattle.due_model.specs.RunState.{RunState, array_of, carried_here}
use Rattle.due_model.specs.RunSteps.{events_of_row, run_state}
use Rattle.progress_laws.specs.book_laws.specs.WrongParity.{is_struck_phase}
use Rattle.dialogue_laws.specs.Recoveries.{present_phase}

-- A data phase is left without a complaint of the initiator, and no byte to the target was struck: the run is done.
abbrev pub EndsRun : ScenarioValue → List Row → Type 0
EndsRun s rows =
    ((phase_of (bus rows) ≡ phases.DataIn) × ((bus rows).atn ≡ false))
    ⊎ ((phase_of (bus rows) ≡ phases.DataOut) × (is_struck_phase s rows ≡ false))

-- ---- a process at its target

abbrev pub policy_at : ScenarioValue → Connection → Policy
policy_at s n = policy_of (target_def_of s n.target)

-- What the target knows of it.
abbrev pub task_at : ScenarioValue → RunState → Process → Task
task_at s k p = task_with (array_of s k) (progress_in k.progress p.id) p (carried_here k p.id)
    (reply_now (array_of s k) p) (reply_in (array_of s k).replies p.id)

-- In how many runs its data are moved: in one, but for blocks where the policy cuts them; in none where it moves no
-- bytes.
abbrev pub all_runs : ScenarioValue → RunState → Connection → Process → ℕ
all_runs s k n p = runs_in_all (policy_at s n) (task_at s k p)

-- How many it has made.
abbrev pub runs_of : RunState → Process → ℕ
runs_of k p = (progress_in k.progress p.id).runs

-- ---- with the row after these

-- The target says these messages, and goes to BUS FREE after them; and this is told.
pub record Disconnects (s : ScenarioValue) (rows : List Row) (row : Row) (m : Messages) (shown : List Event) : Type
    0 where
  pub phase : present_phase (row ∷ rows) ≡ Some phases.MessageIn
  pub messages : (run_state s (row ∷ rows)).exchange.plan.messages ≡ m
  pub follows : (run_state s (row ∷ rows)).exchange.plan.next ≡ nexts.FreeBus
  pub told : events_of_row s rows row ≡ shown

-- Another phase follows, and this is told.
pub record Follows (s : ScenarioValue) (rows : List Row) (row : Row) (phase : Phase) (shown : List Event) : Type 0 where
  pub phase_is : present_phase (row ∷ rows) ≡ Some phase
  pub told : events_of_row s rows row ≡ shown

-- ---- what is left of the data

-- The process has no reply, and a data run to make.
abbrev pub has_run_left : Policy → Task → Bool
has_run_left policy t = not t.replied && nat_lt t.runs (runs_in_all policy t)

abbrev pub has_data_left : ScenarioValue → RunState → Connection → Process → Bool
has_data_left s k n p = has_run_left (policy_at s n) (task_at s k p)

abbrev pub data_phase : Task → Phase
data_phase t = if t.writes then phases.DataOut else phases.DataIn

-- ---- a command arrives: COMMAND is left, and no byte of it was struck

abbrev pub Arrives : ScenarioValue → List Row → Connection → Arrival → Type 0
Arrives s rows n a = (phase_of (bus rows) ≡ phases.Command) × (is_struck_phase s rows ≡ false)
    × (arrival_of s (run_state s rows) (policy_at s n) ≡ a)

-- It is neither refused nor queued.
abbrev pub GoesOnAtOnce : ScenarioValue → List Row → Connection → Type 0
GoesOnAtOnce s rows n = Arrives s rows n arrivals.AtOnce ⊎ Arrives s rows n arrivals.Guest

-- ---- MESSAGE IN is left without a complaint of the initiator, and the target means to go on so

abbrev pub HasSaid : ScenarioValue → List Row → Next → Type 0
HasSaid s rows next =
    (phase_of (bus rows) ≡ phases.MessageIn) × ((bus rows).atn ≡ false) × ((run_state s rows).exchange.plan.next ≡ next)

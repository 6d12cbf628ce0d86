-- How the target goes on as it leaves a phase in which parity was wrong: it recovers, or gives up the process (6.6.10,
-- 6.6.13, 6.6.19).
use Rattle.std.specs.Prelude.{ℕ, ◌+◌, ◌≡◌, Bool, true, false, not, ◌&&◌, List, [], ◌∷◌, Option, Some, None, nat_lt}
use Rattle.due_model.specs.bus_base.specs.declared.Event.TheVariants as events
use Rattle.due_model.specs.bus_trace.specs.Changes.{change_of}
use Rattle.due_model.specs.bus_trace.specs.LineSet.{LineSet}
use Rattle.due_model.specs.bus_trace.specs.Phases.{changes_phase}
use Rattle.due_model.specs.bus_trace.specs.Terms.{connection}
use Rattle.due_model.specs.bus_trace.specs.Trace.{bus}
use Rattle.due_model.specs.bus_trace.specs.declared.Row.{Row}
use Rattle.due_model.specs.bus_trace.specs.declared.connection.Connection.{Connection}
use Rattle.due_model.specs.scenario.specs.Value.{ScenarioValue}
use Rattle.due_model.specs.array_model.specs.Processes.{Process}
use Rattle.due_model.specs.array_model.specs.Seats.{in_hold}
use Rattle.due_model.specs.array_model.specs.Units.{nexus_of}
use Rattle.due_model.specs.dialogue_model.specs.declared.exchange.Cause.{Cause}
use Rattle.due_model.specs.dialogue_model.specs.declared.exchange.Messages.{Messages}
use Rattle.due_model.specs.dialogue_model.specs.declared.exchange.Next.{Next}
use Rattle.due_model.specs.dialogue_model.specs.declared.exchange.Phase.{Phase}
use Rattle.due_model.specs.dialogue_model.specs.declared.exchange.Phase.TheVariants as phases
use Rattle.due_model.specs.dialogue_model.specs.NextPhase.{phase_of, recovery_limit}
use Rattle.due_model.specs.dialogue_model.specs.PhaseBytes.{one_if}
use Rattle.due_model.specs.Defs.{target_def_of}
use Rattle.due_model.specs.LastingState.{progress_in}
use Rattle.due_model.specs.RunState.{RunState, array_of, process_served}
use Rattle.due_model.specs.RunSteps.{events_of_row, run_state}
use Rattle.progress_laws.specs.row_laws.specs.Tells.{IsLeaving}

-- The phase of the connection after these rows; without a connection BUS FREE.
abbrev pub phase_if : Option Connection → LineSet → Option Phase
phase_if None lines = None
phase_if (Some n) lines = Some (phase_of lines)

abbrev pub present_phase : List Row → Option Phase
present_phase rows = phase_if (connection rows) (bus rows)

-- With this row the target of this connection leaves a phase that has begun, for another or for BUS FREE, while it
-- serves this process; RST is false.
pub record LeavesPhase (s : ScenarioValue) (rows : List Row) (row : Row) (n : Connection) (c : Process) : Type 0 where
  pub leaving_row : IsLeaving s rows row n
  pub served : process_served s (run_state s rows) ≡ Some c

-- With this row the phase of this connection lasts, and RST is false.
pub record IsWithin (rows : List Row) (row : Row) (n : Connection) : Type 0 where
  pub before : connection rows ≡ Some n
  pub after : connection (row ∷ rows) ≡ Some n
  pub calm : (bus rows).rst ≡ false
  pub calm_after : (bus (row ∷ rows)).rst ≡ false
  pub lasts : changes_phase (change_of rows row) ≡ false

-- ---- how many recoveries a process has

-- For an initiator that stands in the hold of the unit none counts.
abbrev pub is_uncounted : ScenarioValue → RunState → Process → Bool
is_uncounted s k c = in_hold (array_of s k).holds (nexus_of c)

abbrev pub recoveries_of : RunState → Process → ℕ
recoveries_of k c = (progress_in k.progress c.id).recoveries

-- One more would count, and as many were counted as the limit of the target.
abbrev pub is_spent : ScenarioValue → RunState → Connection → Process → Bool
is_spent s k n c =
    not (is_uncounted s k c) && not (nat_lt (recoveries_of k c) (recovery_limit (target_def_of s n.target)))

-- ---- with the row after these

-- MESSAGE IN follows, in which the target has these messages to say, and after which it means to go on so; nothing is
-- told. One recovery more is counted, if any.
pub record Repeats (s : ScenarioValue) (rows : List Row) (row : Row) (c : Process) (m : Messages) (next : Next)
    (counts : Bool) : Type 0 where
  pub phase : present_phase (row ∷ rows) ≡ Some phases.MessageIn
  pub messages : (run_state s (row ∷ rows)).exchange.plan.messages ≡ m
  pub follows : (run_state s (row ∷ rows)).exchange.plan.next ≡ next
  pub counted : recoveries_of (run_state s (row ∷ rows)) c ≡ recoveries_of (run_state s rows) c + one_if counts
  pub silent : events_of_row s rows row ≡ []

-- A recovery.
abbrev pub Recovers : ScenarioValue → List Row → Row → Process → Messages → Next → Type 0
Recovers s rows row c m next = Repeats s rows row c m next (not (is_uncounted s (run_state s rows) c))

-- STATUS follows, and the process fails with this code of ABORTED COMMAND.
pub record FailsWith (s : ScenarioValue) (rows : List Row) (row : Row) (c : Process) (code : ℕ) : Type 0 where
  pub phase : present_phase (row ∷ rows) ≡ Some phases.Status
  pub shown : events_of_row s rows row ≡ events.Fail c.id code ∷ []

-- BUS FREE follows, and the process is lost.
pub record IsLost (s : ScenarioValue) (rows : List Row) (row : Row) (c : Process) : Type 0 where
  pub phase : present_phase (row ∷ rows) ≡ None
  pub shown : events_of_row s rows row ≡ events.Lost c.id ∷ []

-- The target recovers, or gives up exactly where the limit is spent.
abbrev pub RecoversUnless : Bool → Type 0 → Type 0 → Type 0
RecoversUnless spent recovers gives_up = (spent ≡ false → recovers) × (spent ≡ true → gives_up)

-- ---- MESSAGE OUT

-- It was asked for so: because of a selection, or of ATN in MESSAGE IN, DATA IN or STATUS.
abbrev pub IsAsked : ScenarioValue → List Row → Cause → Type 0
IsAsked s rows cause = (phase_of (bus rows) ≡ phases.MessageOut) × ((run_state s rows).exchange.plan.cause ≡ cause)

-- The last byte came with ATN false, and no byte was struck since they last began.
pub record HasTakenAll (k : RunState) : Type 0 where
  pub last : k.story.bus_state.dialogue.is_last ≡ true
  pub unstruck : k.exchange.plan.struck ≡ false

-- It follows, asked for so, and the initiator has these bytes to say.
pub record Complains (s : ScenarioValue) (rows : List Row) (row : Row) (cause : Cause) (words : List ℕ) : Type 0 where
  pub asked : IsAsked s (row ∷ rows) cause
  pub stands : present_phase (row ∷ rows) ≡ Some phases.MessageOut
  pub words_are : (run_state s (row ∷ rows)).exchange.speech.words ≡ words

-- How a target leaves a phase with wrong parity: it tries again, or it gives the process up; and which commands it
-- refuses (6.6.10, 6.6.13, 6.6.19, 7.8).
use Rattle.std.specs.Prelude.{ℕ, ◌≡◌, ◌≤◌, ◌⊎◌, ◌++◌, ◌&&◌, ◌||◌, Bool, true, false, is_some, nat_lt, List, ◌∷◌, Option}
use Rattle.std.specs.Prelude.{Some, None, if◌then◌else◌}
use Rattle.due_model.specs.bus_base.specs.declared.ProcId.{ProcId}
use Rattle.due_model.specs.bus_base.specs.declared.Event.TheVariants as events
use Rattle.due_model.specs.bus_trace.specs.declared.Row.{Row}
use Rattle.due_model.specs.bus_trace.specs.declared.connection.Connection.{Connection}
use Rattle.due_model.specs.bus_trace.specs.Changes.{change_of}
use Rattle.due_model.specs.bus_trace.specs.Phases.{changes_phase}
use Rattle.due_model.specs.bus_trace.specs.Terms.{connection}
use Rattle.due_model.specs.bus_trace.specs.Trace.{bus}
use Rattle.due_model.specs.scenario.specs.declared.value.Policy.{Policy}
use Rattle.due_model.specs.scenario.specs.declared.value.TargetDef.{TargetDef}
use Rattle.due_model.specs.scenario.specs.Value.{ScenarioValue}
use Rattle.due_model.specs.array_model.specs.Processes.{Process, process_of}
use Rattle.due_model.specs.dialogue_model.specs.declared.exchange.Cause.{Cause}
use Rattle.due_model.specs.dialogue_model.specs.declared.exchange.Cause.TheVariants as causes
use Rattle.due_model.specs.dialogue_model.specs.declared.exchange.Phase.{Phase}
use Rattle.due_model.specs.dialogue_model.specs.declared.exchange.Phase.TheVariants as phases
use Rattle.due_model.specs.dialogue_model.specs.declared.exchange.Plan.{Plan}
use Rattle.due_model.specs.dialogue_model.specs.declared.exchange.Task.{Task}
use Rattle.due_model.specs.dialogue_model.specs.Hearing.{begun}
use Rattle.due_model.specs.dialogue_model.specs.NextPhase.{phase_of, recovery_limit}
use Rattle.due_model.specs.dialogue_model.specs.Words.{is_naming}
use Rattle.due_model.specs.story_model.specs.TraceHistory.{row_events, story}
use Rattle.due_model.specs.Defs.{target_def_of}
use Rattle.due_model.specs.LastingState.{progress_in}
use Rattle.due_model.specs.RunState.{array_of, process_served}
use Rattle.due_model.specs.RunSteps.{run_state}
use Rattle.due_model.specs.Tasks.{arrival_of, task_of}
use Rattle.progress_laws.specs.book_laws.specs.FullQueues.{has_event, is_refusal, lacks_room}
use Rattle.progress_laws.specs.book_laws.specs.WrongParity.{gives_up, is_failure, is_loss, is_struck_phase}
use Rattle.progress_laws.specs.book_laws.specs.WrongParity.{is_wrong_phase, wrong_phases}

-- ---- a phase is left

-- With this row the target of the connection leaves the present phase, for another one or for BUS FREE, and RST is
-- false before and after.
pub record IsLeaving (rows : List Row) (row : Row) (n : Connection) : Type 0 where
  pub stands : connection rows ≡ Some n
  pub calm : (bus rows).rst ≡ false
  pub calm_after : (bus (row ∷ rows)).rst ≡ false
  pub begun_is : begun rows ≡ true
  pub leaves : (changes_phase (change_of rows row) ≡ true) ⊎ (connection (row ∷ rows) ≡ None)

-- The phase that follows; none is BUS FREE.
abbrev pub phase_after : List Row → Row → Option Phase
phase_after rows row = if is_some (connection (row ∷ rows)) then Some (phase_of (bus (row ∷ rows))) else None

-- ---- it is tried again, or given up

-- Of the names after a reselection, always; else while fewer recoveries than the target's limit were counted, and
-- always for an initiator that stands in the hold of the unit.
abbrev pub is_named_again : Plan → Phase → Cause → Bool
is_named_again plan phases.MessageOut causes.InMessage = is_naming plan.messages.first
is_named_again plan phase cause = false

abbrev pub is_tried_again : Option TargetDef → Plan → Task → Phase → Bool
is_tried_again def plan t phase =
    is_named_again plan phase plan.cause || (t.in_hold || nat_lt t.recoveries (recovery_limit def))

-- After COMMAND and DATA OUT, and after MESSAGE OUT in which the initiator complained of DATA IN: RESTORE POINTERS, or
-- STATUS; where it complained of STATUS RESTORE POINTERS, and where it complained of MESSAGE IN the same message, or
-- BUS FREE.
abbrev pub status_unless : Bool → Option Phase
status_unless again = Some (if again then phases.MessageIn else phases.Status)

abbrev pub free_unless : Bool → Option Phase
free_unless again = if again then Some phases.MessageIn else None

abbrev pub phase_after_wrong : Phase → Cause → Bool → Option Phase
phase_after_wrong phases.MessageOut causes.InStatus again = free_unless again
phase_after_wrong phases.MessageOut causes.InMessage again = free_unless again
phase_after_wrong phase cause again = status_unless again

-- ---- what is proved

-- At each row of a trace. A phase with wrong parity (`is_wrong_phase`: COMMAND or DATA OUT with a fault row in it, or
-- MESSAGE OUT in which the initiator complains of the phase before) is left for the recovery exactly where it is tried
-- again, and else to give up (`left`). A row with which a process fails, or is lost, leaves such a phase, of the kind
-- that its code names, after as many recoveries as the target's limit and more such phases (`failed`, `lost`); what a
-- target takes for struck has a fault row in it (`struck`), and no more recoveries are counted than phases with wrong
-- parity were left (`counted`). As a command arrives its target means to refuse it exactly where the array has no room
-- for it (`refused`).
pub record AreRecoveries (s : ScenarioValue) (rows : List Row) : Type 0 where
  pub left : (later before : List Row) (row : Row) (n : Connection) (t : Task)
      → rows ≡ later ++ row ∷ before → IsLeaving before row n → task_of s (run_state s before) ≡ Some t
      → is_wrong_phase (is_struck_phase s before) (run_state s before).exchange.plan (phase_of (bus before)) ≡ true
      → phase_after before row ≡ phase_after_wrong (phase_of (bus before)) (run_state s before).exchange.plan.cause
      (is_tried_again (target_def_of s n.target) (run_state s before).exchange.plan t (phase_of (bus before)))
  pub failed : (later before : List Row) (row : Row) (n : Connection) (id : ProcId) (code : ℕ)
      → rows ≡ later ++ row ∷ before → connection before ≡ Some n
      → has_event (row_events s (story s before) row) (events.Fail id code) ≡ true
      → (is_failure (run_state s before).exchange.plan.cause code (phase_of (bus before)) && gives_up s before row n id)
      ≡ true
  pub lost : (later before : List Row) (row : Row) (n : Connection) (c : Process) → rows ≡ later ++ row ∷ before
      → connection before ≡ Some n → connection (row ∷ before) ≡ None → (bus (row ∷ before)).rst ≡ false
      → process_of s c.id ≡ Some c → has_event (row_events s (story s before) row) (events.Lost c.id) ≡ true
      → (is_loss (run_state s before).exchange.plan.cause (phase_of (bus before)) && gives_up s before row n c.id)
      ≡ true
  pub struck : (later before : List Row) → rows ≡ later ++ before → (run_state s before).exchange.plan.struck ≡ true
      → is_struck_phase s before ≡ true
  pub counted : (later before : List Row) (id : ProcId) → rows ≡ later ++ before
      → (progress_in (run_state s before).progress id).recoveries ≤ wrong_phases s before id
  pub refused : (later before : List Row) (policy : Policy) (c : Process)
      → rows ≡ later ++ before → process_served s (run_state s before) ≡ Some c
      → is_refusal (arrival_of s (run_state s before) policy) ≡ lacks_room (array_of s (run_state s before)) c

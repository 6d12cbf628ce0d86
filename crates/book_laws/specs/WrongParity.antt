-- Phases in which parity was wrong, counted for a process; and that its target gives it up (6.6.10, 6.6.13, 6.6.19).
use Rattle.std.specs.Prelude.{ℕ, ◌+◌, Bool, true, false, not, ◌&&◌, ◌||◌, ◌==◌, List, [], ◌∷◌, Option, Some, None}
use Rattle.std.specs.Prelude.{is_some, is_none, nat_lt, if◌then◌else◌}
use Rattle.due_model.specs.bus_base.specs.declared.ProcId.{ProcId}
use Rattle.due_model.specs.bus_trace.specs.declared.Row.{Row}
use Rattle.due_model.specs.bus_trace.specs.declared.connection.Connection.{Connection}
use Rattle.due_model.specs.bus_trace.specs.Terms.{is_fault}
use Rattle.due_model.specs.bus_trace.specs.Phases.{changes_phase, is_message_out}
use Rattle.due_model.specs.cdb_codec.specs.declared.sense.TheConstants.{PARITY_ERROR, INITIATOR_DETECTED_ERROR}
use Rattle.due_model.specs.scenario.specs.declared.value.TargetDef.{TargetDef}
use Rattle.due_model.specs.scenario.specs.Value.{ScenarioValue}
use Rattle.due_model.specs.array_model.specs.Processes.{Process}
use Rattle.due_model.specs.story_model.specs.BusState.{RowReading, row_reading}
use Rattle.due_model.specs.story_model.specs.Items.{process}
use Rattle.due_model.specs.dialogue_model.specs.declared.exchange.Cause.{Cause}
use Rattle.due_model.specs.dialogue_model.specs.declared.exchange.Cause.TheVariants as causes
use Rattle.due_model.specs.dialogue_model.specs.declared.exchange.Phase.{Phase}
use Rattle.due_model.specs.dialogue_model.specs.declared.exchange.Phase.TheVariants as phases
use Rattle.due_model.specs.dialogue_model.specs.declared.exchange.Plan.{Plan}
use Rattle.due_model.specs.dialogue_model.specs.declared.exchange.Task.{Task}
use Rattle.due_model.specs.dialogue_model.specs.NextPhase.{phase_of, recovery_limit}
use Rattle.due_model.specs.dialogue_model.specs.PhaseBytes.{one_if}
use Rattle.due_model.specs.Defs.{target_def_of}
use Rattle.due_model.specs.Faithful.{same_process}
use Rattle.due_model.specs.RunState.{RunState, bus_of}
use Rattle.due_model.specs.RunSteps.{run_state}
use Rattle.due_model.specs.Sights.{leaving}
use Rattle.due_model.specs.Tasks.{task_of}

-- ---- one phase

-- A fault row stands in the present phase of the connection.
abbrev pub is_struck_after : RunState → Row → RowReading → Bool → Bool
is_struck_after k row d was =
    is_some k.story.bus_state.connection && is_some d.next && not (changes_phase d.change) && (is_fault row.kind || was)

abbrev pub is_struck_phase : ScenarioValue → List Row → Bool
is_struck_phase s [] = false
is_struck_phase s (row ∷ rows) =
    is_struck_after (run_state s rows) row (row_reading (run_state s rows).story.bus_state row) (is_struck_phase s rows)

-- MESSAGE OUT, for which the initiator raised ATN with a byte to it, and in which it answers no request of the target.
abbrev pub is_complaint : Plan → Cause → Bool
is_complaint plan causes.Selected = false
is_complaint plan causes.InMessage = is_none plan.said.offer
is_complaint plan causes.InData = true
is_complaint plan causes.InStatus = true

-- The target took a struck byte in COMMAND or DATA OUT, or the initiator complains of one.
abbrev pub is_wrong_phase : Bool → Plan → Phase → Bool
is_wrong_phase struck plan phases.Command = struck
is_wrong_phase struck plan phases.DataOut = struck
is_wrong_phase struck plan phases.MessageOut = is_complaint plan plan.cause
is_wrong_phase struck plan _ = false

-- ---- those that were left in connections whose target serves this process

-- To another phase, or to BUS FREE but by RST.
abbrev pub is_left : RunState → RowReading → Bool
is_left k d =
    is_some k.story.bus_state.connection && k.exchange.begun
    && (if is_some d.next then changes_phase d.change else not d.change.after.rst)

abbrev pub serves : RunState → ProcId → Bool
serves k id = same_process k.served (Some (process id)) && is_some k.served

abbrev pub leaves_wrong_phase : Bool → RunState → RowReading → ProcId → Bool
leaves_wrong_phase struck k d id =
    is_left k d && serves k id && is_wrong_phase struck k.exchange.plan (phase_of (bus_of k))

abbrev pub wrong_phases : ScenarioValue → List Row → ProcId → ℕ
wrong_phases s [] id = 0
wrong_phases s (row ∷ rows) id = wrong_phases s rows id + one_if (leaves_wrong_phase (is_struck_phase s rows)
    (run_state s rows) (row_reading (run_state s rows).story.bus_state row) id)

-- ---- giving up

-- SCSI PARITY ERROR after COMMAND or DATA OUT; INITIATOR DETECTED ERROR MESSAGE RECEIVED after DATA IN (8.2.14.3).
abbrev pub is_failure : Cause → ℕ → Phase → Bool
is_failure cause code phases.Command = code == PARITY_ERROR
is_failure cause code phases.DataOut = code == PARITY_ERROR
is_failure causes.InData code phases.MessageOut = code == INITIATOR_DETECTED_ERROR
is_failure cause code _ = false

-- To BUS FREE after MESSAGE IN or STATUS.
abbrev pub is_loss : Cause → Phase → Bool
is_loss causes.InMessage phases.MessageOut = true
is_loss causes.InStatus phases.MessageOut = true
is_loss cause _ = false

-- As many recoveries were counted as the target's limit allows, and so many phases with wrong parity are more than it;
-- its initiator does not stand in the hold of the unit, where none would count.
abbrev pub is_past_limit : Option TargetDef → Option Task → ℕ → Bool
is_past_limit def None count = false
is_past_limit def (Some t) count =
    not t.in_hold && not (nat_lt t.recoveries (recovery_limit def)) && nat_lt (recovery_limit def) count

-- The row after these rows is one with which the target of this connection gives up a process that has had more phases
-- with wrong parity than its limit.
abbrev pub gives_up : ScenarioValue → List Row → Row → Connection → ProcId → Bool
gives_up s rows row n id = leaves_wrong_phase (is_struck_phase s rows)
    (run_state s rows) (row_reading (run_state s rows).story.bus_state row) id
    && is_past_limit (target_def_of s n.target) (task_of s (run_state s rows)) (wrong_phases s (row ∷ rows) id)

-- ---- of a whole trace

-- The target of a connection goes to BUS FREE only where it is due to.
abbrev pub is_left_by : ScenarioValue → RunState → RowReading → Option Connection → Bool
is_left_by s k d None = true
is_left_by s k d (Some n) = d.change.after.rst || is_some d.next || is_none (leaving s k n.target).to

abbrev pub is_left_as_due : ScenarioValue → RunState → RowReading → Bool
is_left_as_due s k d = is_left_by s k d k.story.bus_state.connection

abbrev pub left_as_due : ScenarioValue → List Row → Bool
left_as_due s [] = true
left_as_due s (row ∷ rows) =
    left_as_due s rows && is_left_as_due s (run_state s rows) (row_reading (run_state s rows).story.bus_state row)

-- The process has had more phases with wrong parity than the limit of its target.
abbrev pub has_passed_limit : ScenarioValue → List Row → Process → Bool
has_passed_limit s rows p = nat_lt (recovery_limit (target_def_of s p.target)) (wrong_phases s rows p.id)

-- ---- the faults behind them

-- Fault rows in connections whose target serves this process.
abbrev pub is_fault_of : RunState → Row → ProcId → Bool
is_fault_of k row id = is_fault row.kind && is_some k.story.bus_state.connection && serves k id

abbrev pub fault_rows : ScenarioValue → List Row → ProcId → ℕ
fault_rows s [] id = 0
fault_rows s (row ∷ rows) id = fault_rows s rows id + one_if (is_fault_of (run_state s rows) row id)

-- The present phase is MESSAGE OUT after a phase to the initiator in which a fault row stands.
abbrev pub is_refusal_after : RunState → RowReading → Bool → Bool → Bool
is_refusal_after k d struck was =
    is_some k.story.bus_state.connection && is_some d.next
    && (if changes_phase d.change then d.change.before.io && struck && is_message_out d.change.after else was)

abbrev pub is_refusing : ScenarioValue → List Row → Bool
is_refusing s [] = false
is_refusing s (row ∷ rows) = is_refusal_after (run_state s rows) (row_reading (run_state s rows).story.bus_state row)
    (is_struck_phase s rows) (is_refusing s rows)

-- A complaint of the initiator is of such a phase.
abbrev pub is_complaining : Plan → Phase → Bool
is_complaining plan phases.MessageOut = is_complaint plan plan.cause
is_complaining plan _ = false

abbrev pub is_true_complaint : RunState → RowReading → Bool → Bool
is_true_complaint k d refusing = not (is_left k d && is_complaining k.exchange.plan (phase_of (bus_of k))) || refusing

abbrev pub complains_truly : ScenarioValue → List Row → Bool
complains_truly s [] = true
complains_truly s (row ∷ rows) =
    complains_truly s rows
    && is_true_complaint (run_state s rows) (row_reading (run_state s rows).story.bus_state row) (is_refusing s rows)

-- More fault rows than the limit of its target.
abbrev pub has_more_faults : ScenarioValue → List Row → Process → Bool
has_more_faults s rows p = nat_lt (recovery_limit (target_def_of s p.target)) (fault_rows s rows p.id)

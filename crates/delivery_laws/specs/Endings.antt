-- How each command ended, exactly: by the first row that ends it, and by what the plain disk array answered (6.1.3.1,
-- 7.3, 7.6, 7.8, 8.2.14).
use Rattle.std.specs.Prelude.{ℕ, ◌≡◌, ◌+◌, ◌==◌, ◌&&◌, ◌||◌, Bool, true, false, not, nat_lt, is_none, List, [], ◌∷◌}
use Rattle.std.specs.Prelude.{Option, Some, None, if◌then◌else◌}
use Rattle.due_model.specs.bus_base.specs.declared.ProcId.{ProcId}
use Rattle.due_model.specs.bus_base.specs.declared.Event.{Event}
use Rattle.due_model.specs.bus_base.specs.declared.Event.TheVariants as events
use Rattle.due_model.specs.bus_trace.specs.declared.Row.{Row}
use Rattle.due_model.specs.bus_trace.specs.declared.selection.Call.{Call}
use Rattle.due_model.specs.bus_trace.specs.declared.selection.Calling.{Calling}
use Rattle.due_model.specs.bus_trace.specs.Changes.{falls}
use Rattle.due_model.specs.cdb_codec.specs.declared.Sense.{Sense}
use Rattle.due_model.specs.cdb_codec.specs.declared.status.TheConstants.{CHECK_CONDITION, GOOD, QUEUE_FULL}
use Rattle.due_model.specs.scenario.specs.declared.value.CmdDef.{CmdDef}
use Rattle.due_model.specs.scenario.specs.Value.{ScenarioValue}
use Rattle.due_model.specs.array_model.specs.ArrayHistory.{array_after, reply_of}
use Rattle.due_model.specs.array_model.specs.Execution.{Reply, aborted_reply, queue_full}
use Rattle.due_model.specs.array_model.specs.Processes.{command_at, process_of, same_id}
use Rattle.due_model.specs.dialogue_model.specs.PhaseBytes.{one_if}
use Rattle.due_model.specs.story_model.specs.BusState.{RowReading, row_reading}
use Rattle.due_model.specs.story_model.specs.Items.{Item, command_id, command_item, has_item, sense_id}
use Rattle.due_model.specs.story_model.specs.Outcomes.{Outcome, ended_aborted, ended_check, ended_full, ended_good}
use Rattle.due_model.specs.story_model.specs.Outcomes.{ended_lost, ended_reset, ended_unanswered, has_end, outcome_of}
use Rattle.due_model.specs.story_model.specs.Outcomes.{reply_bytes}
use Rattle.due_model.specs.story_model.specs.Story.{Ending, Story, by_abort, by_loss, by_reset, by_status, is_aborted}
use Rattle.due_model.specs.story_model.specs.Story.{unanswered}
use Rattle.due_model.specs.story_model.specs.TraceHistory.{aim_of, retries_of, row_events, story, trace_history}
use Rattle.progress_laws.specs.book_laws.specs.FullQueues.{finds_full_queue_if, has_event, was_refused}
use Rattle.initiator.specs.Causes.{has_status, is_bus_reset, is_sense_abort}
use Rattle.delivery_laws.specs.Delivery.{HasRun, IsGiven, is_for_item}

-- ---- callings without an answer

-- A selection that was not answered.
abbrev pub is_unheard : Option Calling → Bool
is_unheard None = false
is_unheard (Some g) = is_none g.answered && not g.reselects

-- The call that stands is one, and its caller entered arbitration for this item.
abbrev pub is_unheard_call : List (Option Item) → Item → Option Call → Bool
is_unheard_call aims item None = false
is_unheard_call aims item (Some c) = is_unheard c.calling && is_for_item (aim_of aims c.caller) item

-- With this row SEL becomes false, and neither a connection nor RST ended the call.
abbrev pub is_end_in_vain : Story → RowReading → Item → Bool
is_end_in_vain b d item = (not d.change.after.rst && (is_none b.bus_state.connection && is_none d.next))
    && (falls d.change.before.sel d.change.after.sel && is_unheard_call b.aims item b.bus_state.call)

-- How often an initiator called for this item, and nobody answered.
abbrev pub calls_in_vain : ScenarioValue → List Row → Item → ℕ
calls_in_vain s [] item = 0
calls_in_vain s (row ∷ rows) item =
    calls_in_vain s rows item + one_if (is_end_in_vain (story s rows) (row_reading (story s rows).bus_state row) item)

-- More often than its initiator tries again.
abbrev pub is_tried_out : ScenarioValue → List Row → ℕ → CmdDef → Bool
is_tried_out s rows m c = nat_lt (retries_of s.hosts c.host) (calls_in_vain s rows (command_item m))

-- ---- the first row that ends a command

-- The event ends the command, the n-th: it ends with its status, or is lost; or it was sent, and a reset, or an abort
-- that concerns it, comes.
abbrev pub event_ending : Bool → ℕ → CmdDef → Event → Option Ending
event_ending sent m c (events.End id status) = if same_id id (command_id m) then Some (by_status status) else None
event_ending sent m c (events.Lost id) = if same_id id (command_id m) then Some by_loss else None
event_ending sent m c (events.Aborted host target unit what) =
    if sent && is_aborted host target unit what c then Some by_abort else None
event_ending sent m c (events.Reset dev) = if sent then Some by_reset else None
event_ending sent m c _ = None

abbrev pub first_of : Option Ending → Option Ending → Option Ending
first_of None later = later
first_of (Some e) later = Some e

-- Of these events, the newest first, the first that ends it.
abbrev pub events_ending : Bool → ℕ → CmdDef → List Event → Option Ending
events_ending sent m c [] = None
events_ending sent m c (e ∷ shown) = first_of (events_ending sent m c shown) (event_ending sent m c e)

-- A connection was begun for it.
abbrev pub was_sent : ScenarioValue → List Row → ℕ → Bool
was_sent s rows m = has_item (story s rows).sent.sent (command_item m)

-- The row after these rows ends it: its initiator has called for it too often, or the row shows an event that ends it.
abbrev pub row_ending : ScenarioValue → List Row → Row → ℕ → CmdDef → Option Ending
row_ending s rows row m c = first_of (if is_tried_out s (row ∷ rows) m c then Some unanswered else None)
    (events_ending (was_sent s (row ∷ rows) m) m c (row_events s (story s rows) row))

abbrev pub first_ending : ScenarioValue → List Row → ℕ → CmdDef → Option Ending
first_ending s [] m c = None
first_ending s (row ∷ rows) m c = first_of (first_ending s rows m c) (row_ending s rows row m c)

-- ---- the sense that does not come

-- A reset, or an abort that concerns its automatic REQUEST SENSE.
abbrev pub is_sense_stop : CmdDef → Event → Bool
is_sense_stop c e = is_bus_reset e || is_sense_abort c e

-- In this history, the newest event first, one came after the command had ended with CHECK CONDITION, and before its
-- automatic REQUEST SENSE ended.
abbrev pub was_sense_stopped : List Event → ℕ → CmdDef → Bool
was_sense_stopped [] m c = false
was_sense_stopped (e ∷ history) m c =
    (is_sense_stop c e && (has_status history (command_id m) CHECK_CONDITION && not (has_end history (sense_id m))))
    || was_sense_stopped history m c

-- ---- the outcome that follows

abbrev pub sense_if : Option Reply → Option Sense
sense_if None = None
sense_if (Some reply) = Some reply.sense

-- The sense of its own reply, unless its automatic REQUEST SENSE was stopped.
abbrev pub own_sense_of : ScenarioValue → List Event → ℕ → CmdDef → Option Sense
own_sense_of s history m c =
    if was_sense_stopped history m c then None else sense_if (reply_of (array_after s history) (command_id m))

abbrev pub status_outcome : ScenarioValue → List Event → ℕ → CmdDef → ℕ → Outcome
status_outcome s history m c status =
    if status == GOOD then ended_good (reply_bytes s history (command_id m))
    else if status == QUEUE_FULL then ended_full
    else ended_check (own_sense_of s history m c)

abbrev pub ending_outcome : ScenarioValue → List Event → ℕ → CmdDef → Ending → Outcome
ending_outcome s history m c (by_status status) = status_outcome s history m c status
ending_outcome s history m c by_loss = ended_lost
ending_outcome s history m c by_reset = ended_reset
ending_outcome s history m c by_abort = ended_aborted
ending_outcome s history m c unanswered = ended_unanswered

abbrev pub ending_outcome_if : ScenarioValue → List Event → ℕ → CmdDef → Option Ending → Option Outcome
ending_outcome_if s history m c None = None
ending_outcome_if s history m c (Some e) = Some (ending_outcome s history m c e)

-- By the first row that ends it, and by the reply that the plain disk array gave it.
abbrev pub first_outcome : ScenarioValue → List Row → ℕ → CmdDef → Option Outcome
first_outcome s rows m c = ending_outcome_if s (trace_history s rows) m c (first_ending s rows m c)

-- ---- tests of an outcome, and of an ending

abbrev pub is_unanswered : Option Outcome → Bool
is_unanswered (Some ended_unanswered) = true
is_unanswered _ = false

abbrev pub is_full : Option Outcome → Bool
is_full (Some ended_full) = true
is_full _ = false

abbrev pub is_by_status : ℕ → Option Ending → Bool
is_by_status status (Some (by_status x)) = x == status
is_by_status status _ = false

-- ---- what is proved

-- The reply of a process has this status.
pub record HasReplyOf (s : ScenarioValue) (history : List Event) (id : ProcId) (status : ℕ) : Type 0 where
  pub reply : Reply
  pub reply_is : reply_of (array_after s history) id ≡ Some reply
  pub status_is : reply.status ≡ status

-- Of a trace that has ended: how each command ended, exactly. Its outcome is that of the first row that ends it, with
-- the bytes, or the sense, of its own reply (`outcome`); it ends unanswered exactly where its initiator called for it
-- in vain more often than it tries again (`unanswered`), and with QUEUE FULL exactly where it was refused at a full
-- queue and its first end has that status (`full`). The status with which a command ended first is that of its reply
-- (`status`). A process has a reply exactly where it ran, failed or was refused, and that is the reply that it got
-- then: by its execution on the plain disk array, by the code of its failure, or QUEUE FULL (`given`, `ran`, `failed`,
-- `refused`).
pub record AreExact (s : ScenarioValue) (rows : List Row) : Type 0 where
  pub outcome : (m : ℕ) (c : CmdDef) → command_at s.commands m ≡ Some c
      → outcome_of s (story s rows) m ≡ first_outcome s rows m c
  pub unanswered : (m : ℕ) (c : CmdDef) → command_at s.commands m ≡ Some c
      → is_unanswered (outcome_of s (story s rows) m) ≡ is_tried_out s rows m c
  pub full : (m : ℕ) (c : CmdDef) → command_at s.commands m ≡ Some c → is_full (outcome_of s (story s rows) m)
      ≡ (was_refused s (trace_history s rows) (command_id m) && is_by_status QUEUE_FULL (first_ending s rows m c))
  pub status : (m status : ℕ) (c : CmdDef) → command_at s.commands m ≡ Some c
      → first_ending s rows m c ≡ Some (by_status status) → HasReplyOf s (trace_history s rows) (command_id m) status
  pub given : (id : ProcId) (reply : Reply) → reply_of (array_after s (trace_history s rows)) id ≡ Some reply
      → IsGiven s (trace_history s rows) id reply
  pub ran : (id : ProcId) (reply : Reply) → HasRun s (trace_history s rows) id reply
      → reply_of (array_after s (trace_history s rows)) id ≡ Some reply
  pub failed : (id : ProcId) (code : ℕ) → has_event (trace_history s rows) (events.Fail id code) ≡ true
      → reply_of (array_after s (trace_history s rows)) id ≡ Some (aborted_reply code)
  pub refused : (id : ProcId) → has_event (trace_history s rows) (events.Refuse id) ≡ true
      → reply_of (array_after s (trace_history s rows)) id ≡ Some queue_full

-- ---- which commands are refused

-- Of a history, the newest event first: each command that arrives is refused exactly where it finds the queue of its
-- unit full.
abbrev pub arrives_by_room : ScenarioValue → List Event → Event → Bool
arrives_by_room s before (events.Accept id) = not (finds_full_queue_if (array_after s before) (process_of s id))
arrives_by_room s before (events.Refuse id) = finds_full_queue_if (array_after s before) (process_of s id)
arrives_by_room s before _ = true

abbrev pub arrive_by_room : ScenarioValue → List Event → Bool
arrive_by_room s [] = true
arrive_by_room s (e ∷ history) = arrives_by_room s history e && arrive_by_room s history

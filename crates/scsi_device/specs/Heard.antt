-- What the target of a connection hears in it is of the process that it serves, and in each phase that process has come
-- as far as the phase says.
use Rattle.std.specs.Prelude.{ℕ, ◌%◌, Bool, true, false, not, ◌&&◌, ◌||◌, ◌==◌, List, [], ◌∷◌, ◌++◌, Option, Some, None}
use Rattle.std.specs.Prelude.{is_some, is_none, if◌then◌else◌}
use Rattle.bus_trace.specs.declared.Row.{Row}
use Rattle.bus_trace.specs.declared.connection.Connection.{Connection}
use Rattle.bus_trace.specs.Phases.{is_message_out, is_command, changes_phase}
use Rattle.due_model.specs.cdb_codec.specs.Cdb.{has_group_len}
use Rattle.scenario.specs.Value.{ScenarioValue}
use Rattle.due_model.specs.array_model.specs.Processes.{Process}
use Rattle.due_model.specs.array_model.specs.Units.{RunningProcess, Array, guest_at}
use Rattle.due_model.specs.array_model.specs.Steps.{running_process, is_waiting}
use Rattle.due_model.specs.array_model.specs.ArrayHistory.{reply_in}
use Rattle.due_model.specs.story_model.specs.BusState.{RowReading, row_reading}
use Rattle.due_model.specs.story_model.specs.Items.{Item, process, abort}
use Rattle.due_model.specs.story_model.specs.HistoryEvents.{abort_line_at}
use Rattle.due_model.specs.story_model.specs.Right.{same_bytes}
use Rattle.due_model.specs.dialogue_model.specs.declared.exchange.Cause.{Cause}
use Rattle.due_model.specs.dialogue_model.specs.declared.exchange.Cause.TheVariants as causes
use Rattle.due_model.specs.dialogue_model.specs.declared.exchange.Hearing.{Hearing}
use Rattle.due_model.specs.dialogue_model.specs.declared.exchange.Next.{Next}
use Rattle.due_model.specs.dialogue_model.specs.declared.exchange.Next.TheVariants as nexts
use Rattle.due_model.specs.dialogue_model.specs.declared.exchange.Phase.{Phase}
use Rattle.due_model.specs.dialogue_model.specs.declared.exchange.Phase.TheVariants as phases
use Rattle.due_model.specs.dialogue_model.specs.declared.exchange.Plan.{Plan}
use Rattle.due_model.specs.dialogue_model.specs.declared.exchange.Said.{Said}
use Rattle.due_model.specs.dialogue_model.specs.NextPhase.{phase_of}
use Rattle.due_model.specs.dialogue_model.specs.Ends.{follows_by}
use Rattle.due_model.specs.LastingState.{ProcessProgress, progress_in}
use Rattle.due_model.specs.RunState.{RunState, array_of, bus_of, drives_of, item_of, process_item, process_served}
use Rattle.due_model.specs.RunState.{carried_here}
use Rattle.due_model.specs.RunSteps.{run_state}
use Rattle.due_model.specs.Sights.{hearing_of, leaving, pace_of, serving_of}
use Rattle.due_model.specs.Faithful.{is_process_named, is_true_leaving, same_process}

-- ---- what the target has been told in the connection that stands: the opening, once that is left (6.6); the bytes of
-- the last COMMAND phase (6.1.6); and whether it knows the command, since COMMAND was left with no byte struck, or
-- since it reselected

pub record Instructions : Type 0 where
  pub opening : Option Said
  pub block : List ℕ
  pub known : Bool

abbrev pub no_instructions : Instructions
no_instructions = record { opening = None; block = []; known = false }

abbrev pub is_selected : Cause → Bool
is_selected causes.Selected = true
is_selected causes.InMessage = false
is_selected causes.InData = false
is_selected causes.InStatus = false

-- The first MESSAGE OUT phase after a selection is left with this row.
abbrev pub leaves_opening : Hearing → Plan → Bool
leaves_opening w p = w.begun && changes_phase w.change && is_message_out w.change.before && is_selected p.cause

-- COMMAND is left with this row, and no byte of it was struck.
abbrev pub leaves_command : Hearing → Plan → Bool
leaves_command w p = w.begun && changes_phase w.change && is_command w.change.before && not p.struck

abbrev pub block_after : Hearing → List ℕ → List ℕ
block_after w block =
    if changes_phase w.change then (if is_command w.change.after then [] else block)
    else if w.crosses && is_command w.change.before then block ++ w.change.after.data_bits % 256 ∷ []
    else block

-- The plan is that before the row.
abbrev pub instructions_with : Hearing → Plan → Instructions → Instructions
instructions_with w p i = record {
  opening = if leaves_opening w p then Some p.said else i.opening;
  block = block_after w i.block;
  known = leaves_command w p;
}

abbrev pub instructions_on : Hearing → Plan → Instructions → Instructions
instructions_on w p i = if i.known then i else instructions_with w p i

abbrev pub instructions_after : Option Connection → Option Connection → Hearing → Plan → Instructions → Instructions
instructions_after before None w p i = no_instructions
instructions_after None (Some n) w p i = record no_instructions { known = n.reselected }
instructions_after (Some m) (Some n) w p i = instructions_on w p i

abbrev pub instructions_by : RunState → Row → RowReading → Instructions → Instructions
instructions_by k row d i =
    instructions_after k.story.bus_state.connection d.next (hearing_of k row d) k.exchange.plan i

abbrev pub instructions : ScenarioValue → List Row → Instructions
instructions s [] = no_instructions
instructions s (row ∷ rows) =
    instructions_by (run_state s rows) row (row_reading (run_state s rows).story.bus_state row) (instructions s rows)

-- ---- after some rows, where a connection stands and RST is false

-- A phase has begun, the target does not drive REQ, and no byte follows: it may leave the phase.
abbrev pub may_leave : ScenarioValue → RunState → Connection → Bool
may_leave s k n =
    k.exchange.begun && not (drives_of k n.target).req
    && not (follows_by (serving_of s k n.target) (pace_of s k n.target).pulsed (bus_of k) k.handshakes)

-- The opening stands: no other phase has begun since a selection.
abbrev pub is_opening_in : Phase → Cause → Bool
is_opening_in phases.MessageOut cause = is_selected cause
is_opening_in phases.MessageIn cause = false
is_opening_in phases.Command cause = false
is_opening_in phases.Status cause = false
is_opening_in phases.DataIn cause = false
is_opening_in phases.DataOut cause = false

abbrev pub is_opening : RunState → Bool
is_opening k = not k.exchange.begun || is_opening_in (phase_of (bus_of k)) k.exchange.plan.cause

-- The command moves data in this phase, or goes on to after its messages.
abbrev pub goes_on : Next → Bool
goes_on nexts.GoOn = true
goes_on nexts.Command = false
goes_on nexts.Status = false
goes_on nexts.FreeBus = false

abbrev pub moves_data : Phase → Next → Bool
moves_data phases.DataIn next = true
moves_data phases.DataOut next = true
moves_data phases.MessageIn next = goes_on next
moves_data phases.MessageOut next = false
moves_data phases.Command next = false
moves_data phases.Status next = false

-- Its status is given in this phase, or in the one after its messages.
abbrev pub is_status_next : Next → Bool
is_status_next nexts.Status = true
is_status_next nexts.Command = false
is_status_next nexts.GoOn = false
is_status_next nexts.FreeBus = false

abbrev pub gives_status : Phase → Next → Bool
gives_status phases.Status next = true
gives_status phases.MessageIn next = is_status_next next
gives_status phases.MessageOut next = false
gives_status phases.Command next = false
gives_status phases.DataIn next = false
gives_status phases.DataOut next = false

abbrev pub is_command_phase : Phase → Bool
is_command_phase phases.Command = true
is_command_phase phases.MessageOut = false
is_command_phase phases.MessageIn = false
is_command_phase phases.Status = false
is_command_phase phases.DataIn = false
is_command_phase phases.DataOut = false

-- What was to be said was said, where the phase may be left.
abbrev pub is_said : ScenarioValue → RunState → Connection → Bool
is_said s k n = not (may_leave s k n) || is_true_leaving s k (process_served s k) (phase_of (bus_of k))

-- The initiator knows what is served: always after a selection; after a reselection once that was named.
abbrev pub is_message : Phase → Bool
is_message phases.MessageOut = true
is_message phases.MessageIn = true
is_message phases.Command = false
is_message phases.Status = false
is_message phases.DataIn = false
is_message phases.DataOut = false

abbrev pub is_known_item : RunState → Connection → Bool
is_known_item k n = (n.reselected && is_message (phase_of (bus_of k))) || same_process k.served (item_of k.story.link)

-- What is served is of the scenario; and it is a process but in the opening.
abbrev pub is_of_scenario : ScenarioValue → Option Item → Bool
is_of_scenario s None = false
is_of_scenario s (Some (process id)) = is_some (process_item s (Some (process id)))
is_of_scenario s (Some (abort n)) = is_some (abort_line_at s.aborts n)

abbrev pub is_served : ScenarioValue → RunState → Bool
is_served s k = is_of_scenario s k.served && (is_opening k || is_some (process_served s k))

-- Of a process that is served after the opening: the opening named it; the bytes of COMMAND so far are those that it
-- carried, and once they are known they are its command block.
abbrev pub is_name : Option Said → Process → Bool
is_name None p = false
is_name (Some said) p = is_process_named said (Some p)

abbrev pub is_carried : RunState → Instructions → Process → Phase → Bool
is_carried k i p phase = not (is_command_phase phase) || same_bytes i.block (carried_here k p.id).block

abbrev pub is_block : Instructions → Process → Bool
is_block i p = not i.known || (has_group_len i.block && same_bytes i.block p.cdb)

abbrev pub is_instructed : RunState → Instructions → Process → Phase → Bool
is_instructed k i p phase = is_name i.opening p && is_carried k i p phase && is_block i p

-- Its place in the array: new in COMMAND, where its command is not known yet; running without a reply while data move,
-- where it is; and with a reply in STATUS.
abbrev pub is_new : Array → Process → Bool
is_new a p = not (is_waiting a.units p.id) && is_none (running_process a p.id) && is_none (reply_in a.replies p.id)

abbrev pub is_unanswered : Option RunningProcess → Bool
is_unanswered None = false
is_unanswered (Some r) = is_none r.reply

abbrev pub is_answered : Option RunningProcess → Bool
is_answered None = false
is_answered (Some r) = is_some r.reply

abbrev pub is_placed : Array → Process → Phase → Next → Bool → Bool
is_placed a p phase next known = (not (is_command_phase phase) || (not known && is_new a p))
    && (not (moves_data phase next)
    || (known && is_unanswered (running_process a p.id) && is_none (reply_in a.replies p.id)))
    && (not (gives_status phase next) || (is_answered (running_process a p.id) && is_some (reply_in a.replies p.id)))

abbrev pub is_heard_process : ScenarioValue → RunState → Connection → Instructions → Option Process → Phase → Bool
is_heard_process s k n i None phase = true
is_heard_process s k n i (Some p) phase =
    (n.reselected || is_instructed k i p phase) && is_placed (array_of s k) p phase k.exchange.plan.next i.known

abbrev pub is_heard_in : ScenarioValue → RunState → Connection → Instructions → Bool
is_heard_in s k n i =
    is_said s k n && is_known_item k n && is_served s k
    && (is_opening k || is_heard_process s k n i (process_served s k) (phase_of (bus_of k)))

abbrev pub is_heard : ScenarioValue → RunState → Option Connection → Instructions → Bool
is_heard s k None i = true
is_heard s k (Some n) i = (bus_of k).rst || is_heard_in s k n i

-- ---- a row

-- A connection begins: after a selection its process is new, and nothing is counted of it; after a reselection it has
-- no reply, and is no guest.
abbrev pub is_uncounted : ProcessProgress → Bool
is_uncounted p = p.runs == 0 && p.recoveries == 0

abbrev pub is_beginning : ScenarioValue → RunState → Connection → Option Process → Bool
is_beginning s k n None = true
is_beginning s k n (Some p) =
    if n.reselected then is_none (guest_at (array_of s k).guests p.id) && is_none (reply_in (array_of s k).replies p.id)
    else is_new (array_of s k) p && is_uncounted (progress_in k.progress p.id)

-- The first phase after a selection is MESSAGE OUT (6.1.3). A phase that has begun is left only where it may be, and
-- for the one that its target means; so is the connection.
abbrev pub same_phase : Phase → Phase → Bool
same_phase phases.MessageOut phases.MessageOut = true
same_phase phases.MessageIn phases.MessageIn = true
same_phase phases.Command phases.Command = true
same_phase phases.Status phases.Status = true
same_phase phases.DataIn phases.DataIn = true
same_phase phases.DataOut phases.DataOut = true
same_phase _ _ = false

abbrev pub is_to : Option Phase → Phase → Bool
is_to None phase = false
is_to (Some p) phase = same_phase p phase

abbrev pub is_true_turn : ScenarioValue → RunState → Connection → RowReading → Bool
is_true_turn s k n d =
    (not k.exchange.begun || may_leave s k n) && is_to (leaving s k n.target).to (phase_of d.change.after)

abbrev pub is_true_end : ScenarioValue → RunState → Connection → Bool
is_true_end s k n = may_leave s k n && is_none (leaving s k n.target).to

-- A connection in which RST was true does not outlast it (6.2.2).
abbrev pub is_heard_on : ScenarioValue → RunState → RunState → RowReading → Option Connection → Option Connection → Bool
is_heard_on s k next d None None = true
is_heard_on s k next d None (Some n) = is_beginning s next n (process_served s next)
is_heard_on s k next d (Some m) None = d.change.before.rst || is_true_end s k m
is_heard_on s k next d (Some m) (Some n) =
    not d.change.before.rst && (not (changes_phase d.change) || is_true_turn s k m d)

-- After a row in which RST is true nothing is asked.
abbrev pub is_heard_row : ScenarioValue → RunState → RunState → RowReading → Bool
is_heard_row s k next d = d.change.after.rst || is_heard_on s k next d k.story.bus_state.connection d.next

-- Of all rows.
abbrev pub is_heard_after : ScenarioValue → RunState → RunState → RowReading → Instructions → Bool
is_heard_after s k next d i = is_heard_row s k next d && is_heard s next d.next i

abbrev pub heard : ScenarioValue → List Row → Bool
heard s [] = true
heard s (row ∷ rows) = heard s rows && is_heard_after s (run_state s rows) (run_state s (row ∷ rows))
    (row_reading (run_state s rows).story.bus_state row) (instructions s (row ∷ rows))

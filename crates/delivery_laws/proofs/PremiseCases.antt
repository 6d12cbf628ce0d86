-- In some runs, computed: what each law of this crate asks is met, and what it says then holds. The other outcomes are
-- those of proofs/OutcomeCases.antt, the limits those of proofs/LimitCases.antt.
use Rattle.delivery_laws.proofs
use proofs.Names.{ℕ, ◌≡◌, ◌+◌, Bool, true, false, not, ◌&&◌, ◌||◌, List, [], ◌∷◌, Option, Some, None, refl, ◌==◌}
use proofs.Names.{is_none, is_some, if◌then◌else◌, Event, change_of, line_of, changes_phase, is_message_out, connection}
use proofs.Names.{bus, union_below, Row, Agreement, Connection, form_out, form_in, dialogue, has_target, need_of}
use proofs.Names.{sent_of, ScenarioValue, CmdDef, command_at, same_bool, command_id, is_roomy, is_valid, trace_history}
use proofs.Names.{bytes_of_messages, one_message, begun, phase_of, one_if, reply_to, Cause, Messages, Phase, Task}
use proofs.Names.{command_given_up_due, command_given_up_due_rows, command_struck_twice_due}
use proofs.Names.{command_struck_twice_due_rows, data_in_given_up_due, data_in_given_up_due_rows, data_out_given_up_due}
use proofs.Names.{data_out_given_up_due_rows, full_queue_due, full_queue_due_rows, hold_of_a_unit_due}
use proofs.Names.{hold_of_a_unit_due_rows, device_reset_by_message_due, device_reset_by_message_due_rows}
use proofs.Names.{field_in_a_command_due, field_in_a_command_due_rows, lost_due, lost_due_rows, offset_255_due}
use proofs.Names.{offset_255_due_rows, tag_aborted_due, tag_aborted_due_rows, pulsed_read_struck_due}
use proofs.Names.{pulsed_read_struck_due_rows, pulsed_write_struck_due, pulsed_write_struck_due_rows, status_struck_due}
use proofs.Names.{status_struck_due_rows, struck_names_due, struck_names_due_rows, onto, target_def_of, run_state}
use proofs.Names.{task_of, has_event, is_struck_phase, is_wrong_phase, is_checked, arrive_by_room, was_sense_stopped}
use proofs.Names.{opening_since, plan_at, is_tried_again, phase_after, phase_after_wrong}
use proofs.LimitCases.{absent_target_limit, data_out_twice_limit, data_out_twice_limit_rows, disconnect_twice_limit}
use proofs.{LimitCases.{disconnect_twice_limit_rows}, Limits.{has_no_abort, has_no_reset}}
use lib.Count.{ones}

-- ---- phases with wrong parity, by how they are left

abbrev is_leaving : List Row → Row → Bool
is_leaving rows row = (is_some (connection rows) && begun rows) && ((not (bus rows).rst && not (bus (row ∷ rows)).rst)
    && (changes_phase (change_of rows row) || is_none (connection (row ∷ rows))))

abbrev same_phase : Phase → Phase → Bool
same_phase Phase.DataOut Phase.DataOut = true
same_phase Phase.DataIn Phase.DataIn = true
same_phase Phase.Command Phase.Command = true
same_phase Phase.Status Phase.Status = true
same_phase Phase.MessageOut Phase.MessageOut = true
same_phase Phase.MessageIn Phase.MessageIn = true
same_phase a b = false

abbrev same_next : Option Phase → Option Phase → Bool
same_next None None = true
same_next (Some a) (Some b) = same_phase a b
same_next a b = false

-- Of a row that leaves such a phase: it is tried again, or not; and the phase that follows is that of the table.
abbrev left_by : ScenarioValue → List Row → Row → Option Connection → Option Task → Bool → Bool
left_by s rows row (Some n) (Some t) again =
    same_bool (is_tried_again (target_def_of s n.target) (run_state s rows).exchange.plan t (phase_of (bus rows))) again
    && same_next (phase_after rows row)
    (phase_after_wrong (phase_of (bus rows)) (run_state s rows).exchange.plan.cause again)
left_by s rows row n t again = false

abbrev is_left_so : ScenarioValue → List Row → Row → Bool → Bool
is_left_so s rows row again = is_leaving rows row
    && is_wrong_phase (is_struck_phase s rows) (run_state s rows).exchange.plan (phase_of (bus rows))
    && left_by s rows row (connection rows) (task_of s (run_state s rows)) again

abbrev left_count : ScenarioValue → List Row → Bool → ℕ
left_count s [] again = 0
left_count s (row ∷ rows) again = left_count s rows again + one_if (is_left_so s rows row again)

-- So many phases were left to try again, and so many to give up.
abbrev left_told : ScenarioValue → List Row → ℕ → ℕ → Bool
left_told s rows again given = left_count s rows true == again && left_count s rows false == given

-- COMMAND, twice.
again_in_command : left_told command_struck_twice_due (onto command_struck_twice_due_rows []) 2 0 ≡ true
unfolding need_of sent_of ones union_below line_of form_out form_in
again_in_command = refl

-- DATA OUT, DATA IN and STATUS.
again_in_data_out : left_told pulsed_write_struck_due (onto pulsed_write_struck_due_rows []) 1 0 ≡ true
unfolding need_of sent_of ones union_below line_of form_out form_in
again_in_data_out = refl

again_in_data_in : left_told pulsed_read_struck_due (onto pulsed_read_struck_due_rows []) 1 0 ≡ true
unfolding need_of sent_of ones union_below line_of form_out form_in
again_in_data_in = refl

again_in_status : left_told status_struck_due (onto status_struck_due_rows []) 1 0 ≡ true
unfolding need_of sent_of ones union_below line_of form_out form_in
again_in_status = refl

-- Given up in COMMAND, DATA IN, DATA OUT and STATUS, and as DISCONNECT was struck once more.
given_up_in_command : left_told command_given_up_due (onto command_given_up_due_rows []) 0 1 ≡ true
unfolding need_of sent_of ones union_below line_of form_out form_in
given_up_in_command = refl

given_up_in_data_in : left_told data_in_given_up_due (onto data_in_given_up_due_rows []) 0 1 ≡ true
unfolding need_of sent_of ones union_below line_of form_out form_in
given_up_in_data_in = refl

given_up_in_data_out : left_told data_out_twice_limit (onto data_out_twice_limit_rows []) 1 1 ≡ true
unfolding need_of sent_of ones union_below line_of form_out form_in
given_up_in_data_out = refl

given_up_in_status : left_told lost_due (onto lost_due_rows []) 1 1 ≡ true
unfolding need_of sent_of ones union_below line_of form_out form_in
given_up_in_status = refl

given_up_in_message_in : left_told disconnect_twice_limit (onto disconnect_twice_limit_rows []) 1 1 ≡ true
unfolding need_of sent_of ones union_below line_of form_out form_in
given_up_in_message_in = refl

-- Where the target's limit is 0 the names after a reselection are said again, three times, and of the REQUEST SENSE of
-- an initiator that stands in the hold of the unit COMMAND and DATA IN.
again_in_names : left_told struck_names_due (onto struck_names_due_rows []) 5 0 ≡ true
unfolding need_of sent_of ones union_below line_of form_out form_in
again_in_names = refl

-- ---- commands that are not valid, or have no target

abbrev is_calm : ScenarioValue → Bool
is_calm s = has_no_reset s.resets && has_no_abort s.aborts

abbrev is_wrong_if : ScenarioValue → Option CmdDef → Bool
is_wrong_if s None = false
is_wrong_if s (Some c) = is_roomy s && (has_target s c.target && is_checked s c)

abbrev is_away_if : ScenarioValue → Option CmdDef → Bool
is_away_if s None = false
is_away_if s (Some c) = not (has_target s c.target)

wrong_command :
    (is_calm hold_of_a_unit_due && is_wrong_if hold_of_a_unit_due (command_at hold_of_a_unit_due.commands 1)) ≡ true
unfolding need_of sent_of ones union_below line_of form_out form_in
wrong_command = refl

away_command :
    (is_calm absent_target_limit && is_away_if absent_target_limit (command_at absent_target_limit.commands 1)) ≡ true
unfolding need_of sent_of ones union_below line_of form_out form_in
away_command = refl

-- ---- a full queue, a stopped sense

refused_at_full : (arrive_by_room full_queue_due (trace_history full_queue_due (onto full_queue_due_rows []))
    && has_event (trace_history full_queue_due (onto full_queue_due_rows [])) (Event.Refuse (command_id 2))) ≡ true
unfolding need_of sent_of ones union_below line_of form_out form_in
refused_at_full = refl

abbrev stopped_if : ScenarioValue → List Row → ℕ → Option CmdDef → Bool
stopped_if s rows n None = false
stopped_if s rows n (Some c) = was_sense_stopped (trace_history s rows) n c

sense_stopped : stopped_if data_out_given_up_due (onto data_out_given_up_due_rows []) 1
    (command_at data_out_given_up_due.commands 1)
    ≡ true
unfolding need_of sent_of ones union_below line_of form_out form_in
sense_stopped = refl

sense_unstopped :
    stopped_if hold_of_a_unit_due (onto hold_of_a_unit_due_rows []) 1 (command_at hold_of_a_unit_due.commands 1) ≡ false
unfolding need_of sent_of ones union_below line_of form_out form_in
sense_unstopped = refl

-- ---- openings

-- The row leaves the first phase after a selection, and the target has understood the opening that was due.
abbrev same_bytes : List ℕ → List ℕ → Bool
same_bytes [] [] = true
same_bytes (x ∷ xs) (y ∷ ys) = x == y && same_bytes xs ys
same_bytes [] (y ∷ ys) = false
same_bytes (x ∷ xs) [] = false

abbrev selects : Option Connection → Bool
selects None = false
selects (Some n) = not n.reselected

abbrev is_opened : Cause → Bool
is_opened Cause.Selected = true
is_opened _ = false

abbrev is_opening_left : ScenarioValue → List Row → Row → Bool
is_opening_left s rows row = is_leaving rows row && (changes_phase (change_of rows row)
    && (selects (connection rows) && (is_message_out (bus rows) && is_opened (run_state s rows).exchange.plan.cause)))

-- Those that were due, the newest first.
abbrev openings : ScenarioValue → List Row → List (List ℕ)
openings s [] = []
openings s (row ∷ rows) = if is_opening_left s rows row then opening_since s rows ∷ openings s rows else openings s rows

abbrev same_all : List (List ℕ) → List (List ℕ) → Bool
same_all [] [] = true
same_all (x ∷ xs) (y ∷ ys) = same_bytes x y && same_all xs ys
same_all [] (y ∷ ys) = false
same_all (x ∷ xs) [] = false

abbrev openings_told : ScenarioValue → List Row → List (List ℕ) → Bool
openings_told s rows said = same_all (openings s rows) said

-- Two commands with their tags, and ABORT TAG of the first.
openings_with_tags : openings_told tag_aborted_due (onto tag_aborted_due_rows [])
    ((128 ∷ 32 ∷ 5 ∷ 13 ∷ []) ∷ (192 ∷ 32 ∷ 6 ∷ []) ∷ (192 ∷ 32 ∷ 5 ∷ []) ∷ [])
    ≡ true
unfolding need_of sent_of ones union_below line_of form_out form_in
openings_with_tags = refl

-- Two initiators offer, one without a limit.
openings_with_offers : openings_told offset_255_due (onto offset_255_due_rows [])
    ((199 ∷ 1 ∷ 3 ∷ 1 ∷ 70 ∷ 2 ∷ []) ∷ (192 ∷ 1 ∷ 3 ∷ 1 ∷ 50 ∷ 255 ∷ []) ∷ [])
    ≡ true
unfolding need_of sent_of ones union_below line_of form_out form_in
openings_with_offers = refl

-- The REQUEST SENSE after it has no offer, nor the disconnect privilege.
opening_without_offer : openings_told field_in_a_command_due
    (onto field_in_a_command_due_rows []) ((128 ∷ []) ∷ (192 ∷ 1 ∷ 3 ∷ 1 ∷ 200 ∷ 7 ∷ []) ∷ [])
    ≡ true
unfolding need_of sent_of ones union_below line_of form_out form_in
opening_without_offer = refl

-- After BUS DEVICE RESET the offer is made again.
opening_with_offer_again : openings_told device_reset_by_message_due (onto device_reset_by_message_due_rows [])
    ((193 ∷ 1 ∷ 3 ∷ 1 ∷ 50 ∷ 2 ∷ []) ∷ (129 ∷ 12 ∷ []) ∷ (193 ∷ 1 ∷ 3 ∷ 1 ∷ 50 ∷ 2 ∷ []) ∷ [])
    ≡ true
unfolding need_of sent_of ones union_below line_of form_out form_in
opening_with_offer_again = refl

-- ---- requests for synchronous transfer

-- The row leaves an opening with an offer, for MESSAGE IN with the answer, or the rejection, that is due.
abbrev same_messages : Messages → Messages → Bool
same_messages a b = same_bytes (bytes_of_messages a) (bytes_of_messages b)

abbrev is_replied : ScenarioValue → List Row → Row → Option Connection → Option Agreement → Bool
is_replied s rows row (Some n) (Some offer) = same_next (phase_after rows row) (Some Phase.MessageIn)
    && same_messages (plan_at s (row ∷ rows)).messages (one_message (reply_to (target_def_of s n.target) offer))
is_replied s rows row n offer = false

abbrev replied : ScenarioValue → List Row → ℕ
replied s [] = 0
replied s (row ∷ rows) = replied s rows
    + one_if (is_opening_left s rows row && is_replied s rows row (connection rows) (plan_at s rows).said.offer)

offers_replied : (replied offset_255_due (onto offset_255_due_rows []) == 2) ≡ true
unfolding need_of sent_of ones union_below line_of form_out form_in
offers_replied = refl

abbrev is_request_open : List Row → Bool
is_request_open rows = is_some (connection rows) && is_some (dialogue rows).heard.now.offer

-- After so many rows of message phases one was open, and after so many others.
abbrev rows_open : Bool → List Row → ℕ
rows_open msg [] = 0
rows_open msg (row ∷ rows) =
    rows_open msg rows + one_if (is_request_open (row ∷ rows) && same_bool (bus (row ∷ rows)).msg msg)

-- Not in COMMAND, data and STATUS.
request_open :
    (not (rows_open true (onto offset_255_due_rows []) == 0) && rows_open false (onto offset_255_due_rows []) == 0)
    ≡ true
unfolding ones union_below line_of form_out form_in
request_open = refl

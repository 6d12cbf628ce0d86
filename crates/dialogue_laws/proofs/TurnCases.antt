-- In some runs, computed: rows that leave a phase as the laws say are there.
use Rattle.dialogue_laws.proofs
use proofs.Names.{◌≡◌, true, false, refl, nat_lt, line_of, union_below, form_out, form_in, need_of, sent_of, Arrival}
use proofs.Names.{Cause, Next, Phase, absent_unit_due, absent_unit_due_rows, burst_without_tags_due}
use proofs.Names.{burst_without_tags_due_rows, command_given_up_due, command_given_up_due_rows}
use proofs.Names.{command_struck_twice_due, command_struck_twice_due_rows, complete_struck_due}
use proofs.Names.{complete_struck_due_rows, data_in_given_up_due, data_in_given_up_due_rows, data_out_given_up_due}
use proofs.Names.{data_out_given_up_due_rows, full_queue_due, full_queue_due_rows, lost_due, lost_due_rows}
use proofs.Names.{pulsed_read_struck_due, pulsed_read_struck_due_rows, pulsed_write_struck_due}
use proofs.Names.{pulsed_write_struck_due_rows, pulses_out_due, pulses_out_due_rows, queue_orders_due}
use proofs.Names.{queue_orders_due_rows, read_whole_after_a_part_due, read_whole_after_a_part_due_rows}
use proofs.Names.{request_of_a_target_struck_due, request_of_a_target_struck_due_rows, status_given_up_due}
use proofs.Names.{status_given_up_due_rows, status_struck_due, status_struck_due_rows, struck_names_due}
use proofs.Names.{struck_names_due_rows, tagged_opening_struck_due, tagged_opening_struck_due_rows, unanswered_due}
use proofs.{Names.{unanswered_due_rows, first_run_state}, Turns.{arrives_as, complains_of, complains_of_names}}
use proofs.Turns.{data_given, messages_given, refused_turns_from, run_done, said, said_out, status_given, struck_in}
use proofs.Turns.{struck_turns_from, turns_from}
use lib.Count.{ones}

command_recovers : nat_lt 0 (turns_from (struck_in Phase.Command false) command_struck_twice_due
    (first_run_state command_struck_twice_due) command_struck_twice_due_rows)
    ≡ true
unfolding need_of sent_of ones union_below line_of form_out form_in
command_recovers = refl

command_fails : nat_lt 0 (turns_from (struck_in Phase.Command true) command_given_up_due
    (first_run_state command_given_up_due) command_given_up_due_rows)
    ≡ true
unfolding need_of sent_of ones union_below line_of form_out form_in
command_fails = refl

data_out_recovers : nat_lt 0 (turns_from (struck_in Phase.DataOut false) pulsed_write_struck_due
    (first_run_state pulsed_write_struck_due) pulsed_write_struck_due_rows)
    ≡ true
unfolding need_of sent_of ones union_below line_of form_out form_in
data_out_recovers = refl

data_out_fails : nat_lt 0 (turns_from (struck_in Phase.DataOut true) data_out_given_up_due
    (first_run_state data_out_given_up_due) data_out_given_up_due_rows)
    ≡ true
unfolding need_of sent_of ones union_below line_of form_out form_in
data_out_fails = refl

data_in_recovers : nat_lt 0 (turns_from (complains_of Cause.InData false) pulsed_read_struck_due
    (first_run_state pulsed_read_struck_due) pulsed_read_struck_due_rows)
    ≡ true
unfolding need_of sent_of ones union_below line_of form_out form_in
data_in_recovers = refl

data_in_fails : nat_lt 0 (turns_from (complains_of Cause.InData true) data_in_given_up_due
    (first_run_state data_in_given_up_due) data_in_given_up_due_rows)
    ≡ true
unfolding need_of sent_of ones union_below line_of form_out form_in
data_in_fails = refl

status_recovers : nat_lt 0 (turns_from (complains_of Cause.InStatus false) status_struck_due
    (first_run_state status_struck_due) status_struck_due_rows)
    ≡ true
unfolding need_of sent_of ones union_below line_of form_out form_in
status_recovers = refl

status_loses : nat_lt 0 (turns_from (complains_of Cause.InStatus true) status_given_up_due
    (first_run_state status_given_up_due) status_given_up_due_rows)
    ≡ true
unfolding need_of sent_of ones union_below line_of form_out form_in
status_loses = refl

message_recovers : nat_lt 0 (turns_from (complains_of Cause.InMessage false) complete_struck_due
    (first_run_state complete_struck_due) complete_struck_due_rows)
    ≡ true
unfolding need_of sent_of ones union_below line_of form_out form_in
message_recovers = refl

message_loses :
    nat_lt 0 (turns_from (complains_of Cause.InMessage true) lost_due (first_run_state lost_due) lost_due_rows) ≡ true
unfolding need_of sent_of ones union_below line_of form_out form_in
message_loses = refl

names_again :
    nat_lt 0 (turns_from complains_of_names struck_names_due (first_run_state struck_names_due) struck_names_due_rows)
    ≡ true
unfolding need_of sent_of ones union_below line_of form_out form_in
names_again = refl

opening_taken : nat_lt 0 (turns_from said_out tagged_opening_struck_due
    (first_run_state tagged_opening_struck_due) tagged_opening_struck_due_rows)
    ≡ true
unfolding need_of sent_of ones union_below line_of form_out form_in
opening_taken = refl

run_pauses : nat_lt 0 (turns_from (run_done true) burst_without_tags_due
    (first_run_state burst_without_tags_due) burst_without_tags_due_rows)
    ≡ true
unfolding need_of sent_of ones union_below line_of form_out form_in
run_pauses = refl

part_pauses : nat_lt 0 (turns_from (run_done true) read_whole_after_a_part_due
    (first_run_state read_whole_after_a_part_due) read_whole_after_a_part_due_rows)
    ≡ true
unfolding need_of sent_of ones union_below line_of form_out form_in
part_pauses = refl

run_finishes : nat_lt 0 (turns_from (run_done false) burst_without_tags_due
    (first_run_state burst_without_tags_due) burst_without_tags_due_rows)
    ≡ true
unfolding need_of sent_of ones union_below line_of form_out form_in
run_finishes = refl

write_finishes :
    nat_lt 0 (turns_from (run_done false) pulses_out_due (first_run_state pulses_out_due) pulses_out_due_rows) ≡ true
unfolding need_of sent_of ones union_below line_of form_out form_in
write_finishes = refl

queued : nat_lt 0 (turns_from (arrives_as Arrival.Queued true) burst_without_tags_due
    (first_run_state burst_without_tags_due) burst_without_tags_due_rows)
    ≡ true
unfolding need_of sent_of ones union_below line_of form_out form_in
queued = refl

refused : nat_lt 0
    (turns_from (arrives_as Arrival.Refused false) full_queue_due (first_run_state full_queue_due) full_queue_due_rows)
    ≡ true
unfolding need_of sent_of ones union_below line_of form_out form_in
refused = refl

guest_data : nat_lt 0
    (turns_from (arrives_as Arrival.Guest true) absent_unit_due (first_run_state absent_unit_due) absent_unit_due_rows)
    ≡ true
unfolding need_of sent_of ones union_below line_of form_out form_in
guest_data = refl

at_once_status : nat_lt 0
    (turns_from (arrives_as Arrival.AtOnce false) unanswered_due (first_run_state unanswered_due) unanswered_due_rows)
    ≡ true
unfolding need_of sent_of ones union_below line_of form_out form_in
at_once_status = refl

restored_command : nat_lt 0 (turns_from (said Next.Command true) command_struck_twice_due
    (first_run_state command_struck_twice_due) command_struck_twice_due_rows)
    ≡ true
unfolding need_of sent_of ones union_below line_of form_out form_in
restored_command = refl

restored_status : nat_lt 0
    (turns_from (said Next.Status false) status_struck_due (first_run_state status_struck_due) status_struck_due_rows)
    ≡ true
unfolding need_of sent_of ones union_below line_of form_out form_in
restored_status = refl

said_free : nat_lt 0 (turns_from (said Next.FreeBus true) burst_without_tags_due
    (first_run_state burst_without_tags_due) burst_without_tags_due_rows)
    ≡ true
unfolding need_of sent_of ones union_below line_of form_out form_in
said_free = refl

reselected_data : nat_lt 0 (turns_from (said Next.GoOn true) burst_without_tags_due
    (first_run_state burst_without_tags_due) burst_without_tags_due_rows)
    ≡ true
unfolding need_of sent_of ones union_below line_of form_out form_in
reselected_data = refl

reselected_status : nat_lt 0
    (turns_from (said Next.GoOn false) queue_orders_due (first_run_state queue_orders_due) queue_orders_due_rows)
    ≡ true
unfolding need_of sent_of ones union_below line_of form_out form_in
reselected_status = refl

status_refused : nat_lt 0
    (struck_turns_from status_given status_struck_due (first_run_state status_struck_due) false status_struck_due_rows)
    ≡ true
unfolding need_of sent_of ones union_below line_of form_out form_in
status_refused = refl

message_refused : nat_lt 0 (struck_turns_from (messages_given false) complete_struck_due
    (first_run_state complete_struck_due) false complete_struck_due_rows)
    ≡ true
unfolding need_of sent_of ones union_below line_of form_out form_in
message_refused = refl

message_cut_short : nat_lt 0 (struck_turns_from (messages_given true) struck_names_due
    (first_run_state struck_names_due) false struck_names_due_rows)
    ≡ true
unfolding need_of sent_of ones union_below line_of form_out form_in
message_cut_short = refl

request_cut_short : nat_lt 0 (struck_turns_from (messages_given true) request_of_a_target_struck_due
    (first_run_state request_of_a_target_struck_due) false request_of_a_target_struck_due_rows)
    ≡ true
unfolding need_of sent_of ones union_below line_of form_out form_in
request_cut_short = refl

data_refused : nat_lt 0 (struck_turns_from data_given pulsed_read_struck_due
    (first_run_state pulsed_read_struck_due) false pulsed_read_struck_due_rows)
    ≡ true
unfolding need_of sent_of ones union_below line_of form_out form_in
data_refused = refl

data_refusal_heard : nat_lt 0 (refused_turns_from said_out pulsed_read_struck_due
    (first_run_state pulsed_read_struck_due) false false pulsed_read_struck_due_rows)
    ≡ true
unfolding need_of sent_of ones union_below line_of form_out form_in
data_refusal_heard = refl

status_refusal_heard : nat_lt 0 (refused_turns_from said_out status_struck_due
    (first_run_state status_struck_due) false false status_struck_due_rows)
    ≡ true
unfolding need_of sent_of ones union_below line_of form_out form_in
status_refusal_heard = refl

message_refusal_heard : nat_lt 0 (refused_turns_from said_out complete_struck_due
    (first_run_state complete_struck_due) false false complete_struck_due_rows)
    ≡ true
unfolding need_of sent_of ones union_below line_of form_out form_in
message_refusal_heard = refl

names_refusal_heard : nat_lt 0
    (refused_turns_from said_out struck_names_due (first_run_state struck_names_due) false false struck_names_due_rows)
    ≡ true
unfolding need_of sent_of ones union_below line_of form_out form_in
names_refusal_heard = refl

request_refusal_heard : nat_lt 0 (refused_turns_from said_out request_of_a_target_struck_due
    (first_run_state request_of_a_target_struck_due) false false request_of_a_target_struck_due_rows)
    ≡ true
unfolding need_of sent_of ones union_below line_of form_out form_in
request_refusal_heard = refl

-- Each row of some runs is as it is due to be, and the books hold after it. Written by tools/makers/books_case.py.
use Rattle.std.proofs.Common.{◌≡◌, true, refl}
use lib.Count.{ones}
use Rattle.due_model.specs.bus_trace.specs.LineSet.{line_of}
use Rattle.due_model.specs.bus_trace.specs.View.{union_below}
use Rattle.due_model.specs.msg_grammar.specs.Messages.{form_out, form_in}
use Rattle.due_model.specs.scenario.specs.Needs.{need_of, sent_of}
use Rattle.due_model.specs.RunSteps.{first_run_state}
use Rattle.book_laws.specs.RowTests.{keep_books}
use Rattle.due_model.proofs.Cases.{absent_unit_due, absent_unit_due_rows, burst_without_tags_due, burst_without_tags_due_rows, command_given_up_due, command_given_up_due_rows, command_struck_twice_due, command_struck_twice_due_rows, complete_struck_due, complete_struck_due_rows, counted_due, counted_due_rows, data_in_given_up_due, data_in_given_up_due_rows, data_out_given_up_due, data_out_given_up_due_rows, delayed_ack_due, delayed_ack_due_rows, device_reset_by_message_due, device_reset_by_message_due_rows, equal_bytes_due, equal_bytes_due_rows, fast_pulses_out_due, fast_pulses_out_due_rows, field_in_a_command_due, field_in_a_command_due_rows, full_queue_due, full_queue_due_rows, given_up_due, given_up_due_rows, held_reselection_due, held_reselection_due_rows, hold_of_a_unit_due, hold_of_a_unit_due_rows, late_entry_due, late_entry_due_rows, lost_due, lost_due_rows, many_pulses_due, many_pulses_due_rows, offset_255_due, offset_255_due_rows, one_pulse_at_a_time_due, one_pulse_at_a_time_due_rows, one_read_due, one_read_due_rows, opening_given_up_due, opening_given_up_due_rows, ordered_process_due, ordered_process_due_rows, overlapping_resets_due, overlapping_resets_due_rows, own_processes_aborted_due, own_processes_aborted_due_rows, pulsed_read_struck_due, pulsed_read_struck_due_rows, pulsed_write_struck_due, pulsed_write_struck_due_rows, pulses_out_due, pulses_out_due_rows, queue_cleared_due, queue_cleared_due_rows, queue_orders_due, queue_orders_due_rows, ready_units_due, ready_units_due_rows, request_of_a_target_struck_due, request_of_a_target_struck_due_rows, requests_of_a_target_due, requests_of_a_target_due_rows, reselected_id_struck_due, reselected_id_struck_due_rows, reset_in_a_data_phase_due, reset_in_a_data_phase_due_rows, reset_in_a_reselection_due, reset_in_a_reselection_due_rows, reset_in_a_selection_due, reset_in_a_selection_due_rows, resets_dropped_due, resets_dropped_due_rows, selected_id_struck_due, selected_id_struck_due_rows, status_given_up_due, status_given_up_due_rows, status_struck_due, status_struck_due_rows, struck_names_due, struck_names_due_rows, tag_aborted_due, tag_aborted_due_rows, tagged_opening_struck_due, tagged_opening_struck_due_rows, text_two_due, text_two_due_rows, three_contenders_due, three_contenders_due_rows, two_acks_in_one_latency_due, two_acks_in_one_latency_due_rows, unanswered_due, unanswered_due_rows, wide_offset_with_lag_due, wide_offset_with_lag_due_rows, called_again_for_sense_due, called_again_for_sense_due_rows, failures_due, failures_due_rows, negotiation_due, negotiation_due_rows, read_whole_after_a_part_due, read_whole_after_a_part_due_rows, two_aborts_due, two_aborts_due_rows}

absent_unit_due_books : keep_books absent_unit_due (first_run_state absent_unit_due) absent_unit_due_rows ≡ true
unfolding need_of sent_of ones union_below line_of form_out form_in
absent_unit_due_books = refl

burst_without_tags_due_books : keep_books burst_without_tags_due (first_run_state burst_without_tags_due) burst_without_tags_due_rows ≡ true
unfolding need_of sent_of ones union_below line_of form_out form_in
burst_without_tags_due_books = refl

command_given_up_due_books : keep_books command_given_up_due (first_run_state command_given_up_due) command_given_up_due_rows ≡ true
unfolding need_of sent_of ones union_below line_of form_out form_in
command_given_up_due_books = refl

command_struck_twice_due_books : keep_books command_struck_twice_due (first_run_state command_struck_twice_due) command_struck_twice_due_rows ≡ true
unfolding need_of sent_of ones union_below line_of form_out form_in
command_struck_twice_due_books = refl

complete_struck_due_books : keep_books complete_struck_due (first_run_state complete_struck_due) complete_struck_due_rows ≡ true
unfolding need_of sent_of ones union_below line_of form_out form_in
complete_struck_due_books = refl

counted_due_books : keep_books counted_due (first_run_state counted_due) counted_due_rows ≡ true
unfolding need_of sent_of ones union_below line_of form_out form_in
counted_due_books = refl

data_in_given_up_due_books : keep_books data_in_given_up_due (first_run_state data_in_given_up_due) data_in_given_up_due_rows ≡ true
unfolding need_of sent_of ones union_below line_of form_out form_in
data_in_given_up_due_books = refl

data_out_given_up_due_books : keep_books data_out_given_up_due (first_run_state data_out_given_up_due) data_out_given_up_due_rows ≡ true
unfolding need_of sent_of ones union_below line_of form_out form_in
data_out_given_up_due_books = refl

delayed_ack_due_books : keep_books delayed_ack_due (first_run_state delayed_ack_due) delayed_ack_due_rows ≡ true
unfolding need_of sent_of ones union_below line_of form_out form_in
delayed_ack_due_books = refl

device_reset_by_message_due_books : keep_books device_reset_by_message_due (first_run_state device_reset_by_message_due) device_reset_by_message_due_rows ≡ true
unfolding need_of sent_of ones union_below line_of form_out form_in
device_reset_by_message_due_books = refl

equal_bytes_due_books : keep_books equal_bytes_due (first_run_state equal_bytes_due) equal_bytes_due_rows ≡ true
unfolding need_of sent_of ones union_below line_of form_out form_in
equal_bytes_due_books = refl

fast_pulses_out_due_books : keep_books fast_pulses_out_due (first_run_state fast_pulses_out_due) fast_pulses_out_due_rows ≡ true
unfolding need_of sent_of ones union_below line_of form_out form_in
fast_pulses_out_due_books = refl

field_in_a_command_due_books : keep_books field_in_a_command_due (first_run_state field_in_a_command_due) field_in_a_command_due_rows ≡ true
unfolding need_of sent_of ones union_below line_of form_out form_in
field_in_a_command_due_books = refl

full_queue_due_books : keep_books full_queue_due (first_run_state full_queue_due) full_queue_due_rows ≡ true
unfolding need_of sent_of ones union_below line_of form_out form_in
full_queue_due_books = refl

given_up_due_books : keep_books given_up_due (first_run_state given_up_due) given_up_due_rows ≡ true
unfolding need_of sent_of ones union_below line_of form_out form_in
given_up_due_books = refl

held_reselection_due_books : keep_books held_reselection_due (first_run_state held_reselection_due) held_reselection_due_rows ≡ true
unfolding need_of sent_of ones union_below line_of form_out form_in
held_reselection_due_books = refl

hold_of_a_unit_due_books : keep_books hold_of_a_unit_due (first_run_state hold_of_a_unit_due) hold_of_a_unit_due_rows ≡ true
unfolding need_of sent_of ones union_below line_of form_out form_in
hold_of_a_unit_due_books = refl

late_entry_due_books : keep_books late_entry_due (first_run_state late_entry_due) late_entry_due_rows ≡ true
unfolding need_of sent_of ones union_below line_of form_out form_in
late_entry_due_books = refl

lost_due_books : keep_books lost_due (first_run_state lost_due) lost_due_rows ≡ true
unfolding need_of sent_of ones union_below line_of form_out form_in
lost_due_books = refl

many_pulses_due_books : keep_books many_pulses_due (first_run_state many_pulses_due) many_pulses_due_rows ≡ true
unfolding need_of sent_of ones union_below line_of form_out form_in
many_pulses_due_books = refl

offset_255_due_books : keep_books offset_255_due (first_run_state offset_255_due) offset_255_due_rows ≡ true
unfolding need_of sent_of ones union_below line_of form_out form_in
offset_255_due_books = refl

one_pulse_at_a_time_due_books : keep_books one_pulse_at_a_time_due (first_run_state one_pulse_at_a_time_due) one_pulse_at_a_time_due_rows ≡ true
unfolding need_of sent_of ones union_below line_of form_out form_in
one_pulse_at_a_time_due_books = refl

one_read_due_books : keep_books one_read_due (first_run_state one_read_due) one_read_due_rows ≡ true
unfolding need_of sent_of ones union_below line_of form_out form_in
one_read_due_books = refl

opening_given_up_due_books : keep_books opening_given_up_due (first_run_state opening_given_up_due) opening_given_up_due_rows ≡ true
unfolding need_of sent_of ones union_below line_of form_out form_in
opening_given_up_due_books = refl

ordered_process_due_books : keep_books ordered_process_due (first_run_state ordered_process_due) ordered_process_due_rows ≡ true
unfolding need_of sent_of ones union_below line_of form_out form_in
ordered_process_due_books = refl

overlapping_resets_due_books : keep_books overlapping_resets_due (first_run_state overlapping_resets_due) overlapping_resets_due_rows ≡ true
unfolding need_of sent_of ones union_below line_of form_out form_in
overlapping_resets_due_books = refl

own_processes_aborted_due_books : keep_books own_processes_aborted_due (first_run_state own_processes_aborted_due) own_processes_aborted_due_rows ≡ true
unfolding need_of sent_of ones union_below line_of form_out form_in
own_processes_aborted_due_books = refl

pulsed_read_struck_due_books : keep_books pulsed_read_struck_due (first_run_state pulsed_read_struck_due) pulsed_read_struck_due_rows ≡ true
unfolding need_of sent_of ones union_below line_of form_out form_in
pulsed_read_struck_due_books = refl

pulsed_write_struck_due_books : keep_books pulsed_write_struck_due (first_run_state pulsed_write_struck_due) pulsed_write_struck_due_rows ≡ true
unfolding need_of sent_of ones union_below line_of form_out form_in
pulsed_write_struck_due_books = refl

pulses_out_due_books : keep_books pulses_out_due (first_run_state pulses_out_due) pulses_out_due_rows ≡ true
unfolding need_of sent_of ones union_below line_of form_out form_in
pulses_out_due_books = refl

queue_cleared_due_books : keep_books queue_cleared_due (first_run_state queue_cleared_due) queue_cleared_due_rows ≡ true
unfolding need_of sent_of ones union_below line_of form_out form_in
queue_cleared_due_books = refl

queue_orders_due_books : keep_books queue_orders_due (first_run_state queue_orders_due) queue_orders_due_rows ≡ true
unfolding need_of sent_of ones union_below line_of form_out form_in
queue_orders_due_books = refl

ready_units_due_books : keep_books ready_units_due (first_run_state ready_units_due) ready_units_due_rows ≡ true
unfolding need_of sent_of ones union_below line_of form_out form_in
ready_units_due_books = refl

request_of_a_target_struck_due_books : keep_books request_of_a_target_struck_due (first_run_state request_of_a_target_struck_due) request_of_a_target_struck_due_rows ≡ true
unfolding need_of sent_of ones union_below line_of form_out form_in
request_of_a_target_struck_due_books = refl

requests_of_a_target_due_books : keep_books requests_of_a_target_due (first_run_state requests_of_a_target_due) requests_of_a_target_due_rows ≡ true
unfolding need_of sent_of ones union_below line_of form_out form_in
requests_of_a_target_due_books = refl

reselected_id_struck_due_books : keep_books reselected_id_struck_due (first_run_state reselected_id_struck_due) reselected_id_struck_due_rows ≡ true
unfolding need_of sent_of ones union_below line_of form_out form_in
reselected_id_struck_due_books = refl

reset_in_a_data_phase_due_books : keep_books reset_in_a_data_phase_due (first_run_state reset_in_a_data_phase_due) reset_in_a_data_phase_due_rows ≡ true
unfolding need_of sent_of ones union_below line_of form_out form_in
reset_in_a_data_phase_due_books = refl

reset_in_a_reselection_due_books : keep_books reset_in_a_reselection_due (first_run_state reset_in_a_reselection_due) reset_in_a_reselection_due_rows ≡ true
unfolding need_of sent_of ones union_below line_of form_out form_in
reset_in_a_reselection_due_books = refl

reset_in_a_selection_due_books : keep_books reset_in_a_selection_due (first_run_state reset_in_a_selection_due) reset_in_a_selection_due_rows ≡ true
unfolding need_of sent_of ones union_below line_of form_out form_in
reset_in_a_selection_due_books = refl

resets_dropped_due_books : keep_books resets_dropped_due (first_run_state resets_dropped_due) resets_dropped_due_rows ≡ true
unfolding need_of sent_of ones union_below line_of form_out form_in
resets_dropped_due_books = refl

selected_id_struck_due_books : keep_books selected_id_struck_due (first_run_state selected_id_struck_due) selected_id_struck_due_rows ≡ true
unfolding need_of sent_of ones union_below line_of form_out form_in
selected_id_struck_due_books = refl

status_given_up_due_books : keep_books status_given_up_due (first_run_state status_given_up_due) status_given_up_due_rows ≡ true
unfolding need_of sent_of ones union_below line_of form_out form_in
status_given_up_due_books = refl

status_struck_due_books : keep_books status_struck_due (first_run_state status_struck_due) status_struck_due_rows ≡ true
unfolding need_of sent_of ones union_below line_of form_out form_in
status_struck_due_books = refl

struck_names_due_books : keep_books struck_names_due (first_run_state struck_names_due) struck_names_due_rows ≡ true
unfolding need_of sent_of ones union_below line_of form_out form_in
struck_names_due_books = refl

tag_aborted_due_books : keep_books tag_aborted_due (first_run_state tag_aborted_due) tag_aborted_due_rows ≡ true
unfolding need_of sent_of ones union_below line_of form_out form_in
tag_aborted_due_books = refl

tagged_opening_struck_due_books : keep_books tagged_opening_struck_due (first_run_state tagged_opening_struck_due) tagged_opening_struck_due_rows ≡ true
unfolding need_of sent_of ones union_below line_of form_out form_in
tagged_opening_struck_due_books = refl

text_two_due_books : keep_books text_two_due (first_run_state text_two_due) text_two_due_rows ≡ true
unfolding need_of sent_of ones union_below line_of form_out form_in
text_two_due_books = refl

three_contenders_due_books : keep_books three_contenders_due (first_run_state three_contenders_due) three_contenders_due_rows ≡ true
unfolding need_of sent_of ones union_below line_of form_out form_in
three_contenders_due_books = refl

two_acks_in_one_latency_due_books : keep_books two_acks_in_one_latency_due (first_run_state two_acks_in_one_latency_due) two_acks_in_one_latency_due_rows ≡ true
unfolding need_of sent_of ones union_below line_of form_out form_in
two_acks_in_one_latency_due_books = refl

unanswered_due_books : keep_books unanswered_due (first_run_state unanswered_due) unanswered_due_rows ≡ true
unfolding need_of sent_of ones union_below line_of form_out form_in
unanswered_due_books = refl

wide_offset_with_lag_due_books : keep_books wide_offset_with_lag_due (first_run_state wide_offset_with_lag_due) wide_offset_with_lag_due_rows ≡ true
unfolding need_of sent_of ones union_below line_of form_out form_in
wide_offset_with_lag_due_books = refl

called_again_for_sense_due_books : keep_books called_again_for_sense_due (first_run_state called_again_for_sense_due) called_again_for_sense_due_rows ≡ true
unfolding need_of sent_of ones union_below line_of form_out form_in
called_again_for_sense_due_books = refl

failures_due_books : keep_books failures_due (first_run_state failures_due) failures_due_rows ≡ true
unfolding need_of sent_of ones union_below line_of form_out form_in
failures_due_books = refl

negotiation_due_books : keep_books negotiation_due (first_run_state negotiation_due) negotiation_due_rows ≡ true
unfolding need_of sent_of ones union_below line_of form_out form_in
negotiation_due_books = refl

read_whole_after_a_part_due_books : keep_books read_whole_after_a_part_due (first_run_state read_whole_after_a_part_due) read_whole_after_a_part_due_rows ≡ true
unfolding need_of sent_of ones union_below line_of form_out form_in
read_whole_after_a_part_due_books = refl

two_aborts_due_books : keep_books two_aborts_due (first_run_state two_aborts_due) two_aborts_due_rows ≡ true
unfolding need_of sent_of ones union_below line_of form_out form_in
two_aborts_due_books = refl

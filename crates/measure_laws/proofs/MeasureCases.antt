-- The measure of some runs is within the budget at their start, and falls with each row. Written by tools/makers/books_case.py.
use Rattle.std.proofs.Common.{◌≡◌, true, refl}
use lib.Count.{ones}
use Rattle.due_model.specs.bus_trace.specs.LineSet.{line_of}
use Rattle.due_model.specs.bus_trace.specs.View.{union_below}
use Rattle.due_model.specs.msg_grammar.specs.Messages.{form_out, form_in}
use Rattle.due_model.specs.scenario.specs.Needs.{need_of, sent_of}
use Rattle.measure_laws.specs.MeasureTests.{is_measured}
use Rattle.due_model.proofs.Cases.{absent_unit_due, absent_unit_due_rows, burst_without_tags_due, burst_without_tags_due_rows, command_given_up_due, command_given_up_due_rows, command_struck_twice_due, command_struck_twice_due_rows, complete_struck_due, complete_struck_due_rows, counted_due, counted_due_rows, data_in_given_up_due, data_in_given_up_due_rows, data_out_given_up_due, data_out_given_up_due_rows, delayed_ack_due, delayed_ack_due_rows, device_reset_by_message_due, device_reset_by_message_due_rows, equal_bytes_due, equal_bytes_due_rows, fast_pulses_out_due, fast_pulses_out_due_rows, field_in_a_command_due, field_in_a_command_due_rows, full_queue_due, full_queue_due_rows, given_up_due, given_up_due_rows, held_reselection_due, held_reselection_due_rows, hold_of_a_unit_due, hold_of_a_unit_due_rows, late_entry_due, late_entry_due_rows, lost_due, lost_due_rows, many_pulses_due, many_pulses_due_rows, offset_255_due, offset_255_due_rows, one_pulse_at_a_time_due, one_pulse_at_a_time_due_rows, one_read_due, one_read_due_rows, opening_given_up_due, opening_given_up_due_rows, ordered_process_due, ordered_process_due_rows, overlapping_resets_due, overlapping_resets_due_rows, own_processes_aborted_due, own_processes_aborted_due_rows, pulsed_read_struck_due, pulsed_read_struck_due_rows, pulsed_write_struck_due, pulsed_write_struck_due_rows, pulses_out_due, pulses_out_due_rows, queue_cleared_due, queue_cleared_due_rows, queue_orders_due, queue_orders_due_rows, ready_units_due, ready_units_due_rows, request_of_a_target_struck_due, request_of_a_target_struck_due_rows, requests_of_a_target_due, requests_of_a_target_due_rows, reselected_id_struck_due, reselected_id_struck_due_rows, reset_in_a_data_phase_due, reset_in_a_data_phase_due_rows, reset_in_a_reselection_due, reset_in_a_reselection_due_rows, reset_in_a_selection_due, reset_in_a_selection_due_rows, resets_dropped_due, resets_dropped_due_rows, selected_id_struck_due, selected_id_struck_due_rows, status_given_up_due, status_given_up_due_rows, status_struck_due, status_struck_due_rows, struck_names_due, struck_names_due_rows, tag_aborted_due, tag_aborted_due_rows, tagged_opening_struck_due, tagged_opening_struck_due_rows, text_two_due, text_two_due_rows, three_contenders_due, three_contenders_due_rows, two_acks_in_one_latency_due, two_acks_in_one_latency_due_rows, unanswered_due, unanswered_due_rows, wide_offset_with_lag_due, wide_offset_with_lag_due_rows, called_again_for_sense_due, called_again_for_sense_due_rows, failures_due, failures_due_rows, negotiation_due, negotiation_due_rows, read_whole_after_a_part_due, read_whole_after_a_part_due_rows, two_aborts_due, two_aborts_due_rows}

absent_unit_due_measured : is_measured absent_unit_due absent_unit_due_rows ≡ true
unfolding need_of sent_of ones union_below line_of form_out form_in
absent_unit_due_measured = refl

burst_without_tags_due_measured : is_measured burst_without_tags_due burst_without_tags_due_rows ≡ true
unfolding need_of sent_of ones union_below line_of form_out form_in
burst_without_tags_due_measured = refl

command_given_up_due_measured : is_measured command_given_up_due command_given_up_due_rows ≡ true
unfolding need_of sent_of ones union_below line_of form_out form_in
command_given_up_due_measured = refl

command_struck_twice_due_measured : is_measured command_struck_twice_due command_struck_twice_due_rows ≡ true
unfolding need_of sent_of ones union_below line_of form_out form_in
command_struck_twice_due_measured = refl

complete_struck_due_measured : is_measured complete_struck_due complete_struck_due_rows ≡ true
unfolding need_of sent_of ones union_below line_of form_out form_in
complete_struck_due_measured = refl

counted_due_measured : is_measured counted_due counted_due_rows ≡ true
unfolding need_of sent_of ones union_below line_of form_out form_in
counted_due_measured = refl

data_in_given_up_due_measured : is_measured data_in_given_up_due data_in_given_up_due_rows ≡ true
unfolding need_of sent_of ones union_below line_of form_out form_in
data_in_given_up_due_measured = refl

data_out_given_up_due_measured : is_measured data_out_given_up_due data_out_given_up_due_rows ≡ true
unfolding need_of sent_of ones union_below line_of form_out form_in
data_out_given_up_due_measured = refl

delayed_ack_due_measured : is_measured delayed_ack_due delayed_ack_due_rows ≡ true
unfolding need_of sent_of ones union_below line_of form_out form_in
delayed_ack_due_measured = refl

device_reset_by_message_due_measured : is_measured device_reset_by_message_due device_reset_by_message_due_rows ≡ true
unfolding need_of sent_of ones union_below line_of form_out form_in
device_reset_by_message_due_measured = refl

equal_bytes_due_measured : is_measured equal_bytes_due equal_bytes_due_rows ≡ true
unfolding need_of sent_of ones union_below line_of form_out form_in
equal_bytes_due_measured = refl

fast_pulses_out_due_measured : is_measured fast_pulses_out_due fast_pulses_out_due_rows ≡ true
unfolding need_of sent_of ones union_below line_of form_out form_in
fast_pulses_out_due_measured = refl

field_in_a_command_due_measured : is_measured field_in_a_command_due field_in_a_command_due_rows ≡ true
unfolding need_of sent_of ones union_below line_of form_out form_in
field_in_a_command_due_measured = refl

full_queue_due_measured : is_measured full_queue_due full_queue_due_rows ≡ true
unfolding need_of sent_of ones union_below line_of form_out form_in
full_queue_due_measured = refl

given_up_due_measured : is_measured given_up_due given_up_due_rows ≡ true
unfolding need_of sent_of ones union_below line_of form_out form_in
given_up_due_measured = refl

held_reselection_due_measured : is_measured held_reselection_due held_reselection_due_rows ≡ true
unfolding need_of sent_of ones union_below line_of form_out form_in
held_reselection_due_measured = refl

hold_of_a_unit_due_measured : is_measured hold_of_a_unit_due hold_of_a_unit_due_rows ≡ true
unfolding need_of sent_of ones union_below line_of form_out form_in
hold_of_a_unit_due_measured = refl

late_entry_due_measured : is_measured late_entry_due late_entry_due_rows ≡ true
unfolding need_of sent_of ones union_below line_of form_out form_in
late_entry_due_measured = refl

lost_due_measured : is_measured lost_due lost_due_rows ≡ true
unfolding need_of sent_of ones union_below line_of form_out form_in
lost_due_measured = refl

many_pulses_due_measured : is_measured many_pulses_due many_pulses_due_rows ≡ true
unfolding need_of sent_of ones union_below line_of form_out form_in
many_pulses_due_measured = refl

offset_255_due_measured : is_measured offset_255_due offset_255_due_rows ≡ true
unfolding need_of sent_of ones union_below line_of form_out form_in
offset_255_due_measured = refl

one_pulse_at_a_time_due_measured : is_measured one_pulse_at_a_time_due one_pulse_at_a_time_due_rows ≡ true
unfolding need_of sent_of ones union_below line_of form_out form_in
one_pulse_at_a_time_due_measured = refl

one_read_due_measured : is_measured one_read_due one_read_due_rows ≡ true
unfolding need_of sent_of ones union_below line_of form_out form_in
one_read_due_measured = refl

opening_given_up_due_measured : is_measured opening_given_up_due opening_given_up_due_rows ≡ true
unfolding need_of sent_of ones union_below line_of form_out form_in
opening_given_up_due_measured = refl

ordered_process_due_measured : is_measured ordered_process_due ordered_process_due_rows ≡ true
unfolding need_of sent_of ones union_below line_of form_out form_in
ordered_process_due_measured = refl

overlapping_resets_due_measured : is_measured overlapping_resets_due overlapping_resets_due_rows ≡ true
unfolding need_of sent_of ones union_below line_of form_out form_in
overlapping_resets_due_measured = refl

own_processes_aborted_due_measured : is_measured own_processes_aborted_due own_processes_aborted_due_rows ≡ true
unfolding need_of sent_of ones union_below line_of form_out form_in
own_processes_aborted_due_measured = refl

pulsed_read_struck_due_measured : is_measured pulsed_read_struck_due pulsed_read_struck_due_rows ≡ true
unfolding need_of sent_of ones union_below line_of form_out form_in
pulsed_read_struck_due_measured = refl

pulsed_write_struck_due_measured : is_measured pulsed_write_struck_due pulsed_write_struck_due_rows ≡ true
unfolding need_of sent_of ones union_below line_of form_out form_in
pulsed_write_struck_due_measured = refl

pulses_out_due_measured : is_measured pulses_out_due pulses_out_due_rows ≡ true
unfolding need_of sent_of ones union_below line_of form_out form_in
pulses_out_due_measured = refl

queue_cleared_due_measured : is_measured queue_cleared_due queue_cleared_due_rows ≡ true
unfolding need_of sent_of ones union_below line_of form_out form_in
queue_cleared_due_measured = refl

queue_orders_due_measured : is_measured queue_orders_due queue_orders_due_rows ≡ true
unfolding need_of sent_of ones union_below line_of form_out form_in
queue_orders_due_measured = refl

ready_units_due_measured : is_measured ready_units_due ready_units_due_rows ≡ true
unfolding need_of sent_of ones union_below line_of form_out form_in
ready_units_due_measured = refl

request_of_a_target_struck_due_measured : is_measured request_of_a_target_struck_due request_of_a_target_struck_due_rows ≡ true
unfolding need_of sent_of ones union_below line_of form_out form_in
request_of_a_target_struck_due_measured = refl

requests_of_a_target_due_measured : is_measured requests_of_a_target_due requests_of_a_target_due_rows ≡ true
unfolding need_of sent_of ones union_below line_of form_out form_in
requests_of_a_target_due_measured = refl

reselected_id_struck_due_measured : is_measured reselected_id_struck_due reselected_id_struck_due_rows ≡ true
unfolding need_of sent_of ones union_below line_of form_out form_in
reselected_id_struck_due_measured = refl

reset_in_a_data_phase_due_measured : is_measured reset_in_a_data_phase_due reset_in_a_data_phase_due_rows ≡ true
unfolding need_of sent_of ones union_below line_of form_out form_in
reset_in_a_data_phase_due_measured = refl

reset_in_a_reselection_due_measured : is_measured reset_in_a_reselection_due reset_in_a_reselection_due_rows ≡ true
unfolding need_of sent_of ones union_below line_of form_out form_in
reset_in_a_reselection_due_measured = refl

reset_in_a_selection_due_measured : is_measured reset_in_a_selection_due reset_in_a_selection_due_rows ≡ true
unfolding need_of sent_of ones union_below line_of form_out form_in
reset_in_a_selection_due_measured = refl

resets_dropped_due_measured : is_measured resets_dropped_due resets_dropped_due_rows ≡ true
unfolding need_of sent_of ones union_below line_of form_out form_in
resets_dropped_due_measured = refl

selected_id_struck_due_measured : is_measured selected_id_struck_due selected_id_struck_due_rows ≡ true
unfolding need_of sent_of ones union_below line_of form_out form_in
selected_id_struck_due_measured = refl

status_given_up_due_measured : is_measured status_given_up_due status_given_up_due_rows ≡ true
unfolding need_of sent_of ones union_below line_of form_out form_in
status_given_up_due_measured = refl

status_struck_due_measured : is_measured status_struck_due status_struck_due_rows ≡ true
unfolding need_of sent_of ones union_below line_of form_out form_in
status_struck_due_measured = refl

struck_names_due_measured : is_measured struck_names_due struck_names_due_rows ≡ true
unfolding need_of sent_of ones union_below line_of form_out form_in
struck_names_due_measured = refl

tag_aborted_due_measured : is_measured tag_aborted_due tag_aborted_due_rows ≡ true
unfolding need_of sent_of ones union_below line_of form_out form_in
tag_aborted_due_measured = refl

tagged_opening_struck_due_measured : is_measured tagged_opening_struck_due tagged_opening_struck_due_rows ≡ true
unfolding need_of sent_of ones union_below line_of form_out form_in
tagged_opening_struck_due_measured = refl

text_two_due_measured : is_measured text_two_due text_two_due_rows ≡ true
unfolding need_of sent_of ones union_below line_of form_out form_in
text_two_due_measured = refl

three_contenders_due_measured : is_measured three_contenders_due three_contenders_due_rows ≡ true
unfolding need_of sent_of ones union_below line_of form_out form_in
three_contenders_due_measured = refl

two_acks_in_one_latency_due_measured : is_measured two_acks_in_one_latency_due two_acks_in_one_latency_due_rows ≡ true
unfolding need_of sent_of ones union_below line_of form_out form_in
two_acks_in_one_latency_due_measured = refl

unanswered_due_measured : is_measured unanswered_due unanswered_due_rows ≡ true
unfolding need_of sent_of ones union_below line_of form_out form_in
unanswered_due_measured = refl

wide_offset_with_lag_due_measured : is_measured wide_offset_with_lag_due wide_offset_with_lag_due_rows ≡ true
unfolding need_of sent_of ones union_below line_of form_out form_in
wide_offset_with_lag_due_measured = refl

called_again_for_sense_due_measured : is_measured called_again_for_sense_due called_again_for_sense_due_rows ≡ true
unfolding need_of sent_of ones union_below line_of form_out form_in
called_again_for_sense_due_measured = refl

failures_due_measured : is_measured failures_due failures_due_rows ≡ true
unfolding need_of sent_of ones union_below line_of form_out form_in
failures_due_measured = refl

negotiation_due_measured : is_measured negotiation_due negotiation_due_rows ≡ true
unfolding need_of sent_of ones union_below line_of form_out form_in
negotiation_due_measured = refl

read_whole_after_a_part_due_measured : is_measured read_whole_after_a_part_due read_whole_after_a_part_due_rows ≡ true
unfolding need_of sent_of ones union_below line_of form_out form_in
read_whole_after_a_part_due_measured = refl

two_aborts_due_measured : is_measured two_aborts_due two_aborts_due_rows ≡ true
unfolding need_of sent_of ones union_below line_of form_out form_in
two_aborts_due_measured = refl

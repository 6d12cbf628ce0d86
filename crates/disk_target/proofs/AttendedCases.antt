-- What targets rest on beside what they hear holds after each row of some runs. Written by tools/makers/attended_case.py.
use Rattle.std.proofs.Common.{◌≡◌, true, [], refl}
use lib.Count.{ones}
use Rattle.bus_trace.specs.LineSet.{line_of}
use Rattle.bus_trace.specs.View.{union_below}
use Rattle.due_model.specs.msg_grammar.specs.Messages.{form_out, form_in}
use Rattle.scenario.specs.Needs.{need_of, sent_of}
use Rattle.due_model.proofs.Seams.{onto}
use Rattle.disk_target.specs.Attended.{attended}
use Rattle.disk_target.proofs.AttendedRuns.{all_attended}
use Rattle.due_model.proofs.Cases.{absent_unit_due, absent_unit_due_rows, burst_without_tags_due, burst_without_tags_due_rows, command_given_up_due, command_given_up_due_rows, command_struck_twice_due, command_struck_twice_due_rows, complete_struck_due, complete_struck_due_rows, counted_due, counted_due_rows, data_in_given_up_due, data_in_given_up_due_rows, data_out_given_up_due, data_out_given_up_due_rows, delayed_ack_due, delayed_ack_due_rows, device_reset_by_message_due, device_reset_by_message_due_rows, equal_bytes_due, equal_bytes_due_rows, fast_pulses_out_due, fast_pulses_out_due_rows, field_in_a_command_due, field_in_a_command_due_rows, full_queue_due, full_queue_due_rows, given_up_due, given_up_due_rows, held_reselection_due, held_reselection_due_rows, hold_of_a_unit_due, hold_of_a_unit_due_rows, late_entry_due, late_entry_due_rows, lost_due, lost_due_rows, many_pulses_due, many_pulses_due_rows, offset_255_due, offset_255_due_rows, one_pulse_at_a_time_due, one_pulse_at_a_time_due_rows, one_read_due, one_read_due_rows, opening_given_up_due, opening_given_up_due_rows, ordered_process_due, ordered_process_due_rows, overlapping_resets_due, overlapping_resets_due_rows, own_processes_aborted_due, own_processes_aborted_due_rows, pulsed_read_struck_due, pulsed_read_struck_due_rows, pulsed_write_struck_due, pulsed_write_struck_due_rows, pulses_out_due, pulses_out_due_rows, queue_cleared_due, queue_cleared_due_rows, queue_orders_due, queue_orders_due_rows, ready_units_due, ready_units_due_rows, request_of_a_target_struck_due, request_of_a_target_struck_due_rows, requests_of_a_target_due, requests_of_a_target_due_rows, reselected_id_struck_due, reselected_id_struck_due_rows, reset_in_a_data_phase_due, reset_in_a_data_phase_due_rows, reset_in_a_reselection_due, reset_in_a_reselection_due_rows, reset_in_a_selection_due, reset_in_a_selection_due_rows, resets_dropped_due, resets_dropped_due_rows, selected_id_struck_due, selected_id_struck_due_rows, status_given_up_due, status_given_up_due_rows, status_struck_due, status_struck_due_rows, struck_names_due, struck_names_due_rows, tag_aborted_due, tag_aborted_due_rows, tagged_opening_struck_due, tagged_opening_struck_due_rows, text_two_due, text_two_due_rows, three_contenders_due, three_contenders_due_rows, two_acks_in_one_latency_due, two_acks_in_one_latency_due_rows, unanswered_due, unanswered_due_rows, wide_offset_with_lag_due, wide_offset_with_lag_due_rows, called_again_for_sense_due, called_again_for_sense_due_rows, failures_due, failures_due_rows, negotiation_due, negotiation_due_rows, read_whole_after_a_part_due, read_whole_after_a_part_due_rows, two_aborts_due, two_aborts_due_rows}

absent_unit_due_attended : attended absent_unit_due (onto absent_unit_due_rows []) ≡ true
unfolding need_of sent_of ones union_below line_of form_out form_in
absent_unit_due_attended = all_attended absent_unit_due absent_unit_due_rows refl

burst_without_tags_due_attended : attended burst_without_tags_due (onto burst_without_tags_due_rows []) ≡ true
unfolding need_of sent_of ones union_below line_of form_out form_in
burst_without_tags_due_attended = all_attended burst_without_tags_due burst_without_tags_due_rows refl

command_given_up_due_attended : attended command_given_up_due (onto command_given_up_due_rows []) ≡ true
unfolding need_of sent_of ones union_below line_of form_out form_in
command_given_up_due_attended = all_attended command_given_up_due command_given_up_due_rows refl

command_struck_twice_due_attended : attended command_struck_twice_due (onto command_struck_twice_due_rows []) ≡ true
unfolding need_of sent_of ones union_below line_of form_out form_in
command_struck_twice_due_attended = all_attended command_struck_twice_due command_struck_twice_due_rows refl

complete_struck_due_attended : attended complete_struck_due (onto complete_struck_due_rows []) ≡ true
unfolding need_of sent_of ones union_below line_of form_out form_in
complete_struck_due_attended = all_attended complete_struck_due complete_struck_due_rows refl

counted_due_attended : attended counted_due (onto counted_due_rows []) ≡ true
unfolding need_of sent_of ones union_below line_of form_out form_in
counted_due_attended = all_attended counted_due counted_due_rows refl

data_in_given_up_due_attended : attended data_in_given_up_due (onto data_in_given_up_due_rows []) ≡ true
unfolding need_of sent_of ones union_below line_of form_out form_in
data_in_given_up_due_attended = all_attended data_in_given_up_due data_in_given_up_due_rows refl

data_out_given_up_due_attended : attended data_out_given_up_due (onto data_out_given_up_due_rows []) ≡ true
unfolding need_of sent_of ones union_below line_of form_out form_in
data_out_given_up_due_attended = all_attended data_out_given_up_due data_out_given_up_due_rows refl

delayed_ack_due_attended : attended delayed_ack_due (onto delayed_ack_due_rows []) ≡ true
unfolding need_of sent_of ones union_below line_of form_out form_in
delayed_ack_due_attended = all_attended delayed_ack_due delayed_ack_due_rows refl

device_reset_by_message_due_attended : attended device_reset_by_message_due (onto device_reset_by_message_due_rows []) ≡ true
unfolding need_of sent_of ones union_below line_of form_out form_in
device_reset_by_message_due_attended = all_attended device_reset_by_message_due device_reset_by_message_due_rows refl

equal_bytes_due_attended : attended equal_bytes_due (onto equal_bytes_due_rows []) ≡ true
unfolding need_of sent_of ones union_below line_of form_out form_in
equal_bytes_due_attended = all_attended equal_bytes_due equal_bytes_due_rows refl

fast_pulses_out_due_attended : attended fast_pulses_out_due (onto fast_pulses_out_due_rows []) ≡ true
unfolding need_of sent_of ones union_below line_of form_out form_in
fast_pulses_out_due_attended = all_attended fast_pulses_out_due fast_pulses_out_due_rows refl

field_in_a_command_due_attended : attended field_in_a_command_due (onto field_in_a_command_due_rows []) ≡ true
unfolding need_of sent_of ones union_below line_of form_out form_in
field_in_a_command_due_attended = all_attended field_in_a_command_due field_in_a_command_due_rows refl

full_queue_due_attended : attended full_queue_due (onto full_queue_due_rows []) ≡ true
unfolding need_of sent_of ones union_below line_of form_out form_in
full_queue_due_attended = all_attended full_queue_due full_queue_due_rows refl

given_up_due_attended : attended given_up_due (onto given_up_due_rows []) ≡ true
unfolding need_of sent_of ones union_below line_of form_out form_in
given_up_due_attended = all_attended given_up_due given_up_due_rows refl

held_reselection_due_attended : attended held_reselection_due (onto held_reselection_due_rows []) ≡ true
unfolding need_of sent_of ones union_below line_of form_out form_in
held_reselection_due_attended = all_attended held_reselection_due held_reselection_due_rows refl

hold_of_a_unit_due_attended : attended hold_of_a_unit_due (onto hold_of_a_unit_due_rows []) ≡ true
unfolding need_of sent_of ones union_below line_of form_out form_in
hold_of_a_unit_due_attended = all_attended hold_of_a_unit_due hold_of_a_unit_due_rows refl

late_entry_due_attended : attended late_entry_due (onto late_entry_due_rows []) ≡ true
unfolding need_of sent_of ones union_below line_of form_out form_in
late_entry_due_attended = all_attended late_entry_due late_entry_due_rows refl

lost_due_attended : attended lost_due (onto lost_due_rows []) ≡ true
unfolding need_of sent_of ones union_below line_of form_out form_in
lost_due_attended = all_attended lost_due lost_due_rows refl

many_pulses_due_attended : attended many_pulses_due (onto many_pulses_due_rows []) ≡ true
unfolding need_of sent_of ones union_below line_of form_out form_in
many_pulses_due_attended = all_attended many_pulses_due many_pulses_due_rows refl

offset_255_due_attended : attended offset_255_due (onto offset_255_due_rows []) ≡ true
unfolding need_of sent_of ones union_below line_of form_out form_in
offset_255_due_attended = all_attended offset_255_due offset_255_due_rows refl

one_pulse_at_a_time_due_attended : attended one_pulse_at_a_time_due (onto one_pulse_at_a_time_due_rows []) ≡ true
unfolding need_of sent_of ones union_below line_of form_out form_in
one_pulse_at_a_time_due_attended = all_attended one_pulse_at_a_time_due one_pulse_at_a_time_due_rows refl

one_read_due_attended : attended one_read_due (onto one_read_due_rows []) ≡ true
unfolding need_of sent_of ones union_below line_of form_out form_in
one_read_due_attended = all_attended one_read_due one_read_due_rows refl

opening_given_up_due_attended : attended opening_given_up_due (onto opening_given_up_due_rows []) ≡ true
unfolding need_of sent_of ones union_below line_of form_out form_in
opening_given_up_due_attended = all_attended opening_given_up_due opening_given_up_due_rows refl

ordered_process_due_attended : attended ordered_process_due (onto ordered_process_due_rows []) ≡ true
unfolding need_of sent_of ones union_below line_of form_out form_in
ordered_process_due_attended = all_attended ordered_process_due ordered_process_due_rows refl

overlapping_resets_due_attended : attended overlapping_resets_due (onto overlapping_resets_due_rows []) ≡ true
unfolding need_of sent_of ones union_below line_of form_out form_in
overlapping_resets_due_attended = all_attended overlapping_resets_due overlapping_resets_due_rows refl

own_processes_aborted_due_attended : attended own_processes_aborted_due (onto own_processes_aborted_due_rows []) ≡ true
unfolding need_of sent_of ones union_below line_of form_out form_in
own_processes_aborted_due_attended = all_attended own_processes_aborted_due own_processes_aborted_due_rows refl

pulsed_read_struck_due_attended : attended pulsed_read_struck_due (onto pulsed_read_struck_due_rows []) ≡ true
unfolding need_of sent_of ones union_below line_of form_out form_in
pulsed_read_struck_due_attended = all_attended pulsed_read_struck_due pulsed_read_struck_due_rows refl

pulsed_write_struck_due_attended : attended pulsed_write_struck_due (onto pulsed_write_struck_due_rows []) ≡ true
unfolding need_of sent_of ones union_below line_of form_out form_in
pulsed_write_struck_due_attended = all_attended pulsed_write_struck_due pulsed_write_struck_due_rows refl

pulses_out_due_attended : attended pulses_out_due (onto pulses_out_due_rows []) ≡ true
unfolding need_of sent_of ones union_below line_of form_out form_in
pulses_out_due_attended = all_attended pulses_out_due pulses_out_due_rows refl

queue_cleared_due_attended : attended queue_cleared_due (onto queue_cleared_due_rows []) ≡ true
unfolding need_of sent_of ones union_below line_of form_out form_in
queue_cleared_due_attended = all_attended queue_cleared_due queue_cleared_due_rows refl

queue_orders_due_attended : attended queue_orders_due (onto queue_orders_due_rows []) ≡ true
unfolding need_of sent_of ones union_below line_of form_out form_in
queue_orders_due_attended = all_attended queue_orders_due queue_orders_due_rows refl

ready_units_due_attended : attended ready_units_due (onto ready_units_due_rows []) ≡ true
unfolding need_of sent_of ones union_below line_of form_out form_in
ready_units_due_attended = all_attended ready_units_due ready_units_due_rows refl

request_of_a_target_struck_due_attended : attended request_of_a_target_struck_due (onto request_of_a_target_struck_due_rows []) ≡ true
unfolding need_of sent_of ones union_below line_of form_out form_in
request_of_a_target_struck_due_attended = all_attended request_of_a_target_struck_due request_of_a_target_struck_due_rows refl

requests_of_a_target_due_attended : attended requests_of_a_target_due (onto requests_of_a_target_due_rows []) ≡ true
unfolding need_of sent_of ones union_below line_of form_out form_in
requests_of_a_target_due_attended = all_attended requests_of_a_target_due requests_of_a_target_due_rows refl

reselected_id_struck_due_attended : attended reselected_id_struck_due (onto reselected_id_struck_due_rows []) ≡ true
unfolding need_of sent_of ones union_below line_of form_out form_in
reselected_id_struck_due_attended = all_attended reselected_id_struck_due reselected_id_struck_due_rows refl

reset_in_a_data_phase_due_attended : attended reset_in_a_data_phase_due (onto reset_in_a_data_phase_due_rows []) ≡ true
unfolding need_of sent_of ones union_below line_of form_out form_in
reset_in_a_data_phase_due_attended = all_attended reset_in_a_data_phase_due reset_in_a_data_phase_due_rows refl

reset_in_a_reselection_due_attended : attended reset_in_a_reselection_due (onto reset_in_a_reselection_due_rows []) ≡ true
unfolding need_of sent_of ones union_below line_of form_out form_in
reset_in_a_reselection_due_attended = all_attended reset_in_a_reselection_due reset_in_a_reselection_due_rows refl

reset_in_a_selection_due_attended : attended reset_in_a_selection_due (onto reset_in_a_selection_due_rows []) ≡ true
unfolding need_of sent_of ones union_below line_of form_out form_in
reset_in_a_selection_due_attended = all_attended reset_in_a_selection_due reset_in_a_selection_due_rows refl

resets_dropped_due_attended : attended resets_dropped_due (onto resets_dropped_due_rows []) ≡ true
unfolding need_of sent_of ones union_below line_of form_out form_in
resets_dropped_due_attended = all_attended resets_dropped_due resets_dropped_due_rows refl

selected_id_struck_due_attended : attended selected_id_struck_due (onto selected_id_struck_due_rows []) ≡ true
unfolding need_of sent_of ones union_below line_of form_out form_in
selected_id_struck_due_attended = all_attended selected_id_struck_due selected_id_struck_due_rows refl

status_given_up_due_attended : attended status_given_up_due (onto status_given_up_due_rows []) ≡ true
unfolding need_of sent_of ones union_below line_of form_out form_in
status_given_up_due_attended = all_attended status_given_up_due status_given_up_due_rows refl

status_struck_due_attended : attended status_struck_due (onto status_struck_due_rows []) ≡ true
unfolding need_of sent_of ones union_below line_of form_out form_in
status_struck_due_attended = all_attended status_struck_due status_struck_due_rows refl

struck_names_due_attended : attended struck_names_due (onto struck_names_due_rows []) ≡ true
unfolding need_of sent_of ones union_below line_of form_out form_in
struck_names_due_attended = all_attended struck_names_due struck_names_due_rows refl

tag_aborted_due_attended : attended tag_aborted_due (onto tag_aborted_due_rows []) ≡ true
unfolding need_of sent_of ones union_below line_of form_out form_in
tag_aborted_due_attended = all_attended tag_aborted_due tag_aborted_due_rows refl

tagged_opening_struck_due_attended : attended tagged_opening_struck_due (onto tagged_opening_struck_due_rows []) ≡ true
unfolding need_of sent_of ones union_below line_of form_out form_in
tagged_opening_struck_due_attended = all_attended tagged_opening_struck_due tagged_opening_struck_due_rows refl

text_two_due_attended : attended text_two_due (onto text_two_due_rows []) ≡ true
unfolding need_of sent_of ones union_below line_of form_out form_in
text_two_due_attended = all_attended text_two_due text_two_due_rows refl

three_contenders_due_attended : attended three_contenders_due (onto three_contenders_due_rows []) ≡ true
unfolding need_of sent_of ones union_below line_of form_out form_in
three_contenders_due_attended = all_attended three_contenders_due three_contenders_due_rows refl

two_acks_in_one_latency_due_attended : attended two_acks_in_one_latency_due (onto two_acks_in_one_latency_due_rows []) ≡ true
unfolding need_of sent_of ones union_below line_of form_out form_in
two_acks_in_one_latency_due_attended = all_attended two_acks_in_one_latency_due two_acks_in_one_latency_due_rows refl

unanswered_due_attended : attended unanswered_due (onto unanswered_due_rows []) ≡ true
unfolding need_of sent_of ones union_below line_of form_out form_in
unanswered_due_attended = all_attended unanswered_due unanswered_due_rows refl

wide_offset_with_lag_due_attended : attended wide_offset_with_lag_due (onto wide_offset_with_lag_due_rows []) ≡ true
unfolding need_of sent_of ones union_below line_of form_out form_in
wide_offset_with_lag_due_attended = all_attended wide_offset_with_lag_due wide_offset_with_lag_due_rows refl

called_again_for_sense_due_attended : attended called_again_for_sense_due (onto called_again_for_sense_due_rows []) ≡ true
unfolding need_of sent_of ones union_below line_of form_out form_in
called_again_for_sense_due_attended = all_attended called_again_for_sense_due called_again_for_sense_due_rows refl

failures_due_attended : attended failures_due (onto failures_due_rows []) ≡ true
unfolding need_of sent_of ones union_below line_of form_out form_in
failures_due_attended = all_attended failures_due failures_due_rows refl

negotiation_due_attended : attended negotiation_due (onto negotiation_due_rows []) ≡ true
unfolding need_of sent_of ones union_below line_of form_out form_in
negotiation_due_attended = all_attended negotiation_due negotiation_due_rows refl

read_whole_after_a_part_due_attended : attended read_whole_after_a_part_due (onto read_whole_after_a_part_due_rows []) ≡ true
unfolding need_of sent_of ones union_below line_of form_out form_in
read_whole_after_a_part_due_attended = all_attended read_whole_after_a_part_due read_whole_after_a_part_due_rows refl

two_aborts_due_attended : attended two_aborts_due (onto two_aborts_due_rows []) ≡ true
unfolding need_of sent_of ones union_below line_of form_out form_in
two_aborts_due_attended = all_attended two_aborts_due two_aborts_due_rows refl

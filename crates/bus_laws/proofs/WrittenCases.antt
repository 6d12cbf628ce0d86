-- Writes come whole, after each row of some runs. Written by tools/makers/written_case.py.
use Rattle.std.proofs.Common.{◌≡◌, true, [], refl}
use lib.Count.{ones}
use Rattle.due_model.specs.bus_trace.specs.LineSet.{line_of}
use Rattle.due_model.specs.bus_trace.specs.View.{union_below}
use Rattle.due_model.specs.msg_grammar.specs.Messages.{form_out, form_in}
use Rattle.due_model.specs.scenario.specs.Needs.{need_of, sent_of}
use Rattle.due_model.proofs.Seams.{onto}
use Rattle.scsi_device.specs.Writes.{written}
use Rattle.bus_laws.proofs.WrittenRuns.{all_written}
use Rattle.due_model.proofs.Cases.{absent_unit_due, absent_unit_due_rows, burst_without_tags_due, burst_without_tags_due_rows, command_given_up_due, command_given_up_due_rows, command_struck_twice_due, command_struck_twice_due_rows, complete_struck_due, complete_struck_due_rows, counted_due, counted_due_rows, data_in_given_up_due, data_in_given_up_due_rows, data_out_given_up_due, data_out_given_up_due_rows, delayed_ack_due, delayed_ack_due_rows, device_reset_by_message_due, device_reset_by_message_due_rows, equal_bytes_due, equal_bytes_due_rows, fast_pulses_out_due, fast_pulses_out_due_rows, field_in_a_command_due, field_in_a_command_due_rows, full_queue_due, full_queue_due_rows, given_up_due, given_up_due_rows, held_reselection_due, held_reselection_due_rows, hold_of_a_unit_due, hold_of_a_unit_due_rows, late_entry_due, late_entry_due_rows, lost_due, lost_due_rows, many_pulses_due, many_pulses_due_rows, offset_255_due, offset_255_due_rows, one_pulse_at_a_time_due, one_pulse_at_a_time_due_rows, one_read_due, one_read_due_rows, opening_given_up_due, opening_given_up_due_rows, ordered_process_due, ordered_process_due_rows, overlapping_resets_due, overlapping_resets_due_rows, own_processes_aborted_due, own_processes_aborted_due_rows, pulsed_read_struck_due, pulsed_read_struck_due_rows, pulsed_write_struck_due, pulsed_write_struck_due_rows, pulses_out_due, pulses_out_due_rows, queue_cleared_due, queue_cleared_due_rows, queue_orders_due, queue_orders_due_rows, ready_units_due, ready_units_due_rows, request_of_a_target_struck_due, request_of_a_target_struck_due_rows, requests_of_a_target_due, requests_of_a_target_due_rows, reselected_id_struck_due, reselected_id_struck_due_rows, reset_in_a_data_phase_due, reset_in_a_data_phase_due_rows, reset_in_a_reselection_due, reset_in_a_reselection_due_rows, reset_in_a_selection_due, reset_in_a_selection_due_rows, resets_dropped_due, resets_dropped_due_rows, selected_id_struck_due, selected_id_struck_due_rows, status_given_up_due, status_given_up_due_rows, status_struck_due, status_struck_due_rows, struck_names_due, struck_names_due_rows, tag_aborted_due, tag_aborted_due_rows, tagged_opening_struck_due, tagged_opening_struck_due_rows, text_two_due, text_two_due_rows, three_contenders_due, three_contenders_due_rows, two_acks_in_one_latency_due, two_acks_in_one_latency_due_rows, unanswered_due, unanswered_due_rows, wide_offset_with_lag_due, wide_offset_with_lag_due_rows, called_again_for_sense_due, called_again_for_sense_due_rows, failures_due, failures_due_rows, negotiation_due, negotiation_due_rows, read_whole_after_a_part_due, read_whole_after_a_part_due_rows, two_aborts_due, two_aborts_due_rows}

absent_unit_due_written : written absent_unit_due (onto absent_unit_due_rows []) ≡ true
unfolding need_of sent_of ones union_below line_of form_out form_in
absent_unit_due_written = all_written absent_unit_due absent_unit_due_rows refl

burst_without_tags_due_written : written burst_without_tags_due (onto burst_without_tags_due_rows []) ≡ true
unfolding need_of sent_of ones union_below line_of form_out form_in
burst_without_tags_due_written = all_written burst_without_tags_due burst_without_tags_due_rows refl

command_given_up_due_written : written command_given_up_due (onto command_given_up_due_rows []) ≡ true
unfolding need_of sent_of ones union_below line_of form_out form_in
command_given_up_due_written = all_written command_given_up_due command_given_up_due_rows refl

command_struck_twice_due_written : written command_struck_twice_due (onto command_struck_twice_due_rows []) ≡ true
unfolding need_of sent_of ones union_below line_of form_out form_in
command_struck_twice_due_written = all_written command_struck_twice_due command_struck_twice_due_rows refl

complete_struck_due_written : written complete_struck_due (onto complete_struck_due_rows []) ≡ true
unfolding need_of sent_of ones union_below line_of form_out form_in
complete_struck_due_written = all_written complete_struck_due complete_struck_due_rows refl

counted_due_written : written counted_due (onto counted_due_rows []) ≡ true
unfolding need_of sent_of ones union_below line_of form_out form_in
counted_due_written = all_written counted_due counted_due_rows refl

data_in_given_up_due_written : written data_in_given_up_due (onto data_in_given_up_due_rows []) ≡ true
unfolding need_of sent_of ones union_below line_of form_out form_in
data_in_given_up_due_written = all_written data_in_given_up_due data_in_given_up_due_rows refl

data_out_given_up_due_written : written data_out_given_up_due (onto data_out_given_up_due_rows []) ≡ true
unfolding need_of sent_of ones union_below line_of form_out form_in
data_out_given_up_due_written = all_written data_out_given_up_due data_out_given_up_due_rows refl

delayed_ack_due_written : written delayed_ack_due (onto delayed_ack_due_rows []) ≡ true
unfolding need_of sent_of ones union_below line_of form_out form_in
delayed_ack_due_written = all_written delayed_ack_due delayed_ack_due_rows refl

device_reset_by_message_due_written : written device_reset_by_message_due (onto device_reset_by_message_due_rows []) ≡ true
unfolding need_of sent_of ones union_below line_of form_out form_in
device_reset_by_message_due_written = all_written device_reset_by_message_due device_reset_by_message_due_rows refl

equal_bytes_due_written : written equal_bytes_due (onto equal_bytes_due_rows []) ≡ true
unfolding need_of sent_of ones union_below line_of form_out form_in
equal_bytes_due_written = all_written equal_bytes_due equal_bytes_due_rows refl

fast_pulses_out_due_written : written fast_pulses_out_due (onto fast_pulses_out_due_rows []) ≡ true
unfolding need_of sent_of ones union_below line_of form_out form_in
fast_pulses_out_due_written = all_written fast_pulses_out_due fast_pulses_out_due_rows refl

field_in_a_command_due_written : written field_in_a_command_due (onto field_in_a_command_due_rows []) ≡ true
unfolding need_of sent_of ones union_below line_of form_out form_in
field_in_a_command_due_written = all_written field_in_a_command_due field_in_a_command_due_rows refl

full_queue_due_written : written full_queue_due (onto full_queue_due_rows []) ≡ true
unfolding need_of sent_of ones union_below line_of form_out form_in
full_queue_due_written = all_written full_queue_due full_queue_due_rows refl

given_up_due_written : written given_up_due (onto given_up_due_rows []) ≡ true
unfolding need_of sent_of ones union_below line_of form_out form_in
given_up_due_written = all_written given_up_due given_up_due_rows refl

held_reselection_due_written : written held_reselection_due (onto held_reselection_due_rows []) ≡ true
unfolding need_of sent_of ones union_below line_of form_out form_in
held_reselection_due_written = all_written held_reselection_due held_reselection_due_rows refl

hold_of_a_unit_due_written : written hold_of_a_unit_due (onto hold_of_a_unit_due_rows []) ≡ true
unfolding need_of sent_of ones union_below line_of form_out form_in
hold_of_a_unit_due_written = all_written hold_of_a_unit_due hold_of_a_unit_due_rows refl

late_entry_due_written : written late_entry_due (onto late_entry_due_rows []) ≡ true
unfolding need_of sent_of ones union_below line_of form_out form_in
late_entry_due_written = all_written late_entry_due late_entry_due_rows refl

lost_due_written : written lost_due (onto lost_due_rows []) ≡ true
unfolding need_of sent_of ones union_below line_of form_out form_in
lost_due_written = all_written lost_due lost_due_rows refl

many_pulses_due_written : written many_pulses_due (onto many_pulses_due_rows []) ≡ true
unfolding need_of sent_of ones union_below line_of form_out form_in
many_pulses_due_written = all_written many_pulses_due many_pulses_due_rows refl

offset_255_due_written : written offset_255_due (onto offset_255_due_rows []) ≡ true
unfolding need_of sent_of ones union_below line_of form_out form_in
offset_255_due_written = all_written offset_255_due offset_255_due_rows refl

one_pulse_at_a_time_due_written : written one_pulse_at_a_time_due (onto one_pulse_at_a_time_due_rows []) ≡ true
unfolding need_of sent_of ones union_below line_of form_out form_in
one_pulse_at_a_time_due_written = all_written one_pulse_at_a_time_due one_pulse_at_a_time_due_rows refl

one_read_due_written : written one_read_due (onto one_read_due_rows []) ≡ true
unfolding need_of sent_of ones union_below line_of form_out form_in
one_read_due_written = all_written one_read_due one_read_due_rows refl

opening_given_up_due_written : written opening_given_up_due (onto opening_given_up_due_rows []) ≡ true
unfolding need_of sent_of ones union_below line_of form_out form_in
opening_given_up_due_written = all_written opening_given_up_due opening_given_up_due_rows refl

ordered_process_due_written : written ordered_process_due (onto ordered_process_due_rows []) ≡ true
unfolding need_of sent_of ones union_below line_of form_out form_in
ordered_process_due_written = all_written ordered_process_due ordered_process_due_rows refl

overlapping_resets_due_written : written overlapping_resets_due (onto overlapping_resets_due_rows []) ≡ true
unfolding need_of sent_of ones union_below line_of form_out form_in
overlapping_resets_due_written = all_written overlapping_resets_due overlapping_resets_due_rows refl

own_processes_aborted_due_written : written own_processes_aborted_due (onto own_processes_aborted_due_rows []) ≡ true
unfolding need_of sent_of ones union_below line_of form_out form_in
own_processes_aborted_due_written = all_written own_processes_aborted_due own_processes_aborted_due_rows refl

pulsed_read_struck_due_written : written pulsed_read_struck_due (onto pulsed_read_struck_due_rows []) ≡ true
unfolding need_of sent_of ones union_below line_of form_out form_in
pulsed_read_struck_due_written = all_written pulsed_read_struck_due pulsed_read_struck_due_rows refl

pulsed_write_struck_due_written : written pulsed_write_struck_due (onto pulsed_write_struck_due_rows []) ≡ true
unfolding need_of sent_of ones union_below line_of form_out form_in
pulsed_write_struck_due_written = all_written pulsed_write_struck_due pulsed_write_struck_due_rows refl

pulses_out_due_written : written pulses_out_due (onto pulses_out_due_rows []) ≡ true
unfolding need_of sent_of ones union_below line_of form_out form_in
pulses_out_due_written = all_written pulses_out_due pulses_out_due_rows refl

queue_cleared_due_written : written queue_cleared_due (onto queue_cleared_due_rows []) ≡ true
unfolding need_of sent_of ones union_below line_of form_out form_in
queue_cleared_due_written = all_written queue_cleared_due queue_cleared_due_rows refl

queue_orders_due_written : written queue_orders_due (onto queue_orders_due_rows []) ≡ true
unfolding need_of sent_of ones union_below line_of form_out form_in
queue_orders_due_written = all_written queue_orders_due queue_orders_due_rows refl

ready_units_due_written : written ready_units_due (onto ready_units_due_rows []) ≡ true
unfolding need_of sent_of ones union_below line_of form_out form_in
ready_units_due_written = all_written ready_units_due ready_units_due_rows refl

request_of_a_target_struck_due_written : written request_of_a_target_struck_due (onto request_of_a_target_struck_due_rows []) ≡ true
unfolding need_of sent_of ones union_below line_of form_out form_in
request_of_a_target_struck_due_written = all_written request_of_a_target_struck_due request_of_a_target_struck_due_rows refl

requests_of_a_target_due_written : written requests_of_a_target_due (onto requests_of_a_target_due_rows []) ≡ true
unfolding need_of sent_of ones union_below line_of form_out form_in
requests_of_a_target_due_written = all_written requests_of_a_target_due requests_of_a_target_due_rows refl

reselected_id_struck_due_written : written reselected_id_struck_due (onto reselected_id_struck_due_rows []) ≡ true
unfolding need_of sent_of ones union_below line_of form_out form_in
reselected_id_struck_due_written = all_written reselected_id_struck_due reselected_id_struck_due_rows refl

reset_in_a_data_phase_due_written : written reset_in_a_data_phase_due (onto reset_in_a_data_phase_due_rows []) ≡ true
unfolding need_of sent_of ones union_below line_of form_out form_in
reset_in_a_data_phase_due_written = all_written reset_in_a_data_phase_due reset_in_a_data_phase_due_rows refl

reset_in_a_reselection_due_written : written reset_in_a_reselection_due (onto reset_in_a_reselection_due_rows []) ≡ true
unfolding need_of sent_of ones union_below line_of form_out form_in
reset_in_a_reselection_due_written = all_written reset_in_a_reselection_due reset_in_a_reselection_due_rows refl

reset_in_a_selection_due_written : written reset_in_a_selection_due (onto reset_in_a_selection_due_rows []) ≡ true
unfolding need_of sent_of ones union_below line_of form_out form_in
reset_in_a_selection_due_written = all_written reset_in_a_selection_due reset_in_a_selection_due_rows refl

resets_dropped_due_written : written resets_dropped_due (onto resets_dropped_due_rows []) ≡ true
unfolding need_of sent_of ones union_below line_of form_out form_in
resets_dropped_due_written = all_written resets_dropped_due resets_dropped_due_rows refl

selected_id_struck_due_written : written selected_id_struck_due (onto selected_id_struck_due_rows []) ≡ true
unfolding need_of sent_of ones union_below line_of form_out form_in
selected_id_struck_due_written = all_written selected_id_struck_due selected_id_struck_due_rows refl

status_given_up_due_written : written status_given_up_due (onto status_given_up_due_rows []) ≡ true
unfolding need_of sent_of ones union_below line_of form_out form_in
status_given_up_due_written = all_written status_given_up_due status_given_up_due_rows refl

status_struck_due_written : written status_struck_due (onto status_struck_due_rows []) ≡ true
unfolding need_of sent_of ones union_below line_of form_out form_in
status_struck_due_written = all_written status_struck_due status_struck_due_rows refl

struck_names_due_written : written struck_names_due (onto struck_names_due_rows []) ≡ true
unfolding need_of sent_of ones union_below line_of form_out form_in
struck_names_due_written = all_written struck_names_due struck_names_due_rows refl

tag_aborted_due_written : written tag_aborted_due (onto tag_aborted_due_rows []) ≡ true
unfolding need_of sent_of ones union_below line_of form_out form_in
tag_aborted_due_written = all_written tag_aborted_due tag_aborted_due_rows refl

tagged_opening_struck_due_written : written tagged_opening_struck_due (onto tagged_opening_struck_due_rows []) ≡ true
unfolding need_of sent_of ones union_below line_of form_out form_in
tagged_opening_struck_due_written = all_written tagged_opening_struck_due tagged_opening_struck_due_rows refl

text_two_due_written : written text_two_due (onto text_two_due_rows []) ≡ true
unfolding need_of sent_of ones union_below line_of form_out form_in
text_two_due_written = all_written text_two_due text_two_due_rows refl

three_contenders_due_written : written three_contenders_due (onto three_contenders_due_rows []) ≡ true
unfolding need_of sent_of ones union_below line_of form_out form_in
three_contenders_due_written = all_written three_contenders_due three_contenders_due_rows refl

two_acks_in_one_latency_due_written : written two_acks_in_one_latency_due (onto two_acks_in_one_latency_due_rows []) ≡ true
unfolding need_of sent_of ones union_below line_of form_out form_in
two_acks_in_one_latency_due_written = all_written two_acks_in_one_latency_due two_acks_in_one_latency_due_rows refl

unanswered_due_written : written unanswered_due (onto unanswered_due_rows []) ≡ true
unfolding need_of sent_of ones union_below line_of form_out form_in
unanswered_due_written = all_written unanswered_due unanswered_due_rows refl

wide_offset_with_lag_due_written : written wide_offset_with_lag_due (onto wide_offset_with_lag_due_rows []) ≡ true
unfolding need_of sent_of ones union_below line_of form_out form_in
wide_offset_with_lag_due_written = all_written wide_offset_with_lag_due wide_offset_with_lag_due_rows refl

called_again_for_sense_due_written : written called_again_for_sense_due (onto called_again_for_sense_due_rows []) ≡ true
unfolding need_of sent_of ones union_below line_of form_out form_in
called_again_for_sense_due_written = all_written called_again_for_sense_due called_again_for_sense_due_rows refl

failures_due_written : written failures_due (onto failures_due_rows []) ≡ true
unfolding need_of sent_of ones union_below line_of form_out form_in
failures_due_written = all_written failures_due failures_due_rows refl

negotiation_due_written : written negotiation_due (onto negotiation_due_rows []) ≡ true
unfolding need_of sent_of ones union_below line_of form_out form_in
negotiation_due_written = all_written negotiation_due negotiation_due_rows refl

read_whole_after_a_part_due_written : written read_whole_after_a_part_due (onto read_whole_after_a_part_due_rows []) ≡ true
unfolding need_of sent_of ones union_below line_of form_out form_in
read_whole_after_a_part_due_written = all_written read_whole_after_a_part_due read_whole_after_a_part_due_rows refl

two_aborts_due_written : written two_aborts_due (onto two_aborts_due_rows []) ≡ true
unfolding need_of sent_of ones union_below line_of form_out form_in
two_aborts_due_written = all_written two_aborts_due two_aborts_due_rows refl

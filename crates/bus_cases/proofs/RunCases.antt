-- Whole runs, computed from their scenarios by what is due, are those of the reports. Written by tools/makers/shown_case.py.
use Rattle.std.proofs.Common.{◌≡◌, refl}
use lib.Count.{ones}
use Rattle.due_model.specs.bus_trace.specs.LineSet.{line_of}
use Rattle.due_model.specs.bus_trace.specs.View.{union_below}
use Rattle.due_model.specs.msg_grammar.specs.Messages.{form_out, form_in}
use Rattle.due_model.specs.scenario.specs.Needs.{need_of, sent_of}
use Rattle.due_model.specs.Next.{least}
use Rattle.due_model.specs.Run.{run_from, run_by_due}
use Rattle.due_model.proofs.Cases.{shown, absent_unit_due, absent_unit_due_shown, burst_without_tags_due, burst_without_tags_due_shown, command_given_up_due, command_given_up_due_shown, command_struck_twice_due, command_struck_twice_due_shown, complete_struck_due, complete_struck_due_shown, counted_due, counted_due_shown, data_in_given_up_due, data_in_given_up_due_shown, data_out_given_up_due, data_out_given_up_due_shown, delayed_ack_due, delayed_ack_due_shown, device_reset_by_message_due, device_reset_by_message_due_shown, equal_bytes_due, equal_bytes_due_shown, fast_pulses_out_due, fast_pulses_out_due_shown, field_in_a_command_due, field_in_a_command_due_shown, full_queue_due, full_queue_due_shown, given_up_due, given_up_due_shown, held_reselection_due, held_reselection_due_shown, hold_of_a_unit_due, hold_of_a_unit_due_shown, lost_due, lost_due_shown, many_pulses_due, many_pulses_due_shown, offset_255_due, offset_255_due_shown, one_pulse_at_a_time_due, one_pulse_at_a_time_due_shown, opening_given_up_due, opening_given_up_due_shown, ordered_process_due, ordered_process_due_shown, overlapping_resets_due, overlapping_resets_due_shown, own_processes_aborted_due, own_processes_aborted_due_shown, pulsed_read_struck_due, pulsed_read_struck_due_shown, pulsed_write_struck_due, pulsed_write_struck_due_shown, queue_cleared_due, queue_cleared_due_shown, queue_orders_due, queue_orders_due_shown, request_of_a_target_struck_due, request_of_a_target_struck_due_shown, requests_of_a_target_due, requests_of_a_target_due_shown, reselected_id_struck_due, reselected_id_struck_due_shown, reset_in_a_data_phase_due, reset_in_a_data_phase_due_shown, reset_in_a_reselection_due, reset_in_a_reselection_due_shown, reset_in_a_selection_due, reset_in_a_selection_due_shown, selected_id_struck_due, selected_id_struck_due_shown, status_given_up_due, status_given_up_due_shown, status_struck_due, status_struck_due_shown, struck_names_due, struck_names_due_shown, tagged_opening_struck_due, tagged_opening_struck_due_shown, text_two_due, text_two_due_shown, three_contenders_due, three_contenders_due_shown, two_acks_in_one_latency_due, two_acks_in_one_latency_due_shown, wide_offset_with_lag_due, wide_offset_with_lag_due_shown, called_again_for_sense_due, called_again_for_sense_due_shown, failures_due, failures_due_shown, negotiation_due, negotiation_due_shown, read_whole_after_a_part_due, read_whole_after_a_part_due_shown, two_aborts_due, two_aborts_due_shown}

absent_unit_due_run : shown (run_by_due absent_unit_due 139) ≡ absent_unit_due_shown
unfolding need_of sent_of ones union_below line_of form_out form_in least run_from
absent_unit_due_run = refl

burst_without_tags_due_run : shown (run_by_due burst_without_tags_due 290) ≡ burst_without_tags_due_shown
unfolding need_of sent_of ones union_below line_of form_out form_in least run_from
burst_without_tags_due_run = refl

command_given_up_due_run : shown (run_by_due command_given_up_due 170) ≡ command_given_up_due_shown
unfolding need_of sent_of ones union_below line_of form_out form_in least run_from
command_given_up_due_run = refl

command_struck_twice_due_run : shown (run_by_due command_struck_twice_due 200) ≡ command_struck_twice_due_shown
unfolding need_of sent_of ones union_below line_of form_out form_in least run_from
command_struck_twice_due_run = refl

complete_struck_due_run : shown (run_by_due complete_struck_due 98) ≡ complete_struck_due_shown
unfolding need_of sent_of ones union_below line_of form_out form_in least run_from
complete_struck_due_run = refl

counted_due_run : shown (run_by_due counted_due 248) ≡ counted_due_shown
unfolding need_of sent_of ones union_below line_of form_out form_in least run_from
counted_due_run = refl

data_in_given_up_due_run : shown (run_by_due data_in_given_up_due 201) ≡ data_in_given_up_due_shown
unfolding need_of sent_of ones union_below line_of form_out form_in least run_from
data_in_given_up_due_run = refl

data_out_given_up_due_run : shown (run_by_due data_out_given_up_due 205) ≡ data_out_given_up_due_shown
unfolding need_of sent_of ones union_below line_of form_out form_in least run_from
data_out_given_up_due_run = refl

delayed_ack_due_run : shown (run_by_due delayed_ack_due 139) ≡ delayed_ack_due_shown
unfolding need_of sent_of ones union_below line_of form_out form_in least run_from
delayed_ack_due_run = refl

device_reset_by_message_due_run : shown (run_by_due device_reset_by_message_due 260) ≡ device_reset_by_message_due_shown
unfolding need_of sent_of ones union_below line_of form_out form_in least run_from
device_reset_by_message_due_run = refl

equal_bytes_due_run : shown (run_by_due equal_bytes_due 360) ≡ equal_bytes_due_shown
unfolding need_of sent_of ones union_below line_of form_out form_in least run_from
equal_bytes_due_run = refl

fast_pulses_out_due_run : shown (run_by_due fast_pulses_out_due 182) ≡ fast_pulses_out_due_shown
unfolding need_of sent_of ones union_below line_of form_out form_in least run_from
fast_pulses_out_due_run = refl

field_in_a_command_due_run : shown (run_by_due field_in_a_command_due 239) ≡ field_in_a_command_due_shown
unfolding need_of sent_of ones union_below line_of form_out form_in least run_from
field_in_a_command_due_run = refl

full_queue_due_run : shown (run_by_due full_queue_due 157) ≡ full_queue_due_shown
unfolding need_of sent_of ones union_below line_of form_out form_in least run_from
full_queue_due_run = refl

given_up_due_run : shown (run_by_due given_up_due 527) ≡ given_up_due_shown
unfolding need_of sent_of ones union_below line_of form_out form_in least run_from
given_up_due_run = refl

held_reselection_due_run : shown (run_by_due held_reselection_due 389) ≡ held_reselection_due_shown
unfolding need_of sent_of ones union_below line_of form_out form_in least run_from
held_reselection_due_run = refl

hold_of_a_unit_due_run : shown (run_by_due hold_of_a_unit_due 281) ≡ hold_of_a_unit_due_shown
unfolding need_of sent_of ones union_below line_of form_out form_in least run_from
hold_of_a_unit_due_run = refl

lost_due_run : shown (run_by_due lost_due 131) ≡ lost_due_shown
unfolding need_of sent_of ones union_below line_of form_out form_in least run_from
lost_due_run = refl

many_pulses_due_run : shown (run_by_due many_pulses_due 514) ≡ many_pulses_due_shown
unfolding need_of sent_of ones union_below line_of form_out form_in least run_from
many_pulses_due_run = refl

offset_255_due_run : shown (run_by_due offset_255_due 229) ≡ offset_255_due_shown
unfolding need_of sent_of ones union_below line_of form_out form_in least run_from
offset_255_due_run = refl

one_pulse_at_a_time_due_run : shown (run_by_due one_pulse_at_a_time_due 203) ≡ one_pulse_at_a_time_due_shown
unfolding need_of sent_of ones union_below line_of form_out form_in least run_from
one_pulse_at_a_time_due_run = refl

opening_given_up_due_run : shown (run_by_due opening_given_up_due 120) ≡ opening_given_up_due_shown
unfolding need_of sent_of ones union_below line_of form_out form_in least run_from
opening_given_up_due_run = refl

ordered_process_due_run : shown (run_by_due ordered_process_due 256) ≡ ordered_process_due_shown
unfolding need_of sent_of ones union_below line_of form_out form_in least run_from
ordered_process_due_run = refl

overlapping_resets_due_run : shown (run_by_due overlapping_resets_due 83) ≡ overlapping_resets_due_shown
unfolding need_of sent_of ones union_below line_of form_out form_in least run_from
overlapping_resets_due_run = refl

own_processes_aborted_due_run : shown (run_by_due own_processes_aborted_due 144) ≡ own_processes_aborted_due_shown
unfolding need_of sent_of ones union_below line_of form_out form_in least run_from
own_processes_aborted_due_run = refl

pulsed_read_struck_due_run : shown (run_by_due pulsed_read_struck_due 268) ≡ pulsed_read_struck_due_shown
unfolding need_of sent_of ones union_below line_of form_out form_in least run_from
pulsed_read_struck_due_run = refl

pulsed_write_struck_due_run : shown (run_by_due pulsed_write_struck_due 270) ≡ pulsed_write_struck_due_shown
unfolding need_of sent_of ones union_below line_of form_out form_in least run_from
pulsed_write_struck_due_run = refl

queue_cleared_due_run : shown (run_by_due queue_cleared_due 270) ≡ queue_cleared_due_shown
unfolding need_of sent_of ones union_below line_of form_out form_in least run_from
queue_cleared_due_run = refl

queue_orders_due_run : shown (run_by_due queue_orders_due 274) ≡ queue_orders_due_shown
unfolding need_of sent_of ones union_below line_of form_out form_in least run_from
queue_orders_due_run = refl

request_of_a_target_struck_due_run : shown (run_by_due request_of_a_target_struck_due 180) ≡ request_of_a_target_struck_due_shown
unfolding need_of sent_of ones union_below line_of form_out form_in least run_from
request_of_a_target_struck_due_run = refl

requests_of_a_target_due_run : shown (run_by_due requests_of_a_target_due 179) ≡ requests_of_a_target_due_shown
unfolding need_of sent_of ones union_below line_of form_out form_in least run_from
requests_of_a_target_due_run = refl

reselected_id_struck_due_run : shown (run_by_due reselected_id_struck_due 81) ≡ reselected_id_struck_due_shown
unfolding need_of sent_of ones union_below line_of form_out form_in least run_from
reselected_id_struck_due_run = refl

reset_in_a_data_phase_due_run : shown (run_by_due reset_in_a_data_phase_due 250) ≡ reset_in_a_data_phase_due_shown
unfolding need_of sent_of ones union_below line_of form_out form_in least run_from
reset_in_a_data_phase_due_run = refl

reset_in_a_reselection_due_run : shown (run_by_due reset_in_a_reselection_due 58) ≡ reset_in_a_reselection_due_shown
unfolding need_of sent_of ones union_below line_of form_out form_in least run_from
reset_in_a_reselection_due_run = refl

reset_in_a_selection_due_run : shown (run_by_due reset_in_a_selection_due 245) ≡ reset_in_a_selection_due_shown
unfolding need_of sent_of ones union_below line_of form_out form_in least run_from
reset_in_a_selection_due_run = refl

selected_id_struck_due_run : shown (run_by_due selected_id_struck_due 63) ≡ selected_id_struck_due_shown
unfolding need_of sent_of ones union_below line_of form_out form_in least run_from
selected_id_struck_due_run = refl

status_given_up_due_run : shown (run_by_due status_given_up_due 76) ≡ status_given_up_due_shown
unfolding need_of sent_of ones union_below line_of form_out form_in least run_from
status_given_up_due_run = refl

status_struck_due_run : shown (run_by_due status_struck_due 74) ≡ status_struck_due_shown
unfolding need_of sent_of ones union_below line_of form_out form_in least run_from
status_struck_due_run = refl

struck_names_due_run : shown (run_by_due struck_names_due 367) ≡ struck_names_due_shown
unfolding need_of sent_of ones union_below line_of form_out form_in least run_from
struck_names_due_run = refl

tagged_opening_struck_due_run : shown (run_by_due tagged_opening_struck_due 98) ≡ tagged_opening_struck_due_shown
unfolding need_of sent_of ones union_below line_of form_out form_in least run_from
tagged_opening_struck_due_run = refl

text_two_due_run : shown (run_by_due text_two_due 711) ≡ text_two_due_shown
unfolding need_of sent_of ones union_below line_of form_out form_in least run_from
text_two_due_run = refl

three_contenders_due_run : shown (run_by_due three_contenders_due 182) ≡ three_contenders_due_shown
unfolding need_of sent_of ones union_below line_of form_out form_in least run_from
three_contenders_due_run = refl

two_acks_in_one_latency_due_run : shown (run_by_due two_acks_in_one_latency_due 192) ≡ two_acks_in_one_latency_due_shown
unfolding need_of sent_of ones union_below line_of form_out form_in least run_from
two_acks_in_one_latency_due_run = refl

wide_offset_with_lag_due_run : shown (run_by_due wide_offset_with_lag_due 184) ≡ wide_offset_with_lag_due_shown
unfolding need_of sent_of ones union_below line_of form_out form_in least run_from
wide_offset_with_lag_due_run = refl

called_again_for_sense_due_run : shown (run_by_due called_again_for_sense_due 191) ≡ called_again_for_sense_due_shown
unfolding need_of sent_of ones union_below line_of form_out form_in least run_from
called_again_for_sense_due_run = refl

failures_due_run : shown (run_by_due failures_due 471) ≡ failures_due_shown
unfolding need_of sent_of ones union_below line_of form_out form_in least run_from
failures_due_run = refl

negotiation_due_run : shown (run_by_due negotiation_due 201) ≡ negotiation_due_shown
unfolding need_of sent_of ones union_below line_of form_out form_in least run_from
negotiation_due_run = refl

read_whole_after_a_part_due_run : shown (run_by_due read_whole_after_a_part_due 336) ≡ read_whole_after_a_part_due_shown
unfolding need_of sent_of ones union_below line_of form_out form_in least run_from
read_whole_after_a_part_due_run = refl

two_aborts_due_run : shown (run_by_due two_aborts_due 376) ≡ two_aborts_due_shown
unfolding need_of sent_of ones union_below line_of form_out form_in least run_from
two_aborts_due_run = refl

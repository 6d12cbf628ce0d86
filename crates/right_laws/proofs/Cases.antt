-- In some runs what processes have carried of their data is a front of what they send or give, and the pointers stand as they should. Written by tools/makers/books_case.py.
use Rattle.std.proofs.Common.{◌≡◌, true, refl}
use lib.Count.{ones}
use Rattle.due_model.specs.bus_trace.specs.LineSet.{line_of}
use Rattle.due_model.specs.bus_trace.specs.View.{union_below}
use Rattle.due_model.specs.msg_grammar.specs.Messages.{form_out, form_in}
use Rattle.due_model.specs.scenario.specs.Needs.{need_of, sent_of}
use Rattle.due_model.specs.RunSteps.{first_run_state}
use Rattle.right_laws.specs.ReadTests.{keep_reads}
use Rattle.due_model.proofs.Cases.{one_read_due, one_read_due_rows, data_in_given_up_due, data_in_given_up_due_rows, pulsed_read_struck_due, pulsed_read_struck_due_rows, burst_without_tags_due, burst_without_tags_due_rows, many_pulses_due, many_pulses_due_rows, reset_in_a_data_phase_due, reset_in_a_data_phase_due_rows, data_out_given_up_due, data_out_given_up_due_rows, absent_unit_due, absent_unit_due_rows, given_up_due, given_up_due_rows, queue_orders_due, queue_orders_due_rows, own_processes_aborted_due, own_processes_aborted_due_rows, text_two_due, text_two_due_rows, read_whole_after_a_part_due, read_whole_after_a_part_due_rows}

one_read_due_reads : keep_reads one_read_due (first_run_state one_read_due) one_read_due_rows ≡ true
unfolding need_of sent_of ones union_below line_of form_out form_in
one_read_due_reads = refl

data_in_given_up_due_reads : keep_reads data_in_given_up_due (first_run_state data_in_given_up_due) data_in_given_up_due_rows ≡ true
unfolding need_of sent_of ones union_below line_of form_out form_in
data_in_given_up_due_reads = refl

pulsed_read_struck_due_reads : keep_reads pulsed_read_struck_due (first_run_state pulsed_read_struck_due) pulsed_read_struck_due_rows ≡ true
unfolding need_of sent_of ones union_below line_of form_out form_in
pulsed_read_struck_due_reads = refl

burst_without_tags_due_reads : keep_reads burst_without_tags_due (first_run_state burst_without_tags_due) burst_without_tags_due_rows ≡ true
unfolding need_of sent_of ones union_below line_of form_out form_in
burst_without_tags_due_reads = refl

many_pulses_due_reads : keep_reads many_pulses_due (first_run_state many_pulses_due) many_pulses_due_rows ≡ true
unfolding need_of sent_of ones union_below line_of form_out form_in
many_pulses_due_reads = refl

reset_in_a_data_phase_due_reads : keep_reads reset_in_a_data_phase_due (first_run_state reset_in_a_data_phase_due) reset_in_a_data_phase_due_rows ≡ true
unfolding need_of sent_of ones union_below line_of form_out form_in
reset_in_a_data_phase_due_reads = refl

data_out_given_up_due_reads : keep_reads data_out_given_up_due (first_run_state data_out_given_up_due) data_out_given_up_due_rows ≡ true
unfolding need_of sent_of ones union_below line_of form_out form_in
data_out_given_up_due_reads = refl

absent_unit_due_reads : keep_reads absent_unit_due (first_run_state absent_unit_due) absent_unit_due_rows ≡ true
unfolding need_of sent_of ones union_below line_of form_out form_in
absent_unit_due_reads = refl

given_up_due_reads : keep_reads given_up_due (first_run_state given_up_due) given_up_due_rows ≡ true
unfolding need_of sent_of ones union_below line_of form_out form_in
given_up_due_reads = refl

queue_orders_due_reads : keep_reads queue_orders_due (first_run_state queue_orders_due) queue_orders_due_rows ≡ true
unfolding need_of sent_of ones union_below line_of form_out form_in
queue_orders_due_reads = refl

own_processes_aborted_due_reads : keep_reads own_processes_aborted_due (first_run_state own_processes_aborted_due) own_processes_aborted_due_rows ≡ true
unfolding need_of sent_of ones union_below line_of form_out form_in
own_processes_aborted_due_reads = refl

text_two_due_reads : keep_reads text_two_due (first_run_state text_two_due) text_two_due_rows ≡ true
unfolding need_of sent_of ones union_below line_of form_out form_in
text_two_due_reads = refl

read_whole_after_a_part_due_reads : keep_reads read_whole_after_a_part_due (first_run_state read_whole_after_a_part_due) read_whole_after_a_part_due_rows ≡ true
unfolding need_of sent_of ones union_below line_of form_out form_in
read_whole_after_a_part_due_reads = refl

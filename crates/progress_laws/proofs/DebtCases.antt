-- In some runs those to whom a sense is owed stand in the hold, and no two senses are owed to one initiator at one unit. Written by tools/makers/books_case.py.
use Rattle.std.proofs.Common.{◌≡◌, true, refl}
use lib.Count.{ones}
use Rattle.due_model.specs.bus_trace.specs.LineSet.{line_of}
use Rattle.due_model.specs.bus_trace.specs.View.{union_below}
use Rattle.due_model.specs.msg_grammar.specs.Messages.{form_out, form_in}
use Rattle.due_model.specs.scenario.specs.Needs.{need_of, sent_of}
use Rattle.due_model.specs.RunSteps.{first_run_state}
use Rattle.progress_laws.specs.DebtTests.{keep_debts}
use Rattle.due_model.proofs.Cases.{hold_of_a_unit_due, hold_of_a_unit_due_rows, held_reselection_due, held_reselection_due_rows, given_up_due, given_up_due_rows, lost_due, lost_due_rows, status_given_up_due, status_given_up_due_rows, command_given_up_due, command_given_up_due_rows, data_in_given_up_due, data_in_given_up_due_rows, data_out_given_up_due, data_out_given_up_due_rows, own_processes_aborted_due, own_processes_aborted_due_rows, device_reset_by_message_due, device_reset_by_message_due_rows, absent_unit_due, absent_unit_due_rows, queue_cleared_due, queue_cleared_due_rows, status_struck_due, status_struck_due_rows}

hold_of_a_unit_due_debts : keep_debts hold_of_a_unit_due (first_run_state hold_of_a_unit_due) hold_of_a_unit_due_rows ≡ true
unfolding need_of sent_of ones union_below line_of form_out form_in
hold_of_a_unit_due_debts = refl

held_reselection_due_debts : keep_debts held_reselection_due (first_run_state held_reselection_due) held_reselection_due_rows ≡ true
unfolding need_of sent_of ones union_below line_of form_out form_in
held_reselection_due_debts = refl

given_up_due_debts : keep_debts given_up_due (first_run_state given_up_due) given_up_due_rows ≡ true
unfolding need_of sent_of ones union_below line_of form_out form_in
given_up_due_debts = refl

lost_due_debts : keep_debts lost_due (first_run_state lost_due) lost_due_rows ≡ true
unfolding need_of sent_of ones union_below line_of form_out form_in
lost_due_debts = refl

status_given_up_due_debts : keep_debts status_given_up_due (first_run_state status_given_up_due) status_given_up_due_rows ≡ true
unfolding need_of sent_of ones union_below line_of form_out form_in
status_given_up_due_debts = refl

command_given_up_due_debts : keep_debts command_given_up_due (first_run_state command_given_up_due) command_given_up_due_rows ≡ true
unfolding need_of sent_of ones union_below line_of form_out form_in
command_given_up_due_debts = refl

data_in_given_up_due_debts : keep_debts data_in_given_up_due (first_run_state data_in_given_up_due) data_in_given_up_due_rows ≡ true
unfolding need_of sent_of ones union_below line_of form_out form_in
data_in_given_up_due_debts = refl

data_out_given_up_due_debts : keep_debts data_out_given_up_due (first_run_state data_out_given_up_due) data_out_given_up_due_rows ≡ true
unfolding need_of sent_of ones union_below line_of form_out form_in
data_out_given_up_due_debts = refl

own_processes_aborted_due_debts : keep_debts own_processes_aborted_due (first_run_state own_processes_aborted_due) own_processes_aborted_due_rows ≡ true
unfolding need_of sent_of ones union_below line_of form_out form_in
own_processes_aborted_due_debts = refl

device_reset_by_message_due_debts : keep_debts device_reset_by_message_due (first_run_state device_reset_by_message_due) device_reset_by_message_due_rows ≡ true
unfolding need_of sent_of ones union_below line_of form_out form_in
device_reset_by_message_due_debts = refl

absent_unit_due_debts : keep_debts absent_unit_due (first_run_state absent_unit_due) absent_unit_due_rows ≡ true
unfolding need_of sent_of ones union_below line_of form_out form_in
absent_unit_due_debts = refl

queue_cleared_due_debts : keep_debts queue_cleared_due (first_run_state queue_cleared_due) queue_cleared_due_rows ≡ true
unfolding need_of sent_of ones union_below line_of form_out form_in
queue_cleared_due_debts = refl

status_struck_due_debts : keep_debts status_struck_due (first_run_state status_struck_due) status_struck_due_rows ≡ true
unfolding need_of sent_of ones union_below line_of form_out form_in
status_struck_due_debts = refl

-- The causes in some runs of `due_model`: a command that is refused; and processes that a target of limit 0 gives up in
-- DATA OUT, DATA IN and STATUS, and one of limit 1 in STATUS.
use Rattle.book_laws.proofs
use proofs.Names.{ℕ, ◌≡◌, true, false, [], refl, sym, ◌∙◌, ProcId, line_of, union_below, form_out, form_in, need_of}
use proofs.Names.{sent_of, full_queue_due, full_queue_due_rows, given_up_due, given_up_due_rows, status_given_up_due}
use proofs.Names.{status_given_up_due_rows, onto, run_state, was_refused, wrong_phases, fault_rows}
use proofs.Forward.{phases_are, faults_are}
use lib.Count.{ones}

abbrev command : ℕ → ProcId
command n = record { command = n; sense = false }

second_refused :
    was_refused full_queue_due (run_state full_queue_due (onto full_queue_due_rows [])).story.history (command 2) ≡ true
unfolding need_of sent_of ones union_below line_of form_out form_in
second_refused = refl

first_not_refused :
    was_refused full_queue_due (run_state full_queue_due (onto full_queue_due_rows [])).story.history (command 1)
    ≡ false
unfolding need_of sent_of ones union_below line_of form_out form_in
first_not_refused = refl

failed_in_data_out : wrong_phases given_up_due (onto given_up_due_rows []) (command 1) ≡ 1
unfolding need_of sent_of ones union_below line_of form_out form_in
failed_in_data_out = sym (phases_are given_up_due (command 1) given_up_due_rows) ∙ refl

failed_in_data_in : wrong_phases given_up_due (onto given_up_due_rows []) (command 2) ≡ 1
unfolding need_of sent_of ones union_below line_of form_out form_in
failed_in_data_in = sym (phases_are given_up_due (command 2) given_up_due_rows) ∙ refl

lost_in_status : wrong_phases given_up_due (onto given_up_due_rows []) (command 3) ≡ 1
unfolding need_of sent_of ones union_below line_of form_out form_in
lost_in_status = sym (phases_are given_up_due (command 3) given_up_due_rows) ∙ refl

lost_at_the_second : wrong_phases status_given_up_due (onto status_given_up_due_rows []) (command 1) ≡ 2
unfolding need_of sent_of ones union_below line_of form_out form_in
lost_at_the_second = sym (phases_are status_given_up_due (command 1) status_given_up_due_rows) ∙ refl

two_faults : fault_rows status_given_up_due (onto status_given_up_due_rows []) (command 1) ≡ 2
unfolding need_of sent_of ones union_below line_of form_out form_in
two_faults = sym (faults_are status_given_up_due (command 1) status_given_up_due_rows) ∙ refl

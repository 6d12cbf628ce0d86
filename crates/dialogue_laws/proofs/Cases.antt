-- In some runs, computed: what the laws speak of is there.
use Rattle.dialogue_laws.proofs
use proofs.Names.{◌≡◌, true, false, [], refl, line_of, union_below, form_out, form_in, need_of, sent_of, abort}
use proofs.Names.{count_item, has_item, own_processes_aborted_due, own_processes_aborted_due_rows, unanswered_due}
use proofs.Names.{unanswered_due_rows, onto, run_state, is_cut}
use lib.Count.{ones}

-- ---- abort lines

-- A connection began for ABORT; its target is not there for CLEAR QUEUE.
abort_sent :
    has_item (run_state own_processes_aborted_due (onto own_processes_aborted_due_rows [])).story.sent.sent (abort 1)
    ≡ true
unfolding need_of sent_of ones union_below line_of form_out form_in
abort_sent = refl

abort_uncut : is_cut own_processes_aborted_due (onto own_processes_aborted_due_rows []) 1 ≡ false
unfolding need_of sent_of ones union_below line_of form_out form_in
abort_uncut = refl

abort_dropped : has_item (run_state unanswered_due (onto unanswered_due_rows [])).story.sent.over (abort 1) ≡ true
unfolding need_of sent_of ones union_below line_of form_out form_in
abort_dropped = refl

abort_tried : count_item (run_state unanswered_due (onto unanswered_due_rows [])).story.sent.tries (abort 1) ≡ 2
unfolding need_of sent_of ones union_below line_of form_out form_in
abort_tried = refl

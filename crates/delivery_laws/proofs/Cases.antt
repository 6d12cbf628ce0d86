-- In some runs, computed: the faults that struck a command, and how many it bears; the resets; and the sense with which
-- a command ends.
use Rattle.delivery_laws.proofs
use proofs.Names.{ℕ, ◌≡◌, true, false, List, [], ◌∷◌, Some, refl, line_of, union_below, ABORTED_COMMAND}
use proofs.Names.{INITIATOR_DETECTED_ERROR, form_out, form_in, need_of, sent_of, ScenarioValue, CmdDef, sense_of}
use proofs.Names.{ended_check, outcome_of, story, data_in_given_up_due, data_in_given_up_due_rows}
use proofs.Names.{data_out_given_up_due, data_out_given_up_due_rows, lost_due, lost_due_rows, reselected_id_struck_due}
use proofs.Names.{reselected_id_struck_due_rows, selected_id_struck_due, selected_id_struck_due_rows, onto}
use proofs.Names.{command_faults, fault_limit, are_lines, are_releases, has_line}
use lib.Count.{ones}

abbrev limits_from : ScenarioValue → List CmdDef → List ℕ
limits_from s [] = []
limits_from s (c ∷ commands) = fault_limit s c ∷ limits_from s commands

-- The IDs that its initiator drove were struck, and it calls again.
selected_id_struck_counts : command_faults selected_id_struck_due (onto selected_id_struck_due_rows []) 1 ≡ 1
unfolding need_of sent_of ones union_below line_of form_out form_in
selected_id_struck_counts = refl

selected_id_struck_bears : limits_from selected_id_struck_due selected_id_struck_due.commands ≡ 1 ∷ []
selected_id_struck_bears = refl

-- Those that its target drove were struck: no calling of its initiator.
reselected_id_struck_counts : command_faults reselected_id_struck_due (onto reselected_id_struck_due_rows []) 1 ≡ 0
unfolding need_of sent_of ones union_below line_of form_out form_in
reselected_id_struck_counts = refl

-- Two in one connection, one more than its target recovers from.
lost_counts : command_faults lost_due (onto lost_due_rows []) 1 ≡ 2
unfolding need_of sent_of ones union_below line_of form_out form_in
lost_counts = refl

lost_bears : limits_from lost_due lost_due.commands ≡ 1 ∷ []
lost_bears = refl

-- ---- resets

-- The line of device 7 at 20000 has its row, and no other row begins RST; one that fell while it drove RST would have
-- none.
reset_line_has : has_line (onto data_out_given_up_due_rows []) (record { dev = 7; at = 20000 }) ≡ true
unfolding ones line_of
reset_line_has = refl

reset_line_falls : has_line (onto data_out_given_up_due_rows []) (record { dev = 7; at = 20001 }) ≡ true
unfolding ones line_of
reset_line_falls = refl

reset_line_missed : has_line (onto data_out_given_up_due_rows []) (record { dev = 7; at = 45036 }) ≡ false
unfolding ones line_of
reset_line_missed = refl

reset_line_other : has_line (onto data_out_given_up_due_rows []) (record { dev = 0; at = 20000 }) ≡ false
unfolding ones line_of
reset_line_other = refl

reset_begins : are_lines data_out_given_up_due (onto data_out_given_up_due_rows []) ≡ true
unfolding ones line_of
reset_begins = refl

reset_ends : are_releases data_out_given_up_due (onto data_out_given_up_due_rows []) ≡ true
unfolding ones line_of
reset_ends = refl

-- ---- senses

-- A command that failed in DATA IN ends with the sense of its own failure.
data_in_given_up_ends :
    outcome_of data_in_given_up_due (story data_in_given_up_due (onto data_in_given_up_due_rows [])) 1
    ≡ Some (ended_check (Some (sense_of ABORTED_COMMAND INITIATOR_DETECTED_ERROR 0x00)))
unfolding need_of sent_of ones union_below line_of form_out form_in
data_in_given_up_ends = refl

-- What crossed is what was to be said, each end shows the events that the rows show, the array permits them, and the bus is
-- sound, after each row of some runs. Written by tools/makers/seam_case.py.
use Rattle.std.proofs.Common.{[], refl}
use lib.Count.{ones}
use Rattle.bus_rules.specs.bus_trace.specs.LineSet.{line_of}
use Rattle.bus_rules.specs.bus_trace.specs.View.{union_below}
use Rattle.bus_rules.specs.msg_grammar.specs.Messages.{form_out, form_in}
use Rattle.dialogue_model.specs.scenario.specs.Needs.{need_of, sent_of}
use Rattle.due_model.proofs.Seams.{Hold, onto, all_hold}
use Rattle.due_model.proofs.Cases.{late_entry_due, late_entry_due_rows, one_read_due, one_read_due_rows, pulses_out_due, pulses_out_due_rows, ready_units_due, ready_units_due_rows, resets_dropped_due, resets_dropped_due_rows, tag_aborted_due, tag_aborted_due_rows, unanswered_due, unanswered_due_rows}

late_entry_due_holds : Hold late_entry_due (onto late_entry_due_rows [])
unfolding need_of sent_of ones union_below line_of form_out form_in
late_entry_due_holds = all_hold late_entry_due late_entry_due_rows refl

one_read_due_holds : Hold one_read_due (onto one_read_due_rows [])
unfolding need_of sent_of ones union_below line_of form_out form_in
one_read_due_holds = all_hold one_read_due one_read_due_rows refl

pulses_out_due_holds : Hold pulses_out_due (onto pulses_out_due_rows [])
unfolding need_of sent_of ones union_below line_of form_out form_in
pulses_out_due_holds = all_hold pulses_out_due pulses_out_due_rows refl

ready_units_due_holds : Hold ready_units_due (onto ready_units_due_rows [])
unfolding need_of sent_of ones union_below line_of form_out form_in
ready_units_due_holds = all_hold ready_units_due ready_units_due_rows refl

resets_dropped_due_holds : Hold resets_dropped_due (onto resets_dropped_due_rows [])
unfolding need_of sent_of ones union_below line_of form_out form_in
resets_dropped_due_holds = all_hold resets_dropped_due resets_dropped_due_rows refl

tag_aborted_due_holds : Hold tag_aborted_due (onto tag_aborted_due_rows [])
unfolding need_of sent_of ones union_below line_of form_out form_in
tag_aborted_due_holds = all_hold tag_aborted_due tag_aborted_due_rows refl

unanswered_due_holds : Hold unanswered_due (onto unanswered_due_rows [])
unfolding need_of sent_of ones union_below line_of form_out form_in
unanswered_due_holds = all_hold unanswered_due unanswered_due_rows refl

-- Whole runs, computed from their scenarios by what is due, are those of the reports. Written by tools/makers/shown_case.py.
use Rattle.std.proofs.Common.{◌≡◌, refl}
use lib.Count.{ones}
use Rattle.bus_rules.specs.bus_trace.specs.LineSet.{line_of}
use Rattle.bus_rules.specs.bus_trace.specs.View.{union_below}
use Rattle.bus_rules.specs.msg_grammar.specs.Messages.{form_out, form_in}
use Rattle.dialogue_model.specs.scenario.specs.Needs.{need_of, sent_of}
use Rattle.due_model.specs.Next.{least}
use Rattle.due_model.specs.Run.{run_from, run_by_due}
use Rattle.due_model.proofs.Cases.{shown, late_entry_due, late_entry_due_shown, one_read_due, one_read_due_shown, pulses_out_due, pulses_out_due_shown, ready_units_due, ready_units_due_shown, resets_dropped_due, resets_dropped_due_shown, tag_aborted_due, tag_aborted_due_shown, unanswered_due, unanswered_due_shown}

late_entry_due_run : shown (run_by_due late_entry_due 170) ≡ late_entry_due_shown
unfolding need_of sent_of ones union_below line_of form_out form_in least run_from
late_entry_due_run = refl

one_read_due_run : shown (run_by_due one_read_due 121) ≡ one_read_due_shown
unfolding need_of sent_of ones union_below line_of form_out form_in least run_from
one_read_due_run = refl

pulses_out_due_run : shown (run_by_due pulses_out_due 176) ≡ pulses_out_due_shown
unfolding need_of sent_of ones union_below line_of form_out form_in least run_from
pulses_out_due_run = refl

ready_units_due_run : shown (run_by_due ready_units_due 282) ≡ ready_units_due_shown
unfolding need_of sent_of ones union_below line_of form_out form_in least run_from
ready_units_due_run = refl

resets_dropped_due_run : shown (run_by_due resets_dropped_due 40) ≡ resets_dropped_due_shown
unfolding need_of sent_of ones union_below line_of form_out form_in least run_from
resets_dropped_due_run = refl

tag_aborted_due_run : shown (run_by_due tag_aborted_due 180) ≡ tag_aborted_due_shown
unfolding need_of sent_of ones union_below line_of form_out form_in least run_from
tag_aborted_due_run = refl

unanswered_due_run : shown (run_by_due unanswered_due 80) ≡ unanswered_due_shown
unfolding need_of sent_of ones union_below line_of form_out form_in least run_from
unanswered_due_run = refl

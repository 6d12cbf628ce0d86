-- Whole runs, computed from their scenarios by what is due, are those of the reports. Written by tools/makers/shown_case.py.
use Rattle.std.proofs.Common.{◌≡◌, refl}
use lib.Count.{ones}
use Rattle.due_model.specs.bus_trace.specs.LineSet.{line_of}
use Rattle.due_model.specs.bus_trace.specs.View.{union_below}
use Rattle.due_model.specs.msg_grammar.specs.Messages.{form_out, form_in}
use Rattle.due_model.specs.scenario.specs.Needs.{need_of, sent_of}
use Rattle.due_model.specs.Next.{least}
use Rattle.due_model.specs.Run.{run_from, run_by_due}
use Rattle.due_model.proofs.TapeCases.{shown, room_known_late_due, room_known_late_due_shown, check_by_pulses_due}
use Rattle.due_model.proofs.TapeCases.{check_by_pulses_due_shown, check_without_sense_due}
use Rattle.due_model.proofs.TapeCases.{check_without_sense_due_shown, length_changed_by_another_due}
use Rattle.due_model.proofs.TapeCases.{length_changed_by_another_due_shown, lost_after_run_due}
use Rattle.due_model.proofs.TapeCases.{lost_after_run_due_shown, read_given_up_due, read_given_up_due_shown}
use Rattle.due_model.proofs.TapeCases.{reset_in_data_due, reset_in_data_due_shown, tag_aborted_due}
use Rattle.due_model.proofs.TapeCases.{tag_aborted_due_shown}

room_known_late_due_run : shown (run_by_due room_known_late_due 553) ≡ room_known_late_due_shown
unfolding need_of sent_of ones union_below line_of form_out form_in least run_from
room_known_late_due_run = refl

check_by_pulses_due_run : shown (run_by_due check_by_pulses_due 306) ≡ check_by_pulses_due_shown
unfolding need_of sent_of ones union_below line_of form_out form_in least run_from
check_by_pulses_due_run = refl

check_without_sense_due_run : shown (run_by_due check_without_sense_due 194) ≡ check_without_sense_due_shown
unfolding need_of sent_of ones union_below line_of form_out form_in least run_from
check_without_sense_due_run = refl

length_changed_by_another_due_run : shown (run_by_due length_changed_by_another_due 535) ≡ length_changed_by_another_due_shown
unfolding need_of sent_of ones union_below line_of form_out form_in least run_from
length_changed_by_another_due_run = refl

lost_after_run_due_run : shown (run_by_due lost_after_run_due 243) ≡ lost_after_run_due_shown
unfolding need_of sent_of ones union_below line_of form_out form_in least run_from
lost_after_run_due_run = refl

read_given_up_due_run : shown (run_by_due read_given_up_due 633) ≡ read_given_up_due_shown
unfolding need_of sent_of ones union_below line_of form_out form_in least run_from
read_given_up_due_run = refl

reset_in_data_due_run : shown (run_by_due reset_in_data_due 356) ≡ reset_in_data_due_shown
unfolding need_of sent_of ones union_below line_of form_out form_in least run_from
reset_in_data_due_run = refl

tag_aborted_due_run : shown (run_by_due tag_aborted_due 401) ≡ tag_aborted_due_shown
unfolding need_of sent_of ones union_below line_of form_out form_in least run_from
tag_aborted_due_run = refl

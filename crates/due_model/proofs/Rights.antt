-- What is to be proved of every prompt trace, computed on some.
use Rattle.std.proofs.Common.{◌≡◌, true, reverse, refl, length}
use Rattle.std.specs.Prelude.{nat_le, is_some, Option}
use Rattle.std.specs.List.{list_all}
use lib.Count.{ones}
use Rattle.bus_rules.specs.bus_trace.specs.LineSet.{none, line_of}
use Rattle.bus_rules.specs.bus_trace.specs.View.{union_below}
use Rattle.bus_rules.specs.bus_trace.specs.Trace.{bus, last_time}
use Rattle.bus_rules.specs.msg_grammar.specs.Messages.{form_out, form_in}
use Rattle.bus_rules.specs.Seen.{seen_with}
use Rattle.bus_rules.specs.Rules.{judged_whole}
use Rattle.bus_rules.specs.declared.verdict.Verdict.TheVariants.{Lawful}
use Rattle.bus_rules.proofs.First.{whole_lawful}
use Rattle.dialogue_model.specs.scenario.specs.Needs.{need_of, sent_of}
use Rattle.dialogue_model.specs.story_model.specs.TraceHistory.{story}
use Rattle.dialogue_model.specs.story_model.specs.Outcomes.{Outcome, outcomes}
use Rattle.dialogue_model.specs.story_model.specs.Samples.{expected_strikes, row_strikes}
use Rattle.dialogue_model.specs.story_model.specs.Budget.{budget}
use Rattle.due_model.specs.Goals.{IsRight}
use Rattle.due_model.proofs.Cases.{resets_dropped_due, resets_dropped_due_rows, one_read_due, one_read_due_rows}
use Rattle.due_model.proofs.Cases.{unanswered_due, unanswered_due_rows, lost_due, lost_due_rows, delayed_ack_due}
use Rattle.due_model.proofs.Cases.{delayed_ack_due_rows}

resets_dropped_right : IsRight resets_dropped_due (reverse resets_dropped_due_rows)
unfolding need_of sent_of ones union_below line_of form_out form_in seen_with
resets_dropped_right = record {
  lawful = (whole_lawful (reverse resets_dropped_due_rows) (last_time (reverse resets_dropped_due_rows))).0 refl;
  quiet = refl;
  told = record { told = refl; permitted = refl; blocks = refl; reels = refl; replies = refl; carried = refl };
  answered = refl;
  faults = refl;
}

resets_dropped_within : nat_le (length resets_dropped_due_rows) (budget resets_dropped_due) ≡ true
unfolding need_of sent_of
resets_dropped_within = refl

one_read_lawful : judged_whole (reverse one_read_due_rows) (last_time (reverse one_read_due_rows)) ≡ Lawful
unfolding ones union_below line_of form_out form_in seen_with
one_read_lawful = refl

one_read_quiet : bus (reverse one_read_due_rows) ≡ none
unfolding union_below
one_read_quiet = refl

one_read_answered : list_all (λ (o : Option Outcome). is_some o)
    (outcomes one_read_due (story one_read_due (reverse one_read_due_rows)))
    ≡ true
unfolding need_of sent_of ones union_below line_of form_out form_in
one_read_answered = refl

one_read_faults : expected_strikes one_read_due (reverse one_read_due_rows) ≡ row_strikes one_read_due_rows
unfolding ones union_below line_of form_out form_in
one_read_faults = refl

one_read_within : nat_le (length one_read_due_rows) (budget one_read_due) ≡ true
unfolding need_of sent_of
one_read_within = refl

unanswered_lawful : judged_whole (reverse unanswered_due_rows) (last_time (reverse unanswered_due_rows)) ≡ Lawful
unfolding ones union_below line_of form_out form_in seen_with
unanswered_lawful = refl

unanswered_quiet : bus (reverse unanswered_due_rows) ≡ none
unfolding union_below
unanswered_quiet = refl

unanswered_answered : list_all (λ (o : Option Outcome). is_some o)
    (outcomes unanswered_due (story unanswered_due (reverse unanswered_due_rows)))
    ≡ true
unfolding need_of sent_of ones union_below line_of form_out form_in
unanswered_answered = refl

unanswered_faults : expected_strikes unanswered_due (reverse unanswered_due_rows) ≡ row_strikes unanswered_due_rows
unfolding ones union_below line_of form_out form_in
unanswered_faults = refl

unanswered_within : nat_le (length unanswered_due_rows) (budget unanswered_due) ≡ true
unfolding need_of sent_of
unanswered_within = refl

lost_lawful : judged_whole (reverse lost_due_rows) (last_time (reverse lost_due_rows)) ≡ Lawful
unfolding ones union_below line_of form_out form_in seen_with
lost_lawful = refl

lost_quiet : bus (reverse lost_due_rows) ≡ none
unfolding union_below
lost_quiet = refl

lost_answered :
    list_all (λ (o : Option Outcome). is_some o) (outcomes lost_due (story lost_due (reverse lost_due_rows))) ≡ true
unfolding need_of sent_of ones union_below line_of form_out form_in
lost_answered = refl

lost_faults : expected_strikes lost_due (reverse lost_due_rows) ≡ row_strikes lost_due_rows
unfolding ones union_below line_of form_out form_in
lost_faults = refl

lost_within : nat_le (length lost_due_rows) (budget lost_due) ≡ true
unfolding need_of sent_of
lost_within = refl

delayed_ack_lawful : judged_whole (reverse delayed_ack_due_rows) (last_time (reverse delayed_ack_due_rows)) ≡ Lawful
unfolding ones union_below line_of form_out form_in seen_with
delayed_ack_lawful = refl

delayed_ack_quiet : bus (reverse delayed_ack_due_rows) ≡ none
unfolding union_below
delayed_ack_quiet = refl

delayed_ack_answered : list_all (λ (o : Option Outcome). is_some o)
    (outcomes delayed_ack_due (story delayed_ack_due (reverse delayed_ack_due_rows)))
    ≡ true
unfolding need_of sent_of ones union_below line_of form_out form_in
delayed_ack_answered = refl

delayed_ack_faults : expected_strikes delayed_ack_due (reverse delayed_ack_due_rows) ≡ row_strikes delayed_ack_due_rows
unfolding ones union_below line_of form_out form_in
delayed_ack_faults = refl

delayed_ack_within : nat_le (length delayed_ack_due_rows) (budget delayed_ack_due) ≡ true
unfolding need_of sent_of
delayed_ack_within = refl

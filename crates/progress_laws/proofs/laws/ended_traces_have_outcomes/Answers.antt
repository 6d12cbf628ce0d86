use Rattle.progress_laws.proofs
use proofs.{Debts.Facts.{Indebted, indebted}, Outcomes.Facts.{answered_when_ended}, Queues.Facts.{all_queued}}
use proofs.Quiet.Facts.{joined}
use Rattle.progress_laws.proofs.laws.ended_traces_have_outcomes.Goals as goal

pub returns : goal.returns
returns c = record {
  answered = λ s rows o prompt end.
      let h : Indebted s rows = indebted s rows o prompt in
      let j = joined s rows c.wants_are_items.ensures.wants o prompt in
      answered_when_ended s rows o j end (record { items = h.whole.facts.items; places = h.whole.places })
      (all_queued s rows o prompt) h.owed;
}

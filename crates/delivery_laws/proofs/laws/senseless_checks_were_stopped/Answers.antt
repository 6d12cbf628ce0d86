use Rattle.delivery_laws.proofs
use proofs.Names.{◌≡◌, true, List, ap, subst, Event, Story, prompt_plain, has_sense_stop}
use proofs.{Outcomes.Delivered.{HaveCauses}, Senses.Stopped.{sense_stopped}}
use Rattle.delivery_laws.proofs.laws.senseless_checks_were_stopped.Goals as goal

pub returns : goal.returns
returns c = λ s rows o prompt end n k at e.
    let causes : HaveCauses = record {
      status = c.endings_have_causes.ensures.status;
      loss = c.endings_have_causes.ensures.loss;
      reset = c.endings_have_causes.ensures.reset;
      abort = c.endings_have_causes.ensures.abort;
      tried = c.endings_have_causes.ensures.unanswered;
    } in
    subst (λ (h : List Event). has_sense_stop h n k ≡ true)
    (ap (λ (b : Story). b.history) (prompt_plain s rows prompt).story) (sense_stopped s rows n k
    c.wants_are_items.ensures.wants causes c.endings_have_causes.ensures.stopped o prompt end at e)

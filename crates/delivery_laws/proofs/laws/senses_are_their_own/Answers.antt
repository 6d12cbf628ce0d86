use Rattle.delivery_laws.proofs
use proofs.Names.{◌≡◌, true, List, ap, subst, Event, command_id, Story, prompt_plain, has_event, IsOwnSense, RanSo}
use proofs.{Outcomes.Causes.{failed_above}, Senses.Facts.{own_failed, own_sense, ran_so}}
use Rattle.delivery_laws.proofs.laws.senses_are_their_own.Goals as goal

pub returns : goal.returns
returns c = λ s rows o prompt.
    let same = ap (λ (b : Story). b.history) (prompt_plain s rows prompt).story in
    record {
      own = λ n sense e. subst (λ (h : List Event). IsOwnSense s h n sense) same (own_sense s rows n sense o prompt e);
      failed = λ n k sense at e key.
          let f = own_failed s rows n sense c.replies_have_causes.ensures.replies o prompt e key in (
            subst (λ (h : List Event). has_event h (Event.Fail (command_id n) sense.asc) ≡ true) same f,
            failed_above s rows n sense.asc k c.limits_are_kept.ensures.failures o prompt at f,
          );
      ran = λ n sense e key. subst (λ (h : List Event). RanSo s h n sense) same (ran_so s rows n sense o prompt e key);
    }

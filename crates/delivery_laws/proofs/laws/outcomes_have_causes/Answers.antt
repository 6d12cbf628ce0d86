use Rattle.delivery_laws.proofs
use proofs.Names.{◌≡◌, true, List, sym, ap, subst, Event, command_id, Story, prompt_plain, has_event, was_refused}
use proofs.{Names.{has_bus_reset, has_command_abort}, Outcomes.Causes.{abort_came, failed_above, full_refused}}
use proofs.Outcomes.{Causes.{lost_above, reset_came, unanswered_above}, Delivered.{HaveCauses}}
use Rattle.delivery_laws.proofs.laws.outcomes_have_causes.Goals as goal

pub returns : goal.returns
returns c = λ s rows o prompt.
    let causes : HaveCauses = record {
      status = c.endings_have_causes.ensures.status;
      loss = c.endings_have_causes.ensures.loss;
      reset = c.endings_have_causes.ensures.reset;
      abort = c.endings_have_causes.ensures.abort;
      tried = c.endings_have_causes.ensures.unanswered;
    } in
    let same = ap (λ (b : Story). b.history) (prompt_plain s rows prompt).story in
    record {
      lost = λ n k at e. lost_above s rows n k causes c.limits_are_kept.ensures.losses o prompt at e;
      failed = λ n code k at e. failed_above s rows n code k c.limits_are_kept.ensures.failures o prompt at
          (subst (λ (h : List Event). has_event h (Event.Fail (command_id n) code) ≡ true) (sym same) e);
      unanswered = λ n k at e. unanswered_above s rows n k causes o prompt at e;
      full = λ n e. subst (λ (h : List Event). was_refused s h (command_id n) ≡ true) same
          (full_refused s rows n causes c.replies_have_causes.ensures.trace o prompt e);
      reset = λ n e. subst (λ (h : List Event). has_bus_reset h ≡ true) same (reset_came s rows n causes prompt e);
      aborted = λ n k at e. subst (λ (h : List Event). has_command_abort h k ≡ true) same
          (abort_came s rows n k causes prompt at e);
    }

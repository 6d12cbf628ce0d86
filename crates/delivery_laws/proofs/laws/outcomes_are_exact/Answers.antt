use Rattle.delivery_laws.proofs
use proofs.Names.{◌≡◌, ◌∙◌, Option, Some, sym, ap, array_after, reply_of, Array, Story, trace_history, prompt_plain}
use proofs.{Names.{array_of, run_state}, Outcomes.{Delivered.{HaveCauses}, Exact.{full_told, outcome_told, reply_told}}}
use proofs.{Outcomes.Exact.{unanswered_told}, Senses.Facts.{own_plays}}
use Rattle.delivery_laws.proofs.laws.outcomes_are_exact.Goals as goal

pub returns : goal.returns
returns c = λ s rows o prompt end.
    let causes : HaveCauses = record {
      status = c.endings_have_causes.ensures.status;
      loss = c.endings_have_causes.ensures.loss;
      reset = c.endings_have_causes.ensures.reset;
      abort = c.endings_have_causes.ensures.abort;
      tried = c.endings_have_causes.ensures.unanswered;
    } in
    let plays : array_after s (trace_history s rows) ≡ Some (array_of s (run_state s rows)) =
    ap (λ (b : Story). array_after s b.history) (sym (prompt_plain s rows prompt).story) ∙ own_plays s rows o prompt in
    record {
      outcome = λ n k at. outcome_told s rows n k c.wants_are_items.ensures.wants causes o prompt end at;
      unanswered = λ n k at. unanswered_told s rows n k causes o prompt at;
      full = λ n k at. full_told s rows n k ((c.outcomes_have_causes.ensures s rows o prompt).full n) o prompt at;
      status = λ n status k at e. reply_told s rows n status k causes o prompt at e;
      given = λ id reply e. c.replies_are_given.ensures s (trace_history s rows)
          (array_of s (run_state s rows)) id reply o plays (ap (λ (x : Option Array). reply_of x id) (sym plays) ∙ e);
      ran = λ id reply w. c.replies_last.ensures.ran s rows id reply o prompt w;
      failed = λ id code has. c.replies_last.ensures.failed s rows id code o prompt has;
      refused = λ id has. c.replies_last.ensures.refused s rows id o prompt has;
    }

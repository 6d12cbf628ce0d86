use Rattle.delivery_laws.proofs
use proofs.Names.{◌∙◌, List, Option, sym, ap, subst, Event, array_after, reply_of, Array, command_id, ending_of, Story}
use proofs.{Names.{prompt_plain, array_of, run_state, has_event, HasRun}, Outcomes.Checked.{ran_outcome}}
use proofs.{Outcomes.Delivered.{HaveCauses}, Replies.Lasting.{failed_lasts, ran_lasts, refused_lasts}}
use proofs.Senses.Facts.{own_plays}
use Rattle.delivery_laws.proofs.laws.replies_last.Goals as goal

pub returns-clause-ran : goal.returns-clause-ran
returns-clause-ran c = λ s rows id r o prompt w.
    let same = ap (λ (b : Story). b.history) (prompt_plain s rows prompt).story in
    ap (λ (h : List Event). reply_of (array_after s h) id) (sym same)
    ∙ ap (λ (x : Option Array). reply_of x id) (own_plays s rows o prompt)
    ∙ ran_lasts s rows (array_of s (run_state s rows)) id r o prompt (own_plays s rows o prompt)
    (subst (λ (h : List Event). HasRun s h id r) (sym same) w)

pub returns-clause-failed : goal.returns-clause-failed
returns-clause-failed c = λ s rows id code o prompt has.
    let same = ap (λ (b : Story). b.history) (prompt_plain s rows prompt).story in
    ap (λ (h : List Event). reply_of (array_after s h) id) (sym same)
    ∙ ap (λ (x : Option Array). reply_of x id) (own_plays s rows o prompt)
    ∙ failed_lasts s rows (array_of s (run_state s rows)) id code o prompt (own_plays s rows o prompt)
    (ap (λ (h : List Event). has_event h (Event.Fail id code)) same ∙ has)

pub returns-clause-refused : goal.returns-clause-refused
returns-clause-refused c = λ s rows id o prompt has.
    let same = ap (λ (b : Story). b.history) (prompt_plain s rows prompt).story in
    ap (λ (h : List Event). reply_of (array_after s h) id) (sym same)
    ∙ ap (λ (x : Option Array). reply_of x id) (own_plays s rows o prompt)
    ∙ refused_lasts s rows (array_of s (run_state s rows)) id o prompt (own_plays s rows o prompt)
    (ap (λ (h : List Event). has_event h (Event.Refuse id)) same ∙ has)

pub returns-clause-checked : goal.returns-clause-checked
returns-clause-checked c = λ s rows o prompt n status r w check e.
    let causes : HaveCauses = record {
      status = c.endings_have_causes.ensures.status;
      loss = c.endings_have_causes.ensures.loss;
      reset = c.endings_have_causes.ensures.reset;
      abort = c.endings_have_causes.ensures.abort;
      tried = c.endings_have_causes.ensures.unanswered;
    } in
    let same = (prompt_plain s rows prompt).story in
    ran_outcome s rows n status r causes o prompt (subst (λ (h : List Event). HasRun s h (command_id n) r)
    (sym (ap (λ (b : Story). b.history) same)) w) check (ap (λ (b : Story). ending_of b.ended n) same ∙ e)

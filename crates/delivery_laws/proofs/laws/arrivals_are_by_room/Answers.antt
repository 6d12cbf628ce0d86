use Rattle.delivery_laws.proofs
use proofs.Names.{◌≡◌, true, List, ap, subst, Event, Story, prompt_plain, array_of, run_state, arrive_by_room}
use proofs.{Queues.Arrivals.{by_room}, Senses.Facts.{own_plays}}
use Rattle.delivery_laws.proofs.laws.arrivals_are_by_room.Goals as goal

pub returns : goal.returns
returns c = λ s rows o prompt. subst (λ (h : List Event). arrive_by_room s h ≡ true)
    (ap (λ (b : Story). b.history) (prompt_plain s rows prompt).story) (by_room s (run_state s rows).story.history
    (array_of s (run_state s rows)) c.refusals_have_causes.ensures.array (own_plays s rows o prompt))

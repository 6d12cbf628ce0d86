-- Each process that ran and ended has carried just its command block, just the bytes that it moves, and its status.
use Rattle.right_laws.proofs
use proofs.Names.{ℕ, ◌≡◌, Bool, true, not, ◌&&◌, ◌||◌, ◌∙◌, List, [], ◌∷◌, Option, Some, refl, sym, ap, is_some, wrong'}
use proofs.Names.{all_three, Event, ProcId, ScenarioValue, array_after, reply_in, reply_of, Reply, process_of, Array}
use proofs.Names.{CarriedBytes, carried_of, same_bytes, has_run, moved_bytes, carried_by, is_carried, all_carried}
use proofs.Names.{RunState, array_of, by_bool, by_option, OnEvents, HasRun, RanBooks, HasEnded, IsEnded}
use Rattle.trace_laws.specs.book_laws.proofs.Carried.Blocks.{same_self}

pub same_is : (xs ys : List ℕ) → xs ≡ ys → same_bytes xs ys ≡ true
same_is xs ys e = ap (λ (z : List ℕ). same_bytes z ys) e ∙ same_self ys

carried_end : (s : ScenarioValue) (k : RunState) (a : Array) (id : ProcId) (status : ℕ)
    → array_after s k.story.history ≡ Some a → array_of s k ≡ a → RanBooks s k → HasEnded s k id status
    → is_carried s k.story (Event.End id status) ≡ true
carried_end s k a id status plays here ran ended = by_bool (has_run k.story.history id) (λ e.
    ap (λ (q : Bool). not q || carried_by c (process_of s id) (reply_of (array_after s k.story.history) id) status) e
    ∙ done (ran id e)) (λ e. ap
    (λ (q : Bool). not q || carried_by c (process_of s id) (reply_of (array_after s k.story.history) id) status) e)
  where
    c : CarriedBytes
    c = carried_of k.story.carried id

    done : HasRun s k id → carried_by c (process_of s id) (reply_of (array_after s k.story.history) id) status ≡ true
    done h = by_option (reply_in a.replies id)
        (λ e. wrong' (sym (ap (λ (x : Array). is_some (reply_in x.replies id)) here ∙ ap is_some e) ∙ h.given))
        (λ reply e. let block = h.block h.process h.process_is in
        let moved = h.moved h.process reply h.process_is (ap (λ (x : Array). reply_in x.replies id) here ∙ e) in
        (λ i. carried_by c (h.process_is i) (reply_of (plays i) id) status)
        ∙ ap (λ (o : Option Reply). carried_by c (Some h.process) o status) e
        ∙ all_three (same_bytes c.command.bytes h.process.cdb) (same_bytes c.moved.bytes (moved_bytes h.process reply))
        (same_bytes c.status.bytes (status ∷ [])) (same_is c.command.bytes h.process.cdb block)
        (same_is c.moved.bytes (moved_bytes h.process reply) moved)
        (same_is c.status.bytes (status ∷ []) ended.status_is))

event_carried : (s : ScenarioValue) (k : RunState) (a : Array) (e : Event) → array_after s k.story.history ≡ Some a
    → array_of s k ≡ a → RanBooks s k → IsEnded s k e → is_carried s k.story e ≡ true
event_carried s k a (Event.End id status) plays here ran ended = carried_end s k a id status plays here ran ended
event_carried s k a _ plays here ran ended = refl

pub events_carried : (s : ScenarioValue) (k : RunState) (a : Array) (history : List Event)
    → array_after s k.story.history ≡ Some a → array_of s k ≡ a → RanBooks s k → OnEvents (IsEnded s k) history
    → all_carried s k.story history ≡ true
events_carried s k a [] plays here ran ended = refl
events_carried s k a (e ∷ history) plays here ran ended =
    λ i. event_carried s k a e plays here ran ended.0 i && events_carried s k a history plays here ran ended.1 i

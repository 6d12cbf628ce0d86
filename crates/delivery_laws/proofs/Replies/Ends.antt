-- A process that ended in a prompt trace has a reply with the status of its end (6.6.5, 7.3).
use Rattle.delivery_laws.proofs
use proofs.Names.{ℕ, ◌≡◌, Bool, true, false, ◌||◌, List, [], ◌∷◌, Option, Some, None, refl, subst, eqb-true, ◌==◌}
use proofs.Names.{and_first, and_second, wrong', Event, ProcId, Row, ScenarioValue, Obeys, reply_in, Reply, same_id}
use proofs.Names.{IsPrompt, RunState, array_of, carried_here, run_state, id_is, Whole, standing_next, whole, IsStatusIn}
use proofs.Names.{IsStatusOf, Known, ended_next, AreJoined, joined_last, load_next, load_start, status_at_end}
use proofs.Names.{status_next, status_start, UndoLoadFacts, OnEvents, HasEnded, StatusFacts, has_status, is_status_of}
use Rattle.right_laws.specs.Runs.{IsEnded}

-- ---- row by row

pub undo_loads : (s : ScenarioValue) (p : List Row) → Obeys s → IsPrompt s p → UndoLoadFacts s p
undo_loads s [] o prompt = load_start s
undo_loads s (row ∷ p) o prompt =
    let w : Whole s p = whole s p o prompt.0 in
    load_next s p row o prompt w.stood (standing_next s p row o prompt w) (undo_loads s p o prompt.0)

record EndBooks (s : ScenarioValue) (p : List Row) : Type 0 where
  status : StatusFacts s p
  ended : OnEvents (IsEnded s (run_state s p)) (run_state s p).story.history

end_books : (s : ScenarioValue) (p : List Row) → Obeys s → IsPrompt s p → AreJoined s p → EndBooks s p
end_books s [] o prompt h = record { status = status_start s; ended = tt }
end_books s (row ∷ p) o prompt h =
    let was = end_books s p o prompt.0 h.0 in
    let now = joined_last s p h.0 in
    let then = h.2 in
    let known : Known s p row = record {
      was = now.stood;
      next = h.1;
      items = now.told.items;
      undo = undo_loads s p o prompt.0;
      places = now.places;
      later = then.places;
      shown = now.shown;
    } in
    record {
      status = status_next s p row o prompt now.told.last
          (record { known = known; named = now.told.named; last = then.told.last; facts = was.status });
      ended = ended_next s p row known (status_at_end s p row now.stood h.1 now.told was.status) was.ended;
    }

pub all_ended : (s : ScenarioValue) (p : List Row) → Obeys s → IsPrompt s p → AreJoined s p
    → OnEvents (IsEnded s (run_state s p)) (run_state s p).story.history
all_ended s p o prompt h = (end_books s p o prompt h).ended

-- ---- an end in the history

end_is : (s : ScenarioValue) (k : RunState) (e : Event) (id : ProcId) (status : ℕ) → is_status_of id status e ≡ true
    → IsEnded s k e → HasEnded s k id status
end_is s k (Event.End p code) id status e h =
    subst (λ (x : ℕ). HasEnded s k id x) (eqb-true code status (and_second (same_id p id) (code == status) e))
    (subst (λ (x : ProcId). HasEnded s k x code) (id_is p id (and_first (same_id p id) (code == status) e)) h)
end_is s k _ id status e h = wrong' e

pub end_found : (s : ScenarioValue) (k : RunState) (history : List Event) (id : ProcId) (status : ℕ)
    → OnEvents (IsEnded s k) history → has_status history id status ≡ true → HasEnded s k id status
end_found s k [] id status h e = wrong' e
end_found s k (x ∷ history) id status h e =
    go (is_status_of id status x) refl e (λ z. end_found s k history id status h.1 z)
  where
    go : (q : Bool) → is_status_of id status x ≡ q → (q || has_status history id status) ≡ true
        → (has_status history id status ≡ true → HasEnded s k id status) → HasEnded s k id status
    go true z f rest = end_is s k x id status z h.0
    go false z f rest = rest f

-- ---- its reply

pub record HasReply (s : ScenarioValue) (k : RunState) (id : ProcId) (status : ℕ) : Type 0 where
  pub reply : Reply
  pub reply_is : reply_in (array_of s k).replies id ≡ Some reply
  pub status_is : status ≡ reply.status

pub end_reply : (s : ScenarioValue) (k : RunState) (id : ProcId) (status : ℕ)
    → IsStatusIn s k id (carried_here k id).status.bytes → HasEnded s k id status → HasReply s k id status
end_reply s k id status area h =
    go (reply_in (array_of s k).replies id) refl (subst (λ (x : List ℕ). IsStatusIn s k id x) h.status_is area)
  where
    go : (o : Option Reply) → reply_in (array_of s k).replies id ≡ o → IsStatusOf o (status ∷ [])
        → HasReply s k id status
    go None e z = cc
    go (Some reply) e z = record { reply = reply; reply_is = e; status_is = z.0 }

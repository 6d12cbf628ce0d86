-- What each process has carried, where one of them carries on.
use Rattle.std.proofs.Common.{◌∷◌, ◌∙◌, false, List, Some, Bool, refl, [], ◌≡◌, true, sym, None}
use Rattle.bus_phases.specs.bus_base.specs.declared.ProcId.{ProcId}
use Rattle.story_model.specs.CarriedBytes.{CarriedBytes, carried_or_nothing, carried_at, with_carried, nothing_carried}
use Rattle.story_model.specs.CarriedBytes.{carried_of}
use Rattle.std.specs.Prelude.{if◌then◌else◌}
use Rattle.array_model.proofs.SeatReplies.{id_self}
use Rattle.array_model.proofs.SeatLookups.{same_id_is}
use Rattle.array_model.specs.Processes.{same_id}

pub carried_id : (all : List CarriedBytes) (id : ProcId) → (carried_of all id).id ≡ id
carried_id [] id = refl
carried_id (k ∷ all) id = go (same_id k.id id) refl (carried_id all id)
  where
    go : (q : Bool) → same_id k.id id ≡ q → (carried_of all id).id ≡ id
        → (carried_or_nothing (if q then Some k else carried_at all id) id).id ≡ id
    go true e r = same_id_is k.id id e
    go false e r = r

pub carried_with : (all : List CarriedBytes) (k : CarriedBytes) (id : ProcId)
    → carried_of (with_carried all k) id ≡ (if same_id k.id id then k else carried_of all id)
carried_with [] k id = go (same_id k.id id)
  where
    go : (q : Bool) → carried_or_nothing (if q then Some k else None) id ≡ (if q then k else nothing_carried id)
    go true = refl
    go false = refl
carried_with (l ∷ all) k id = place (same_id l.id k.id) refl (carried_with all k id)
  where
    here : same_id l.id k.id ≡ true → (q : Bool) → same_id k.id id ≡ q
        → carried_or_nothing (if q then Some k else carried_at all id) id
        ≡ (if q then k else carried_or_nothing (if same_id l.id id then Some l else carried_at all id) id)
    here e true f = refl
    here e false f =
        let other : same_id l.id id ≡ false = (λ i. same_id (same_id_is l.id k.id e i) id) ∙ f in
        λ i. carried_or_nothing (if sym other i then Some l else carried_at all id) id

    both : same_id l.id k.id ≡ false → same_id l.id id ≡ true → same_id k.id id ≡ true → true ≡ false
    both e f g = sym (id_self k.id) ∙ (λ i. same_id ((same_id_is k.id id g ∙ sym (same_id_is l.id id f)) i) k.id) ∙ e

    there : same_id l.id k.id ≡ false
        → carried_of (with_carried all k) id ≡ (if same_id k.id id then k else carried_of all id)
        → (p q : Bool) → same_id l.id id ≡ p → same_id k.id id ≡ q
        → carried_or_nothing (if p then Some l else carried_at (with_carried all k) id) id
        ≡ (if q then k else carried_or_nothing (if p then Some l else carried_at all id) id)
    there e r true true f g = (let bad : true ≡ false = both e f g in cc)
    there e r true false f g = refl
    there e r false q f g = r ∙ (λ i. if g i then k else carried_of all id)

    place : (p : Bool) → same_id l.id k.id ≡ p
        → carried_of (with_carried all k) id ≡ (if same_id k.id id then k else carried_of all id)
        → carried_of (if p then k ∷ all else l ∷ with_carried all k) id
        ≡ (if same_id k.id id then k else carried_of (l ∷ all) id)
    place true e r = here e (same_id k.id id) refl
    place false e r = there e r (same_id l.id id) (same_id k.id id) refl refl

-- The arrivals as one leaves the waiting commands.
use Rattle.std.proofs.Common.{◌≡◌, ◌<◌, ℕ, ◌+◌, Bool, true, false, ◌&&◌, ◌||◌, List, [], ◌∷◌, ◌++◌, length, Some}
use Rattle.std.proofs.Common.{get_or, set, take, drop, refl, ap, sym, ◌∙◌, arith, append_assoc}
use Rattle.std.specs.Prelude.{◌==◌}
use Rattle.std.proofs.lemmas.List.{drop_more, take_more_set, drop-set-lt}
use Rattle.slab.specs.Slab.{Slab, get}
use Rattle.array_model.specs.declared.entries.Entry.{Entry}
use Rattle.array_model.specs.Order.{holds_back}
use Rattle.tag_queue.specs.declared.arrivals.Arrival.{Arrival}
use Rattle.tag_queue.specs.Stored.{lowered, lowered_if, lowered_by}

lowered_key : (lower : Bool) (a : Arrival) → (lowered_by lower a).key ≡ a.key
lowered_key true a = refl
lowered_key false a = refl

pub lowered_step : (s : Slab Entry) (leaving : Entry) (key : ℕ) (passed lower : Bool) (arrivals : List Arrival)
    (i : ℕ) (d new : Arrival) (p : Entry) → i < length arrivals → get s (get_or arrivals i d).key ≡ Some p
    → lower ≡ (passed && holds_back leaving p) → new ≡ lowered_by lower (get_or arrivals i d)
    → (whole : List Arrival) → take i arrivals ++ lowered s leaving key passed (drop i arrivals) ≡ whole
    → take (i + 1) (set arrivals i new)
    ++ lowered s leaving key (passed || new.key == key) (drop (i + 1) (set arrivals i new)) ≡ whole
lowered_step s leaving key passed lower arrivals i d new p within found is_lower is_new whole told =
    let a : Arrival = get_or arrivals i d in
    let rest : List Arrival = drop (i + 1) arrivals in
    let further : i < i + 1 = omega arith in
    let same : new.key ≡ a.key = ap (λ (b : Arrival). b.key) is_new ∙ lowered_key lower a in
    let later : List Arrival = lowered s leaving key (passed || a.key == key) rest in
    (λ j. take_more_set arrivals i new within j
    ++ lowered s leaving key (passed || same j == key) (drop-set-lt (i + 1) arrivals i new further j))
    ∙ append_assoc (take i arrivals) (new ∷ []) later ∙ (λ j. take i arrivals ++ (is_new j ∷ later))
    ∙ (λ j. take i arrivals ++ (lowered_by (is_lower j) a ∷ later))
    ∙ (λ j. take i arrivals ++ (lowered_if passed leaving (sym found j) a ∷ later))
    ∙ (λ j. take i arrivals ++ lowered s leaving key passed (sym (drop_more arrivals i d within) j)) ∙ told

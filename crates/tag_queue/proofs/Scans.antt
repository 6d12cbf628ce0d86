-- What a scan of the waiting commands keeps, and what a place tells of those that stand before it.
use Rattle.std.proofs.Common.{◌≡◌, ◌≢◌, ℕ, ◌+◌, ◌-◌, zero, suc, Bool, true, false, not, ◌&&◌, ◌||◌, List, [], ◌∷◌, ◌++◌}
use Rattle.std.proofs.Common.{length, Option, Some, None, refl, ap, sym, subst, ◌∙◌, arith, rules, eq-eqb}
use Rattle.std.specs.Prelude.{◌==◌, if◌then◌else◌}
use Rattle.bus_base.specs.declared.events.Pick.TheVariants as picks
use Rattle.array_model.specs.declared.entries.Entry.{Entry}
use Rattle.array_model.specs.Order.{picked_place, last_of, is_ordered, has_ordered, has_none_before, is_held_back}
use Rattle.array_model.specs.Order.{holds_back, may_run_after, may_run_in_order, runnable_after}
use Rattle.slab.specs.Slab.{Slab, get}
use Rattle.tag_queue.specs.declared.arrivals.Arrival.{Arrival}
use Rattle.tag_queue.specs.Queue.{Queued, key_at, is_current, waiting_in, entries_in, place_of}
use Rattle.tag_queue.specs.Stored.{queued_if, queued_at, waiting_at, entries_at, held_back_by, IsCounted, before_with}
use Rattle.tag_queue.specs.Stored.{AreKept}
use Rattle.bus_base.proofs.Tests.{or_false, next_some, or_later}

abbrev pub last_or : Option ℕ → List ℕ → Option ℕ
last_or found [] = found
last_or found (place ∷ places) = last_or (Some place) places

last_or-last_of : (place : ℕ) (places : List ℕ) → last_or (Some place) places ≡ Some (last_of place places)
last_or-last_of place [] = refl
last_or-last_of place (p ∷ places) = last_or-last_of p places

pub last_or_picked : (places : List ℕ) → last_or None places ≡ picked_place picks.Last places
last_or_picked [] = refl
last_or_picked (p ∷ places) = last_or-last_of p places

pub key_at_later : (q : Queued) (waiting : List Queued) (place : ℕ) → place ≢ 0
    → key_at (q ∷ waiting) place ≡ key_at waiting (place - 1)
key_at_later q waiting zero some = absurd (some refl)
key_at_later q waiting (suc place) some = ap (key_at waiting) (omega arith)

pub has_ordered_more : (before : List Entry) (p : Entry)
    → has_ordered (before ++ p ∷ []) ≡ (has_ordered before || is_ordered p.class)
has_ordered_more [] p = or_false (is_ordered p.class)
has_ordered_more (q ∷ before) p = ap (λ (b : Bool). is_ordered q.class || b) (has_ordered_more before p)
    ∙ or_later (is_ordered q.class) (has_ordered before) (is_ordered p.class)

none_before : (before : List Entry) → has_none_before before ≡ (length before == 0)
none_before [] = refl
none_before (q ∷ before) = search rules

none_holds_back : (before : List Entry) (p : Entry) → (held_back_by before p == 0) ≡ not (is_held_back before p)
none_holds_back [] p = refl
none_holds_back (q ∷ before) p = go (holds_back q p) (none_holds_back before p)
  where
    go : (b : Bool) → (held_back_by before p == 0) ≡ not (is_held_back before p)
        → ((if b then held_back_by before p + 1 else held_back_by before p) == 0) ≡ not (b || is_held_back before p)
    go true rest = next_some (held_back_by before p)
    go false rest = rest

pub may_run_after_by : (before : List Entry) (p : Entry) (place earlier : ℕ) (ordered : Bool)
    → place ≡ length before → ordered ≡ has_ordered before → earlier ≡ held_back_by before p
    → may_run_after before p ≡ (if is_ordered p.class then place == 0 else not ordered && earlier == 0)
may_run_after_by before p place earlier ordered at is_ordered_before counted = go (is_ordered p.class)
  where
    go : (b : Bool) → (if b then has_none_before before else not (has_ordered before) && not (is_held_back before p))
        ≡ (if b then place == 0 else not ordered && earlier == 0)
    go true = none_before before ∙ ap (λ (n : ℕ). n == 0) (sym at)
    go false =
        ap (λ (o : Bool). not o && not (is_held_back before p)) (sym is_ordered_before)
        ∙ ap (λ (h : Bool). not ordered && h) (sym (none_holds_back before p))
        ∙ ap (λ (n : ℕ). not ordered && n == 0) (sym counted)

-- ---- one arrival of those that are left

pub some_same : {A : Type 0} (x y : A) → Some x ≡ Some y → x ≡ y
some_same x y e = cc

pub kept_counted :
    (s : Slab Entry) (current : Option ℕ) (before : List Entry) (a : Arrival) (rest : List Arrival) (p : Entry)
    → AreKept s None current before (a ∷ rest) → get s a.key ≡ Some p → is_current current a.key ≡ false
    → a.earlier ≡ held_back_by before p
kept_counted s current before a rest p kept found waits =
    let same : kept.0 ≡ p = some_same kept.0 p (sym kept.1 ∙ found) in
    let counted : IsCounted false before kept.0 a.earlier = subst
    (λ (b : Bool). IsCounted b before kept.0 a.earlier) waits kept.2 in
    counted ∙ ap (λ (q : Entry). held_back_by before q) same

pub kept_rest :
    (s : Slab Entry) (current : Option ℕ) (before : List Entry) (a : Arrival) (rest : List Arrival) (p : Entry)
    → AreKept s None current before (a ∷ rest) → get s a.key ≡ Some p → is_current current a.key ≡ false
    → AreKept s None current (before ++ p ∷ []) rest
kept_rest s current before a rest p kept found waits =
    let same : kept.0 ≡ p = some_same kept.0 p (sym kept.1 ∙ found) in
    let more : AreKept s None current (before_with false before kept.0) rest = subst
    (λ (b : Bool). AreKept s None current (before_with b before kept.0) rest) waits kept.3 in
    subst (λ (q : Entry). AreKept s None current (before ++ q ∷ []) rest) same more

-- It waits: it is the first of them.
pub waits_first : (s : Slab Entry) (current : Option ℕ) (a : Arrival) (rest : List Arrival) (p : Entry)
    → get s a.key ≡ Some p → is_current current a.key ≡ false
    → waiting_at s current (a ∷ rest) ≡ record { key = a.key; entry = p } ∷ waiting_at s current rest
waits_first s current a rest p found waits =
    ap (λ (slot : Option Entry). waiting_in current (queued_if a.key slot (queued_at s rest))) found
    ∙ ap (λ (b : Bool). if b then waiting_at s current rest
    else record { key = a.key; entry = p } ∷ waiting_at s current rest) waits

pub runs_first : (before : List Entry) (q : Queued) (waiting : List Queued) (key : ℕ) → q.key ≡ key
    → may_run_in_order before (entries_in (q ∷ waiting)) (place_of (q ∷ waiting) key) ≡ may_run_after before q.entry
runs_first before q waiting key same = ap (λ (b : Bool). may_run_in_order before (entries_in (q ∷ waiting))
    (if b then 0 else suc (place_of waiting key))) (eq-eqb q.key key same)

pub runs_here : (s : Slab Entry) (current : Option ℕ) (before : List Entry) (a : Arrival) (rest : List Arrival)
    (p : Entry) (key place : ℕ) (ordered : Bool) → AreKept s None current before (a ∷ rest) → get s a.key ≡ Some p
    → is_current current a.key ≡ false → a.key ≡ key → place ≡ length before → ordered ≡ has_ordered before
    → may_run_in_order before (entries_at s current (a ∷ rest)) (place_of (waiting_at s current (a ∷ rest)) key)
    ≡ (if is_ordered p.class then place == 0 else not ordered && a.earlier == 0)
runs_here s current before a rest p key place ordered kept found waits same at is_ordered_before =
    ap (λ (w : List Queued). may_run_in_order before (entries_in w) (place_of w key))
    (waits_first s current a rest p found waits)
    ∙ runs_first before (record { key = a.key; entry = p }) (waiting_at s current rest) key same
    ∙ may_run_after_by before p place a.earlier ordered at is_ordered_before
    (kept_counted s current before a rest p kept found waits)

-- The last that runs, one arrival further.
pub last_here : (s : Slab Entry) (current : Option ℕ) (before : List Entry) (a : Arrival) (rest : List Arrival)
    (p : Entry) (place : ℕ) (ordered : Bool) (found : Option ℕ) → AreKept s None current before (a ∷ rest)
    → get s a.key ≡ Some p → is_current current a.key ≡ false → place ≡ length before → ordered ≡ has_ordered before
    → last_or found (runnable_after before place (entries_at s current (a ∷ rest)))
    ≡ last_or (if (if is_ordered p.class then place == 0 else not ordered && a.earlier == 0) then Some place else found)
    (runnable_after (before ++ p ∷ []) (suc place) (entries_at s current rest))
last_here s current before a rest p place ordered found kept at_key waits at is_ordered_before =
    ap (λ (w : List Queued). last_or found (runnable_after before place (entries_in w)))
    (waits_first s current a rest p at_key waits) ∙ go (may_run_after before p)
    ∙ ap (λ (b : Bool). last_or (if b then Some place else found)
    (runnable_after (before ++ p ∷ []) (suc place) (entries_at s current rest))) (may_run_after_by before p place
    a.earlier ordered at is_ordered_before (kept_counted s current before a rest p kept at_key waits))
  where
    go : (b : Bool)
        → last_or found (if b then place ∷ runnable_after (before ++ p ∷ []) (suc place) (entries_at s current rest)
        else runnable_after (before ++ p ∷ []) (suc place) (entries_at s current rest))
        ≡ last_or (if b then Some place else found)
        (runnable_after (before ++ p ∷ []) (suc place) (entries_at s current rest))
    go true = refl
    go false = refl

-- ---- the current one is passed over

pub passes_current : (s : Slab Entry) (current : Option ℕ) (a : Arrival) (rest : List Arrival) (p : Entry)
    → get s a.key ≡ Some p → is_current current a.key ≡ true
    → waiting_at s current (a ∷ rest) ≡ waiting_at s current rest
passes_current s current a rest p found is_it =
    ap (λ (slot : Option Entry). waiting_in current (queued_if a.key slot (queued_at s rest))) found
    ∙ ap (λ (b : Bool). if b then waiting_at s current rest
    else record { key = a.key; entry = p } ∷ waiting_at s current rest) is_it

pub kept_rest_of_current :
    (s : Slab Entry) (current : Option ℕ) (before : List Entry) (a : Arrival) (rest : List Arrival)
    → AreKept s None current before (a ∷ rest) → is_current current a.key ≡ true → AreKept s None current before rest
kept_rest_of_current s current before a rest kept is_it =
    subst (λ (b : Bool). AreKept s None current (before_with b before kept.0) rest) is_it kept.3

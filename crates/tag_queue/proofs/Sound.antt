-- The fields of a queue stay sound: as a command arrives, as one becomes current, and as one leaves.
use Rattle.std.proofs.Common.{◌≡◌, ◌≢◌, ◌<◌, ◌≤◌, ℕ, ◌+◌, suc, Bool, true, false, cond, not, ◌&&◌, ◌||◌, List, [], ◌∷◌}
use Rattle.std.proofs.Common.{◌++◌, length, Option, Some, None, refl, ap, sym, subst, ◌∙◌, arith, append_assoc, take}
use Rattle.std.proofs.Common.{drop}
use Rattle.std.proofs.lemmas.Grind.{common_steps}
use Rattle.std.specs.Prelude.{◌==◌, if◌then◌else◌}
use Rattle.std.specs.List.{filter}
use Rattle.std.proofs.lemmas.Bool.{eqb-false, eqb-true, ne_eqb, true≢false}
use Rattle.std.proofs.lemmas.List.{append-nil, length-append}
use Rattle.slab.specs.Slab.{Slab, get, slab_len, Updates}
use Rattle.array_model.specs.declared.entries.Entry.{Entry}
use Rattle.array_model.specs.Order.{holds_back}
use Rattle.tag_queue.specs.declared.arrivals.Arrival.{Arrival}
use Rattle.tag_queue.specs.Queue.{Queued, is_current, waiting_in, entries_in, without_key, has_key, entry_at}
use Rattle.tag_queue.specs.Stored.{queued_if, queued_at, entries_at, held_back_by, is_out, IsCounted, before_with}
use Rattle.tag_queue.specs.Stored.{AreKept, is_among, AreApart, IsAmong, IsSound, lowered, lowered_if, lowered_by}
use Rattle.tag_queue.proofs.Scans.{some_same, waits_first, passes_current}
use Rattle.bus_base.proofs.Tests.{or_false}

-- ---- keys

pub none_some : {A : Type 0} (x : A) → None ≡ Some x → ⊥
none_some x e = cc

abbrev pub Others : Slab Entry → Slab Entry → ℕ → Type 0
Others s t key = (other : ℕ) → other ≢ key → get t other ≡ get s other

abbrev pub keeps : (a : Arrival) → ℕ → Bool
keeps a key = not (a.key == key)

pub among_cons : (a : Arrival) (xs : List Arrival) (key : ℕ) → is_among (a ∷ xs) key ≡ false
    → (a.key ≢ key) × (is_among xs key ≡ false)
among_cons a xs key fresh = go (a.key == key) refl fresh
  where
    go : (b : Bool) → (a.key == key) ≡ b → (if b then true else is_among xs key) ≡ false
        → (a.key ≢ key) × (is_among xs key ≡ false)
    go true same e = absurd (true≢false e)
    go false other e = (eqb-false a.key key other, e)

-- A key with no entry is the key of no arrival.
pub fresh_key : (s : Slab Entry) (leaving current : Option ℕ) (xs : List Arrival) (before : List Entry) (key : ℕ)
    → AreKept s leaving current before xs → get s key ≡ None → is_among xs key ≡ false
fresh_key s leaving current [] before key kept vacant = refl
fresh_key s leaving current (a ∷ xs) before key kept vacant = go (a.key == key) refl
    (fresh_key s leaving current xs (before_with (is_out leaving current a.key) before kept.0) key kept.3 vacant)
  where
    go : (b : Bool) → (a.key == key) ≡ b → is_among xs key ≡ false → (if b then true else is_among xs key) ≡ false
    go false other rest = rest
    go true same rest = absurd (none_some kept.0 (sym vacant ∙ ap (get s) (sym (eqb-true a.key key same)) ∙ kept.1))

-- ---- what is kept does not depend on other keys

pub kept_others : (s t : Slab Entry) (key : ℕ) (leaving current : Option ℕ) (xs : List Arrival) (before : List Entry)
    → AreKept s leaving current before xs → is_among xs key ≡ false → Others s t key
    → AreKept t leaving current before xs
kept_others s t key leaving current [] before kept fresh others = tt
kept_others s t key leaving current (a ∷ xs) before kept fresh others =
    let parts = among_cons a xs key fresh in (
      kept.0,
      others a.key parts.0 ∙ kept.1,
      kept.2,
      kept_others s t key leaving current xs (before_with (is_out leaving current a.key) before kept.0) kept.3 parts.1
          others,
    )

pub queued_others : (s t : Slab Entry) (key : ℕ) (xs : List Arrival) → is_among xs key ≡ false → Others s t key
    → queued_at t xs ≡ queued_at s xs
queued_others s t key [] fresh others = refl
queued_others s t key (a ∷ xs) fresh others =
    let parts = among_cons a xs key fresh in
    (λ i. queued_if a.key (others a.key parts.0 i) (queued_others s t key xs parts.1 others i))

pub current_other : (xs : List Arrival) (current : Option ℕ) (key : ℕ) → IsAmong xs current → is_among xs key ≡ false
    → is_current current key ≡ false
current_other xs None key live fresh = refl
current_other xs (Some c) key live fresh = go (key == c) refl
  where
    go : (b : Bool) → (key == c) ≡ b → b ≡ false
    go false e = refl
    go true e = absurd (true≢false (sym live ∙ sym (ap (is_among xs) (eqb-true key c e)) ∙ fresh))

-- ---- a command arrives

before_more :
    (s : Slab Entry) (current : Option ℕ) (before : List Entry) (x : Arrival) (xs : List Arrival) (p : Entry) (b : Bool)
    → get s x.key ≡ Some p → is_current current x.key ≡ b
    → before ++ entries_at s current (x ∷ xs) ≡ before_with b before p ++ entries_at s current xs
before_more s current before x xs p true found is_it =
    ap (λ (w : List Queued). before ++ entries_in w) (passes_current s current x xs p found is_it)
before_more s current before x xs p false found waits =
    ap (λ (w : List Queued). before ++ entries_in w) (waits_first s current x xs p found waits)
    ∙ sym (append_assoc before (p ∷ []) (entries_at s current xs))

kept_push : (s : Slab Entry) (current : Option ℕ) (xs : List Arrival) (before : List Entry) (a : Arrival) (p : Entry)
    → AreKept s None current before xs → get s a.key ≡ Some p → is_current current a.key ≡ false
    → a.earlier ≡ held_back_by (before ++ entries_at s current xs) p → AreKept s None current before (xs ++ a ∷ [])
kept_push s current [] before a p kept found waits counted = (
  p,
  found,
  subst (λ (b : Bool). IsCounted b before p a.earlier) (sym waits)
      (counted ∙ ap (λ (l : List Entry). held_back_by l p) (append-nil before)),
  tt,
)
kept_push s current (x ∷ xs) before a p kept found waits counted = (
  kept.0,
  kept.1,
  kept.2,
  kept_push s current xs (before_with (is_current current x.key) before kept.0) a p kept.3 found waits
      (counted ∙ ap (λ (l : List Entry). held_back_by l p) (before_more s current before x xs kept.0 _ kept.1 refl)),
)

among_push_other : (xs : List Arrival) (a : Arrival) (key : ℕ) → is_among xs key ≡ false → a.key ≢ key
    → is_among (xs ++ a ∷ []) key ≡ false
among_push_other [] a key fresh other = ap (λ (b : Bool). if b then true else false) (ne_eqb a.key key other)
among_push_other (x ∷ xs) a key fresh other =
    let parts = among_cons x xs key fresh in
    ap (λ (b : Bool). if b then true else is_among (xs ++ a ∷ []) key) (ne_eqb x.key key parts.0)
    ∙ among_push_other xs a key parts.1 other

apart_push : (xs : List Arrival) (a : Arrival) → AreApart xs → is_among xs a.key ≡ false → AreApart (xs ++ a ∷ [])
apart_push [] a apart fresh = (refl, tt)
apart_push (x ∷ xs) a apart fresh =
    let parts = among_cons x xs a.key fresh in
    (among_push_other xs a x.key apart.0 (λ same. parts.0 (sym same)), apart_push xs a apart.1 parts.1)

among_push : (xs : List Arrival) (a : Arrival) (key : ℕ) → is_among xs key ≡ true → is_among (xs ++ a ∷ []) key ≡ true
among_push [] a key live = absurd (true≢false (sym live))
among_push (x ∷ xs) a key live = go (x.key == key) live (among_push xs a key)
  where
    go : (b : Bool) → (if b then true else is_among xs key) ≡ true
        → (is_among xs key ≡ true → is_among (xs ++ a ∷ []) key ≡ true)
        → (if b then true else is_among (xs ++ a ∷ []) key) ≡ true
    go true e rest = refl
    go false e rest = rest e

current_push : (xs : List Arrival) (a : Arrival) (current : Option ℕ) → IsAmong xs current
    → IsAmong (xs ++ a ∷ []) current
current_push xs a None live = tt
current_push xs a (Some key) live = among_push xs a key live

pub queued_push : (s : Slab Entry) (xs : List Arrival) (a : Arrival) (p : Entry) → get s a.key ≡ Some p
    → queued_at s (xs ++ a ∷ []) ≡ queued_at s xs ++ record { key = a.key; entry = p } ∷ []
queued_push s [] a p found = ap (λ (slot : Option Entry). queued_if a.key slot []) found
queued_push s (x ∷ xs) a p found = ap (queued_if x.key (get s x.key)) (queued_push s xs a p found) ∙ go (get s x.key)
  where
    go : (slot : Option Entry) → queued_if x.key slot (queued_at s xs ++ record { key = a.key; entry = p } ∷ [])
        ≡ queued_if x.key slot (queued_at s xs) ++ record { key = a.key; entry = p } ∷ []
    go None = refl
    go (Some q) = refl

pub enter_sound :
    (s t : Slab Entry) (xs : List Arrival) (current : Option ℕ) (depth room more_room : ℕ) (a : Arrival) (p : Entry)
    → IsSound s xs current depth room → length xs < depth → get s a.key ≡ None
    → Updates s t a.key (Some p) → slab_len t ≡ slab_len s + 1 → t.capacity ≡ s.capacity → more_room ≡ room
    → a.earlier ≡ held_back_by (entries_at s current xs) p → IsSound t (xs ++ a ∷ []) current depth more_room
enter_sound s t xs current depth room more_room a p sound below vacant updates counted same_room same_more held =
    let fresh = fresh_key s None current xs [] a.key sound.kept vacant in
    let same : entries_at t current xs ≡ entries_at s current xs = ap
    (λ (q : List Queued). entries_in (waiting_in current q)) (queued_others s t a.key xs fresh updates.others) in
    record {
      kept = kept_push t current xs [] a p (kept_others s t a.key None current xs [] sound.kept fresh updates.others)
          updates.changed (current_other xs current a.key sound.current_is_live fresh)
          (held ∙ ap (λ (l : List Entry). held_back_by l p) (sym same));
      apart = apart_push xs a sound.apart fresh;
      current_is_live = current_push xs a current sound.current_is_live;
      counted = grind (arith, length-append, sound.counted);
      fits = grind (arith, length-append);
      entries_fit = grind (arith, sound.entries_fit);
      arrivals_fit = grind (arith, sound.arrivals_fit);
    }

-- ---- a command waits no longer

lowered_if_key : (passed : Bool) (leaving : Entry) (slot : Option Entry) (a : Arrival)
    → (lowered_if passed leaving slot a).key ≡ a.key
lowered_if_key passed leaving None a = refl
lowered_if_key passed leaving (Some p) a = go (passed && holds_back leaving p)
  where
    go : (b : Bool) → (lowered_by b a).key ≡ a.key
    go true = refl
    go false = refl

pub among_lowered : (s : Slab Entry) (leaving : Entry) (key : ℕ) (xs : List Arrival) (passed : Bool) (other : ℕ)
    → is_among (lowered s leaving key passed xs) other ≡ is_among xs other
among_lowered s leaving key [] passed other = refl
among_lowered s leaving key (a ∷ xs) passed other =
    (λ i. if lowered_if_key passed leaving (get s a.key) a i == other then true
    else among_lowered s leaving key xs (passed || a.key == key) other i)

pub apart_lowered : (s : Slab Entry) (leaving : Entry) (key : ℕ) (xs : List Arrival) (passed : Bool) → AreApart xs
    → AreApart (lowered s leaving key passed xs)
apart_lowered s leaving key [] passed apart = tt
apart_lowered s leaving key (a ∷ xs) passed apart = (
  among_lowered s leaving key xs (passed || a.key == key) (lowered_if passed leaving (get s a.key) a).key
      ∙ ap (is_among xs) (lowered_if_key passed leaving (get s a.key) a) ∙ apart.0,
  apart_lowered s leaving key xs (passed || a.key == key) apart.1,
)

pub length_lowered : (s : Slab Entry) (leaving : Entry) (key : ℕ) (xs : List Arrival) (passed : Bool)
    → length (lowered s leaving key passed xs) ≡ length xs
length_lowered s leaving key [] passed = refl
length_lowered s leaving key (a ∷ xs) passed = ap suc (length_lowered s leaving key xs (passed || a.key == key))

pub queued_lowered : (s : Slab Entry) (leaving : Entry) (key : ℕ) (xs : List Arrival) (passed : Bool)
    → queued_at s (lowered s leaving key passed xs) ≡ queued_at s xs
queued_lowered s leaving key [] passed = refl
queued_lowered s leaving key (a ∷ xs) passed = (λ i. queued_if
    (lowered_if_key passed leaving (get s a.key) a i) (get s (lowered_if_key passed leaving (get s a.key) a i))
    (queued_lowered s leaving key xs (passed || a.key == key) i))

count_insert : (b1 b2 : List Entry) (x p : Entry) → held_back_by (b1 ++ x ∷ b2) p
    ≡ (if holds_back x p then held_back_by (b1 ++ b2) p + 1 else held_back_by (b1 ++ b2) p)
count_insert [] b2 x p = refl
count_insert (q ∷ b1) b2 x p =
    ap (λ (n : ℕ). if holds_back q p then n + 1 else n) (count_insert b1 b2 x p) ∙ go (holds_back q p) (holds_back x p)
  where
    go : (a b : Bool) → (if a then (if b then held_back_by (b1 ++ b2) p + 1 else held_back_by (b1 ++ b2) p) + 1
        else (if b then held_back_by (b1 ++ b2) p + 1 else held_back_by (b1 ++ b2) p))
        ≡ (if b then (if a then held_back_by (b1 ++ b2) p + 1 else held_back_by (b1 ++ b2) p) + 1
        else (if a then held_back_by (b1 ++ b2) p + 1 else held_back_by (b1 ++ b2) p))
    go true true = refl
    go true false = refl
    go false true = refl
    go false false = refl

lowered_counts : (b1 b2 : List Entry) (leaving p : Entry) (a : Arrival)
    → a.earlier ≡ held_back_by (b1 ++ leaving ∷ b2) p
    → (lowered_by (holds_back leaving p) a).earlier ≡ held_back_by (b1 ++ b2) p
lowered_counts b1 b2 leaving p a counted = go (holds_back leaving p) (counted ∙ count_insert b1 b2 leaving p)
  where
    go : (b : Bool) → a.earlier ≡ (if b then held_back_by (b1 ++ b2) p + 1 else held_back_by (b1 ++ b2) p)
        → (lowered_by b a).earlier ≡ held_back_by (b1 ++ b2) p
    go true e = omega arith
    go false e = e

-- After the one that leaves.
kept_after : (s : Slab Entry) (current : Option ℕ) (key : ℕ) (leaving : Entry) (xs : List Arrival) (b1 b2 : List Entry)
    → AreKept s None current (b1 ++ leaving ∷ b2) xs → is_among xs key ≡ false
    → AreKept s (Some key) current (b1 ++ b2) (lowered s leaving key true xs)
kept_after s current key leaving [] b1 b2 kept fresh = tt
kept_after s current key leaving (a ∷ xs) b1 b2 kept fresh =
    let parts = among_cons a xs key fresh in
    let new : Arrival = lowered_if true leaving (get s a.key) a in
    let same : new.key ≡ a.key = lowered_if_key true leaving (get s a.key) a in
    let is_new : new ≡ lowered_by (holds_back leaving kept.0) a = ap
    (λ (slot : Option Entry). lowered_if true leaving slot a) kept.1 in
    let out : is_out (Some key) current new.key ≡ is_current current a.key =
    (λ i. (same i == key) || is_current current (same i))
    ∙ ap (λ (b : Bool). b || is_current current a.key) (ne_eqb a.key key parts.0) in
    let lower : a.earlier ≡ held_back_by (b1 ++ leaving ∷ b2) kept.0 → new.earlier ≡ held_back_by (b1 ++ b2) kept.0 =
    λ counted. ap (λ (b : Arrival). b.earlier) is_new ∙ lowered_counts b1 b2 leaving kept.0 a counted in (
      kept.0,
      ap (get s) same ∙ kept.1,
      subst (λ (b : Bool). IsCounted b (b1 ++ b2) kept.0 new.earlier) (sym out)
          (counts (is_current current a.key) kept.0 new lower kept.2),
      subst (λ (b : Bool). AreKept s (Some key) current (before_with b (b1 ++ b2) kept.0)
          (lowered s leaving key true xs)) (sym out) (rest (is_current current a.key) kept.0
          (λ b3 more. kept_after s current key leaving xs b1 b3 more parts.1) kept.3),
    )
  where
    counts : (b : Bool) (p : Entry) (new : Arrival)
        → (a.earlier ≡ held_back_by (b1 ++ leaving ∷ b2) p → new.earlier ≡ held_back_by (b1 ++ b2) p)
        → IsCounted b (b1 ++ leaving ∷ b2) p a.earlier → IsCounted b (b1 ++ b2) p new.earlier
    counts true p new lower counted = tt
    counts false p new lower counted = lower counted

    rest : (b : Bool) (p : Entry) → ((b3 : List Entry) → AreKept s None current (b1 ++ leaving ∷ b3) xs
        → AreKept s (Some key) current (b1 ++ b3) (lowered s leaving key true xs))
        → AreKept s None current (before_with b (b1 ++ leaving ∷ b2) p) xs
        → AreKept s (Some key) current (before_with b (b1 ++ b2) p) (lowered s leaving key true xs)
    rest true p later more = later b2 more
    rest false p later more = subst (λ (l : List Entry). AreKept s (Some key) current l (lowered s leaving key true xs))
        (sym (append_assoc b1 b2 (p ∷ []))) (later (b2 ++ p ∷ [])
        (subst (λ (l : List Entry). AreKept s None current l xs) (append_assoc b1 (leaving ∷ b2) (p ∷ [])) more))

pub kept_lowered :
    (s : Slab Entry) (current : Option ℕ) (key : ℕ) (leaving : Entry) (xs : List Arrival) (before : List Entry)
    → AreKept s None current before xs → AreApart xs → get s key ≡ Some leaving → is_current current key ≡ false
    → AreKept s (Some key) current before (lowered s leaving key false xs)
kept_lowered s current key leaving [] before kept apart found waits = tt
kept_lowered s current key leaving (a ∷ xs) before kept apart found waits =
    let is_new : lowered_if false leaving (get s a.key) a ≡ a = ap
    (λ (slot : Option Entry). lowered_if false leaving slot a) kept.1 in
    subst (λ (b : Arrival). AreKept s (Some key) current before (b ∷ lowered s leaving key (a.key == key) xs))
    (sym is_new) (go (a.key == key) refl kept (kept_lowered s current key leaving xs
    (before_with (is_current current a.key) before kept.0) kept.3 apart.1 found waits))
  where
    go : (b : Bool) → (a.key == key) ≡ b → (k : AreKept s None current before (a ∷ xs)) → AreKept s
        (Some key) current (before_with (is_current current a.key) before k.0) (lowered s leaving key false xs)
        → AreKept s (Some key) current before (a ∷ lowered s leaving key b xs)
    go false other k later =
        let out : is_out (Some key) current a.key ≡ is_current current a.key = ap
        (λ (b : Bool). b || is_current current a.key) other in (
          k.0,
          k.1,
          subst (λ (b : Bool). IsCounted b before k.0 a.earlier) (sym out) k.2,
          subst (λ (b : Bool). AreKept s (Some key) current (before_with b before k.0) (lowered s leaving key false xs))
              (sym out) later,
        )
    go true same k later =
        let same_key : a.key ≡ key = eqb-true a.key key same in
        let out : true ≡ is_out (Some key) current a.key = ap
        (λ (b : Bool). b || is_current current a.key) (sym same) in
        let waits_here : is_current current a.key ≡ false = ap (is_current current) same_key ∙ waits in
        let it : k.0 ≡ leaving = some_same k.0 leaving (sym k.1 ∙ ap (get s) same_key ∙ found) in
        let more : AreKept s None current (before ++ leaving ∷ []) xs = subst
        (λ (q : Entry). AreKept s None current (before ++ q ∷ []) xs) it
        (subst (λ (b : Bool). AreKept s None current (before_with b before k.0) xs) waits_here k.3) in
        let after : AreKept s (Some key) current (before ++ []) (lowered s leaving key true xs) = kept_after s current
        key leaving xs before [] more (ap (is_among xs) (sym same_key) ∙ apart.0) in (
          k.0,
          k.1,
          subst (λ (b : Bool). IsCounted b before k.0 a.earlier) out tt,
          subst (λ (b : Bool). AreKept s (Some key) current (before_with b before k.0) (lowered s leaving key true xs))
              out (subst (λ (l : List Entry). AreKept s (Some key) current l (lowered s leaving key true xs))
              (append-nil before) after),
        )

pub kept_out : (s : Slab Entry) (l1 c1 l2 c2 : Option ℕ) → ((key : ℕ) → is_out l1 c1 key ≡ is_out l2 c2 key)
    → (xs : List Arrival) (before : List Entry) → AreKept s l1 c1 before xs → AreKept s l2 c2 before xs
kept_out s l1 c1 l2 c2 same [] before kept = tt
kept_out s l1 c1 l2 c2 same (a ∷ xs) before kept = (
  kept.0,
  kept.1,
  subst (λ (b : Bool). IsCounted b before kept.0 a.earlier) (same a.key) kept.2,
  subst (λ (b : Bool). AreKept s l2 c2 (before_with b before kept.0) xs) (same a.key)
      (kept_out s l1 c1 l2 c2 same xs (before_with (is_out l1 c1 a.key) before kept.0) kept.3),
)

pub start_sound : (s : Slab Entry) (xs : List Arrival) (depth room : ℕ) (key : ℕ) (leaving : Entry)
    → IsSound s xs None depth room → get s key ≡ Some leaving → is_among xs key ≡ true
    → IsSound s (lowered s leaving key false xs) (Some key) depth room
start_sound s xs depth room key leaving sound found live = record {
  kept = kept_out s (Some key) None None (Some key) (λ k. or_false (k == key)) (lowered s leaving key false xs) []
      (kept_lowered s None key leaving xs [] sound.kept sound.apart found refl);
  apart = apart_lowered s leaving key xs false sound.apart;
  current_is_live = among_lowered s leaving key xs false key ∙ live;
  counted = sound.counted ∙ sym (length_lowered s leaving key xs false);
  fits = rw (length_lowered s leaving key xs false) sound.fits;
  entries_fit = sound.entries_fit;
  arrivals_fit = sound.arrivals_fit;
}

-- ---- a command leaves

among_without : (key other : ℕ) (xs : List Arrival) → other ≢ key
    → is_among (filter (λ a. keeps a key) xs) other ≡ is_among xs other
among_without key other [] apart = refl
among_without key other (a ∷ xs) apart = go (a.key == key) refl (among_without key other xs apart)
  where
    go : (b : Bool) → (a.key == key) ≡ b → is_among (filter (λ x. keeps x key) xs) other ≡ is_among xs other
        → is_among (cond (not b) (a ∷ filter (λ x. keeps x key) xs) (filter (λ x. keeps x key) xs)) other
        ≡ (if a.key == other then true else is_among xs other)
    go false differs rest = ap (λ (r : Bool). if a.key == other then true else r) rest
    go true same rest = rest ∙ sym (ap (λ (r : Bool). if r then true else is_among xs other)
        (ne_eqb a.key other (λ e. apart (sym e ∙ eqb-true a.key key same))))

apart_without : (key : ℕ) (xs : List Arrival) → AreApart xs → AreApart (filter (λ a. keeps a key) xs)
apart_without key [] apart = tt
apart_without key (a ∷ xs) apart = go (a.key == key) refl (apart_without key xs apart.1)
  where
    go : (b : Bool) → (a.key == key) ≡ b → AreApart (filter (λ x. keeps x key) xs)
        → AreApart (cond (not b) (a ∷ filter (λ x. keeps x key) xs) (filter (λ x. keeps x key) xs))
    go false differs rest = (among_without key a.key xs (eqb-false a.key key differs) ∙ apart.0, rest)
    go true same rest = rest

all_without : (key : ℕ) (xs : List Arrival) → is_among xs key ≡ false → filter (λ a. keeps a key) xs ≡ xs
all_without key [] fresh = refl
all_without key (a ∷ xs) fresh =
    let parts = among_cons a xs key fresh in
    ap (λ (b : Bool). cond (not b) (a ∷ filter (λ x. keeps x key) xs) (filter (λ x. keeps x key) xs))
    (ne_eqb a.key key parts.0) ∙ ap (λ (rest : List Arrival). a ∷ rest) (all_without key xs parts.1)

length_without : (key : ℕ) (xs : List Arrival) → AreApart xs → is_among xs key ≡ true
    → length (filter (λ a. keeps a key) xs) + 1 ≡ length xs
length_without key [] apart live = absurd (true≢false (sym live))
length_without key (a ∷ xs) apart live = go (a.key == key) refl live (length_without key xs apart.1)
  where
    go : (b : Bool) → (a.key == key) ≡ b → (if b then true else is_among xs key) ≡ true
        → (is_among xs key ≡ true → length (filter (λ x. keeps x key) xs) + 1 ≡ length xs)
        → length (cond (not b) (a ∷ filter (λ x. keeps x key) xs) (filter (λ x. keeps x key) xs)) + 1 ≡ suc (length xs)
    go false differs e rest = let r : length (filter (λ x. keeps x key) xs) + 1 ≡ length xs = rest e in omega arith
    go true same e rest =
        let r : length (filter (λ x. keeps x key) xs) ≡ length xs = ap length
        (all_without key xs (ap (is_among xs) (sym (eqb-true a.key key same)) ∙ apart.0)) in
        omega arith

pub kept_without : (s t : Slab Entry) (key : ℕ) (current : Option ℕ) (xs : List Arrival) (before : List Entry)
    → Others s t key → AreKept s (Some key) current before xs
    → AreKept t None current before (filter (λ a. keeps a key) xs)
kept_without s t key current [] before others kept = tt
kept_without s t key current (a ∷ xs) before others kept = go (a.key == key) refl kept
    (kept_without s t key current xs (before_with (is_out (Some key) current a.key) before kept.0) others kept.3)
  where
    go : (b : Bool) → (a.key == key) ≡ b → (k : AreKept s (Some key) current before (a ∷ xs)) → AreKept t None current
        (before_with (is_out (Some key) current a.key) before k.0) (filter (λ x. keeps x key) xs)
        → AreKept t None current before (cond (not b) (a ∷ filter (λ x. keeps x key) xs) (filter (λ x. keeps x key) xs))
    go false differs k rest =
        let out : is_out (Some key) current a.key ≡ is_current current a.key = ap
        (λ (b : Bool). b || is_current current a.key) differs in (
          k.0,
          others a.key (eqb-false a.key key differs) ∙ k.1,
          subst (λ (b : Bool). IsCounted b before k.0 a.earlier) out k.2,
          subst (λ (b : Bool). AreKept t None current (before_with b before k.0) (filter (λ x. keeps x key) xs)) out
              rest,
        )
    go true same k rest =
        let out : is_out (Some key) current a.key ≡ true = ap (λ (b : Bool). b || is_current current a.key) same in
        subst (λ (b : Bool). AreKept t None current (before_with b before k.0) (filter (λ x. keeps x key) xs)) out rest

pub queued_without : (s t : Slab Entry) (key : ℕ) (leaving current : Option ℕ) (xs : List Arrival) (before : List Entry)
    → Others s t key → AreKept s leaving current before xs
    → queued_at t (filter (λ a. keeps a key) xs) ≡ without_key (queued_at s xs) key
queued_without s t key leaving current [] before others kept = refl
queued_without s t key leaving current (a ∷ xs) before others kept = go (a.key == key) refl kept.0 kept.1
    (queued_without s t key leaving current xs (before_with (is_out leaving current a.key) before kept.0) others kept.3)
    ∙ sym (ap (λ (slot : Option Entry). without_key (queued_if a.key slot (queued_at s xs)) key) kept.1)
  where
    go : (b : Bool) → (a.key == key) ≡ b → (p : Entry) → get s a.key ≡ Some p
        → queued_at t (filter (λ x. keeps x key) xs) ≡ without_key (queued_at s xs) key
        → queued_at t (cond (not b) (a ∷ filter (λ x. keeps x key) xs) (filter (λ x. keeps x key) xs))
        ≡ (if a.key == key then without_key (queued_at s xs) key
        else record { key = a.key; entry = p } ∷ without_key (queued_at s xs) key)
    go false differs p found rest =
        (λ i. queued_if a.key ((others a.key (eqb-false a.key key differs) ∙ found) i) (rest i))
        ∙ sym (ap (λ (b : Bool). if b then without_key (queued_at s xs) key
        else record { key = a.key; entry = p } ∷ without_key (queued_at s xs) key) differs)
    go true same p found rest = rest ∙ sym (ap (λ (b : Bool). if b then without_key (queued_at s xs) key
        else record { key = a.key; entry = p } ∷ without_key (queued_at s xs) key) same)

current_without_live : (xs : List Arrival) (current : Option ℕ) (key : ℕ) → IsAmong xs current
    → is_current current key ≡ false → IsAmong (filter (λ a. keeps a key) xs) current
current_without_live xs None key live other = tt
current_without_live xs (Some c) key live other = among_without key c xs (λ e. eqb-false key c other (sym e)) ∙ live

-- Here the arrivals are those after it waits no longer.
pub remove_sound : (s t : Slab Entry) (xs : List Arrival) (current : Option ℕ) (depth room more_room : ℕ) (key : ℕ)
    → AreKept s (Some key) current [] xs → AreApart xs → IsAmong xs current → is_current current key ≡ false
    → is_among xs key ≡ true → slab_len s ≡ length xs → length xs ≤ depth → depth ≤ s.capacity → depth ≤ room
    → Updates s t key None → slab_len t + 1 ≡ slab_len s → t.capacity ≡ s.capacity → more_room ≡ room
    → IsSound t (filter (λ a. keeps a key) xs) current depth more_room
remove_sound s t xs current depth room more_room key kept apart live other there counted fits entries_fit arrivals_fit
    updates fewer same_room same_more =
    let shorter = length_without key xs apart there in
    record {
      kept = kept_without s t key current xs [] updates.others kept;
      apart = apart_without key xs apart;
      current_is_live = current_without_live xs current key live other;
      counted = omega arith;
      fits = omega arith;
      entries_fit = grind (arith, entries_fit);
      arrivals_fit = grind (arith, arrivals_fit);
    }

-- ---- the live commands by their keys

pub has_key_queued : (s : Slab Entry) (key : ℕ) (leaving current : Option ℕ) (xs : List Arrival) (before : List Entry)
    → AreKept s leaving current before xs → has_key (queued_at s xs) key ≡ is_among xs key
has_key_queued s key leaving current [] before kept = refl
has_key_queued s key leaving current (a ∷ xs) before kept =
    ap (λ (slot : Option Entry). has_key (queued_if a.key slot (queued_at s xs)) key) kept.1
    ∙ ap (λ (b : Bool). if a.key == key then true else b)
    (has_key_queued s key leaving current xs (before_with (is_out leaving current a.key) before kept.0) kept.3)

pub entry_queued : (s : Slab Entry) (key : ℕ) (leaving current : Option ℕ) (xs : List Arrival) (before : List Entry)
    → AreKept s leaving current before xs → is_among xs key ≡ true → entry_at (queued_at s xs) key ≡ get s key
entry_queued s key leaving current [] before kept live = absurd (true≢false (sym live))
entry_queued s key leaving current (a ∷ xs) before kept live =
    ap (λ (slot : Option Entry). entry_at (queued_if a.key slot (queued_at s xs)) key) kept.1
    ∙ go (a.key == key) refl kept.0 kept.1 live
    (entry_queued s key leaving current xs (before_with (is_out leaving current a.key) before kept.0) kept.3)
  where
    go : (b : Bool) → (a.key == key) ≡ b → (p : Entry) → get s a.key ≡ Some p
        → (if b then true else is_among xs key) ≡ true
        → (is_among xs key ≡ true → entry_at (queued_at s xs) key ≡ get s key)
        → (if b then Some p else entry_at (queued_at s xs) key) ≡ get s key
    go false differs p found e rest = rest e
    go true same p found e rest = sym found ∙ ap (get s) (eqb-true a.key key same)

pub live_entry : (s : Slab Entry) (key : ℕ) (leaving current : Option ℕ) (xs : List Arrival) (before : List Entry)
    → AreKept s leaving current before xs → is_among xs key ≡ true → (p : Entry) × (get s key ≡ Some p)
live_entry s key leaving current [] before kept live = absurd (true≢false (sym live))
live_entry s key leaving current (a ∷ xs) before kept live = go (a.key == key) refl kept.0 kept.1 live
    (live_entry s key leaving current xs (before_with (is_out leaving current a.key) before kept.0) kept.3)
  where
    go : (b : Bool) → (a.key == key) ≡ b → (p : Entry) → get s a.key ≡ Some p
        → (if b then true else is_among xs key) ≡ true → (is_among xs key ≡ true → (q : Entry) × (get s key ≡ Some q))
        → (q : Entry) × (get s key ≡ Some q)
    go false differs p found e rest = rest e
    go true same p found e rest = (p, ap (get s) (sym (eqb-true a.key key same)) ∙ found)

pub length_queued : (s : Slab Entry) (leaving current : Option ℕ) (xs : List Arrival) (before : List Entry)
    → AreKept s leaving current before xs → length (queued_at s xs) ≡ length xs
length_queued s leaving current [] before kept = refl
length_queued s leaving current (a ∷ xs) before kept =
    ap (λ (slot : Option Entry). length (queued_if a.key slot (queued_at s xs))) kept.1
    ∙ ap suc (length_queued s leaving current xs (before_with (is_out leaving current a.key) before kept.0) kept.3)

-- All items of a vector, written in place.
pub put_whole : (n : ℕ) (new items : List Arrival) → length new ≡ n → take n (new ++ drop (length new) items) ≡ new
put_whole n new items same = grind (arith, common_steps)

pub current_left_sound : (s t : Slab Entry) (xs : List Arrival) (depth room more_room : ℕ) (key : ℕ)
    → IsSound s xs (Some key) depth room → Updates s t key None → slab_len t + 1 ≡ slab_len s → t.capacity ≡ s.capacity
    → more_room ≡ room → IsSound t (filter (λ a. keeps a key) xs) None depth more_room
current_left_sound s t xs depth room more_room key sound updates fewer same_room same_more = remove_sound
    s t xs None depth room more_room key (kept_out s None (Some key) (Some key) None
    (λ k. sym (or_false (k == key))) xs [] sound.kept) sound.apart tt refl sound.current_is_live sound.counted
    sound.fits sound.entries_fit sound.arrivals_fit updates fewer same_room same_more

current_lowered : (s : Slab Entry) (leaving : Entry) (key : ℕ) (xs : List Arrival) (current : Option ℕ)
    → IsAmong xs current → IsAmong (lowered s leaving key false xs) current
current_lowered s leaving key xs None live = tt
current_lowered s leaving key xs (Some c) live = among_lowered s leaving key xs false c ∙ live

pub waiting_left_sound :
    (s t : Slab Entry) (xs : List Arrival) (current : Option ℕ) (depth room more_room : ℕ) (key : ℕ) (leaving : Entry)
    → IsSound s xs current depth room → get s key ≡ Some leaving → is_current current key ≡ false
    → is_among xs key ≡ true → Updates s t key None → slab_len t + 1 ≡ slab_len s → t.capacity ≡ s.capacity
    → more_room ≡ room → IsSound t (filter (λ a. keeps a key) (lowered s leaving key false xs)) current depth more_room
waiting_left_sound s t xs current depth room more_room key leaving sound found waits live updates fewer
    same_room same_more = remove_sound s t (lowered s leaving key false xs) current depth room more_room key
    (kept_lowered s current key leaving xs [] sound.kept sound.apart found waits)
    (apart_lowered s leaving key xs false sound.apart)
    (current_lowered s leaving key xs current sound.current_is_live) waits
    (among_lowered s leaving key xs false key ∙ live) (sound.counted ∙ sym (length_lowered s leaving key xs false))
    (rw (length_lowered s leaving key xs false) sound.fits) sound.entries_fit sound.arrivals_fit updates fewer same_room
    same_more

pub waiting_left :
    (s t : Slab Entry) (xs : List Arrival) (current : Option ℕ) (depth room : ℕ) (key : ℕ) (leaving : Entry)
    → IsSound s xs current depth room → get s key ≡ Some leaving → is_current current key ≡ false → Updates s t key None
    → queued_at t (filter (λ a. keeps a key) (lowered s leaving key false xs)) ≡ without_key (queued_at s xs) key
waiting_left s t xs current depth room key leaving sound found waits updates =
    queued_without s t key (Some key) current (lowered s leaving key false xs) [] updates.others
    (kept_lowered s current key leaving xs [] sound.kept sound.apart found waits)
    ∙ ap (λ (q : List Queued). without_key q key) (queued_lowered s leaving key xs false)

pub one_fewer : (s t : Slab Entry) (xs ys : List Arrival) (current now : Option ℕ) (depth room more_room : ℕ)
    → IsSound s xs current depth room → IsSound t ys now depth more_room → slab_len t + 1 ≡ slab_len s
    → length (queued_at t ys) + 1 ≡ length (queued_at s xs)
one_fewer s t xs ys current now depth room more_room sound left fewer =
    let l = length_queued s None current xs [] sound.kept in
    let m = length_queued t None now ys [] left.kept in
    let n = sound.counted in
    let o = left.counted in
    omega arith

-- The commands of one initiator leave one after the other.
use Rattle.std.proofs.Common.{◌≡◌, ℕ, Bool, true, false, List, [], ◌∷◌, Option, Some, None, refl, ap, sym, subst, ◌∙◌}
use Rattle.std.proofs.Common.{eq-eqb}
use Rattle.std.specs.Prelude.{◌==◌, is_some, if◌then◌else◌}
use Rattle.std.proofs.lemmas.Bool.{eqb-true, true≢false}
use Rattle.slab.specs.Slab.{Slab, get}
use Rattle.array_model.specs.declared.entries.Entry.{Entry}
use Rattle.tag_queue.specs.declared.those.Those.{Those}
use Rattle.tag_queue.specs.declared.arrivals.Arrival.{Arrival}
use Rattle.tag_queue.specs.Queue.{Queued, QueueState, queue_without, queue_cleared_of, current_without, current_among}
use Rattle.tag_queue.specs.Queue.{has_key, without_key, is_of, has_any, without_those_of}
use Rattle.tag_queue.specs.Stored.{queued_if, queued_at, is_out, before_with, AreKept, IsAmong, AreOf, first_of}
use Rattle.tag_queue.proofs.Scans.{some_same}
use Rattle.tag_queue.proofs.Sound.{has_key_queued, none_some}
use Rattle.tag_queue.proofs.Chosen.{some_none}

pub are_of : (s : Slab Entry) (leaving current : Option ℕ) (who : Those)
    (key : ℕ) (p : Entry) (xs : List Arrival) (before : List Entry)
    → AreKept s leaving current before xs → get s key ≡ Some p → is_of who p ≡ true → AreOf who key (queued_at s xs)
are_of s leaving current who key p [] before kept found theirs = tt
are_of s leaving current who key p (a ∷ xs) before kept found theirs =
    subst (λ (slot : Option Entry). AreOf who key (queued_if a.key slot (queued_at s xs))) (sym kept.1) (
      λ same. ap (is_of who) (some_same kept.0 p (sym kept.1 ∙ ap (get s) (eqb-true a.key key same) ∙ found)) ∙ theirs,
      are_of s leaving current who key p xs (before_with (is_out leaving current a.key) before kept.0) kept.3 found
          theirs,
    )

pub without_first : (who : Those) (key : ℕ) (queued : List Queued) → AreOf who key queued
    → without_those_of who (without_key queued key) ≡ without_those_of who queued
without_first who key [] theirs = refl
without_first who key (q ∷ queued) theirs = go (q.key == key) refl (without_first who key queued theirs.1)
  where
    go : (b : Bool) → (q.key == key) ≡ b → without_those_of who (without_key queued key) ≡ without_those_of who queued
        → without_those_of who (if b then without_key queued key else q ∷ without_key queued key)
        ≡ (if is_of who q.entry then without_those_of who queued else q ∷ without_those_of who queued)
    go true same rest = rest ∙ sym
        (ap (λ (r : Bool). if r then without_those_of who queued else q ∷ without_those_of who queued) (theirs.0 same))
    go false other rest = ap (λ (l : List Queued). if is_of who q.entry then l else q ∷ l) rest

-- ---- the current one

no_key_without : (who : Those) (key : ℕ) (queued : List Queued) → AreOf who key queued
    → has_key (without_those_of who queued) key ≡ false
no_key_without who key [] theirs = refl
no_key_without who key (q ∷ queued) theirs = go (is_of who q.entry) refl (no_key_without who key queued theirs.1)
  where
    at : (b : Bool) → (q.key == key) ≡ b → is_of who q.entry ≡ false → has_key (without_those_of who queued) key ≡ false
        → (if b then true else has_key (without_those_of who queued) key) ≡ false
    at true same kept rest = absurd (true≢false (sym (theirs.0 same) ∙ kept))
    at false other kept rest = rest

    go : (b : Bool) → is_of who q.entry ≡ b → has_key (without_those_of who queued) key ≡ false
        → has_key (if b then without_those_of who queued else q ∷ without_those_of who queued) key ≡ false
    go true theirs_is rest = rest
    go false kept rest = at (q.key == key) refl kept rest

pub current_first : (who : Those) (current : Option ℕ) (key : ℕ) (queued : List Queued) → AreOf who key queued
    → current_among (without_those_of who queued) (current_without current key)
    ≡ current_among (without_those_of who queued) current
current_first who None key queued theirs = refl
current_first who (Some c) key queued theirs = go (key == c) refl
  where
    go : (b : Bool) → (key == c) ≡ b → current_among (without_those_of who queued) (if b then None else Some c)
        ≡ current_among (without_those_of who queued) (Some c)
    go false other = refl
    go true same = sym (ap (λ (b : Bool). if b then Some c else None)
        (ap (has_key (without_those_of who queued)) (sym (eqb-true key c same)) ∙ no_key_without who key queued theirs))

-- ---- where none is left

pub all_stay : (who : Those) (queued : List Queued) → first_of queued who ≡ None → without_those_of who queued ≡ queued
all_stay who [] none = refl
all_stay who (q ∷ queued) none = go (is_of who q.entry) none (all_stay who queued)
  where
    go : (b : Bool) → (if b then Some q.key else first_of queued who) ≡ None
        → (first_of queued who ≡ None → without_those_of who queued ≡ queued)
        → (if b then without_those_of who queued else q ∷ without_those_of who queued) ≡ q ∷ queued
    go true e rest = absurd (none_some q.key (sym e))
    go false e rest = ap (λ (l : List Queued). q ∷ l) (rest e)

pub current_stays : (s : Slab Entry) (xs : List Arrival) (leaving now current : Option ℕ) (before : List Entry)
    → AreKept s leaving now before xs → IsAmong xs current → current_among (queued_at s xs) current ≡ current
current_stays s xs leaving now None before kept live = refl
current_stays s xs leaving now (Some c) before kept live =
    ap (λ (b : Bool). if b then Some c else None) (has_key_queued s c leaving now xs before kept ∙ live)

-- ---- where there is a first one

pub first_live : (queued : List Queued) (who : Those) (key : ℕ) → first_of queued who ≡ Some key
    → has_key queued key ≡ true
first_live [] who key found = absurd (none_some key found)
first_live (q ∷ queued) who key found = go (is_of who q.entry) found (first_live queued who key)
  where
    go : (b : Bool) → (if b then Some q.key else first_of queued who) ≡ Some key
        → (first_of queued who ≡ Some key → has_key queued key ≡ true)
        → (if q.key == key then true else has_key queued key) ≡ true
    go true e rest =
        ap (λ (b : Bool). if b then true else has_key queued key) (eq-eqb q.key key (some_same q.key key e))
    go false e rest = either (q.key == key) (rest e)
      where
        either : (b : Bool) → has_key queued key ≡ true → (if b then true else has_key queued key) ≡ true
        either true h = refl
        either false h = h

pub first_entry :
    (s : Slab Entry) (leaving current : Option ℕ) (who : Those) (key : ℕ) (xs : List Arrival) (before : List Entry)
    → AreKept s leaving current before xs → first_of (queued_at s xs) who ≡ Some key
    → (p : Entry) × (get s key ≡ Some p) × (is_of who p ≡ true)
first_entry s leaving current who key [] before kept found = absurd (none_some key found)
first_entry s leaving current who key (a ∷ xs) before kept found = go kept.0 kept.1 (is_of who kept.0) refl
    (ap (λ (slot : Option Entry). first_of (queued_if a.key slot (queued_at s xs)) who) (sym kept.1) ∙ found)
    (first_entry s leaving current who key xs (before_with (is_out leaving current a.key) before kept.0) kept.3)
  where
    go : (p : Entry) → get s a.key ≡ Some p → (b : Bool) → is_of who p ≡ b
        → (if is_of who p then Some a.key else first_of (queued_at s xs) who) ≡ Some key
        → (first_of (queued_at s xs) who ≡ Some key → (q : Entry) × (get s key ≡ Some q) × (is_of who q ≡ true))
        → (q : Entry) × (get s key ≡ Some q) × (is_of who q ≡ true)
    go p at true theirs e rest =
        let same : a.key ≡ key = some_same a.key key
        (sym (ap (λ (b : Bool). if b then Some a.key else first_of (queued_at s xs) who) theirs) ∙ e) in
        (p, ap (get s) (sym same) ∙ at, theirs)
    go p at false theirs e rest =
        rest (sym (ap (λ (b : Bool). if b then Some a.key else first_of (queued_at s xs) who) theirs) ∙ e)

pub cleared_without : (q : QueueState) (who : Those) (key : ℕ) → AreOf who key q.arrived
    → queue_cleared_of (queue_without q key) who ≡ queue_cleared_of q who
cleared_without q who key theirs =
    let first = without_first who key q.arrived theirs in
    (λ i. record {
      depth = q.depth;
      keys = q.keys;
      arrived = first i;
      current = current_among (first i) (current_without q.current key);
      hold = q.hold;
    }) ∙ (λ i. record {
      depth = q.depth;
      keys = q.keys;
      arrived = without_those_of who q.arrived;
      current = current_first who q.current key q.arrived theirs i;
      hold = q.hold;
    })

pub any_first : (who : Those) (queued : List Queued) → is_some (first_of queued who) ≡ has_any who queued
any_first who [] = refl
any_first who (q ∷ queued) = go (is_of who q.entry) (any_first who queued)
  where
    go : (x : Bool) → is_some (first_of queued who) ≡ has_any who queued
        → is_some (if x then Some q.key else first_of queued who) ≡ (if x then true else has_any who queued)
    go true h = refl
    go false h = h

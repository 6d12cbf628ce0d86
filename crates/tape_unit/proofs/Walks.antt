-- Walks over blocks and filemarks, an object at a time.
use Rattle.std.proofs.Common.{ℕ, zero, suc, ◌≡◌, ◌+◌, ◌-◌, ◌<◌, ◌≤◌, Bool, true, false, List, [], ◌∷◌, ◌∙◌, refl, sym}
use Rattle.std.proofs.Common.{ap, arith}
use Rattle.std.proofs.Common.{length, drop, get_or, reverse}
use Rattle.std.proofs.lemmas.List.{drop_more, drop_all, get_or-reverse, length-reverse}
use Rattle.array_model.specs.declared.walk.Walk.{Walk}
use Rattle.array_model.specs.declared.walk.Stop.{Stop}
use Rattle.array_model.specs.declared.walk.Stop.TheVariants as stops
use Rattle.tape_unit.specs.declared.stored.StoredObject.{StoredObject}
use Rattle.array_model.specs.Reels.{over_blocks, over_filemarks, stopped, moved_one, passed_one}
use Rattle.tape_unit.specs.Stored.{marks_in, seen}

-- ---- which objects are filemarks

pub length_marks : (stored : List StoredObject) → length (marks_in stored) ≡ length stored
length_marks [] = refl
length_marks (o ∷ stored) = ap suc (length_marks stored)

pub mark_ahead : (stored : List StoredObject) (k : ℕ) (d : StoredObject) → k < length stored
    → (get_or stored k d).is_filemark ≡ get_or (marks_in stored) k false
mark_ahead [] k d l = absurd (omega (arith, l))
mark_ahead (o ∷ stored) zero d l = refl
mark_ahead (o ∷ stored) (suc k) d l = mark_ahead stored k d (omega (arith, l))

pub mark_behind : (stored : List StoredObject) (k : ℕ) (d : StoredObject) → k < length stored
    → (get_or stored (length stored - 1 - k) d).is_filemark ≡ get_or (reverse (marks_in stored)) k false
mark_behind stored k d l =
    let all : length (marks_in stored) ≡ length stored = length_marks stored in
    mark_ahead stored (length stored - 1 - k) d (omega arith)
    ∙ (λ i. get_or (marks_in stored) (sym all i - 1 - k) false)
    ∙ sym (get_or-reverse (marks_in stored) k false (omega arith))

pub length_seen : (stored : List StoredObject) (forward : Bool) → length (seen forward stored) ≡ length stored
length_seen stored true = length_marks stored
length_seen stored false = length-reverse (marks_in stored) ∙ length_marks stored

-- ---- a walk with so many before it

abbrev pub walk_after : ℕ → ℕ → Walk → Walk
walk_after moved passed w = record { moved = moved + w.moved; passed = passed + w.passed; stop = w.stop }

none_after : (moved passed : ℕ) (stop : Stop) → walk_after moved passed (stopped 0 stop)
    ≡ record { moved = moved; passed = passed; stop = stop }
none_after moved passed stop =
    let a : moved + 0 ≡ moved = omega arith in
    let b : passed + 0 ≡ passed = omega arith in
    λ i. record { moved = a i; passed = b i; stop = stop }

one_after : (moved passed : ℕ) (stop : Stop) → walk_after moved passed (stopped 1 stop)
    ≡ record { moved = moved; passed = passed + 1; stop = stop }
one_after moved passed stop =
    let a : moved + 0 ≡ moved = omega arith in
    λ i. record { moved = a i; passed = passed + 1; stop = stop }

moved_after : (moved passed : ℕ) (w : Walk)
    → walk_after moved passed (moved_one w) ≡ walk_after (moved + 1) (passed + 1) w
moved_after moved passed w =
    let a : moved + suc w.moved ≡ (moved + 1) + w.moved = omega arith in
    let b : passed + suc w.passed ≡ (passed + 1) + w.passed = omega arith in
    λ i. record { moved = a i; passed = b i; stop = w.stop }

passed_after : (moved passed : ℕ) (w : Walk) → walk_after moved passed (passed_one w) ≡ walk_after moved (passed + 1) w
passed_after moved passed w =
    let b : passed + suc w.passed ≡ (passed + 1) + w.passed = omega arith in
    λ i. record { moved = moved + w.moved; passed = b i; stop = w.stop }

pub from_start : (w : Walk) → walk_after 0 0 w ≡ w
from_start w =
    let a : 0 + w.moved ≡ w.moved = omega arith in
    let b : 0 + w.passed ≡ w.passed = omega arith in
    λ i. record { moved = a i; passed = b i; stop = w.stop }

-- ---- over blocks

abbrev pub blocks_left : List Bool → ℕ → ℕ → Walk
blocks_left marks n p = walk_after p p (over_blocks (drop p marks) (n - p))

pub blocks_counted : (marks : List Bool) (n p : ℕ) → n ≤ p
    → blocks_left marks n p ≡ record { moved = p; passed = p; stop = stops.Count }
blocks_counted marks n p h =
    let none : n - p ≡ 0 = omega arith in
    (λ i. walk_after p p (over_blocks (drop p marks) (none i))) ∙ none_after p p stops.Count

pub blocks_edge : (marks : List Bool) (n p : ℕ) → p < n → length marks ≤ p
    → blocks_left marks n p ≡ record { moved = p; passed = p; stop = stops.Edge }
blocks_edge marks n p h l =
    let m : ℕ = n - (p + 1) in
    let left : n - p ≡ suc m = omega arith in
    (λ i. walk_after p p (over_blocks (drop_all p marks l i) (left i))) ∙ none_after p p stops.Edge

pub blocks_filemark : (marks : List Bool) (n p : ℕ) → p < n → p < length marks → get_or marks p false ≡ true
    → blocks_left marks n p ≡ record { moved = p; passed = p + 1; stop = stops.Filemark }
blocks_filemark marks n p h l e =
    let m : ℕ = n - (p + 1) in
    let left : n - p ≡ suc m = omega arith in
    (λ i. walk_after p p (over_blocks (drop_more marks p false l i) (left i)))
    ∙ (λ i. walk_after p p (over_blocks (e i ∷ drop (p + 1) marks) (suc m)))
    ∙ one_after p p stops.Filemark

pub blocks_more : (marks : List Bool) (n p : ℕ) → p < n → p < length marks → get_or marks p false ≡ false
    → blocks_left marks n (p + 1) ≡ blocks_left marks n p
blocks_more marks n p h l e =
    let m : ℕ = n - (p + 1) in
    let left : n - p ≡ suc m = omega arith in
    sym ((λ i. walk_after p p (over_blocks (drop_more marks p false l i) (left i)))
    ∙ (λ i. walk_after p p (over_blocks (e i ∷ drop (p + 1) marks) (suc m)))
    ∙ moved_after p p (over_blocks (drop (p + 1) marks) m))

-- ---- over filemarks

abbrev pub filemarks_left : List Bool → ℕ → ℕ → ℕ → Walk
filemarks_left marks n m p = walk_after m p (over_filemarks (drop p marks) (n - m))

pub filemarks_counted : (marks : List Bool) (n m p : ℕ) → n ≤ m
    → filemarks_left marks n m p ≡ record { moved = m; passed = p; stop = stops.Count }
filemarks_counted marks n m p h =
    let none : n - m ≡ 0 = omega arith in
    (λ i. walk_after m p (over_filemarks (drop p marks) (none i))) ∙ none_after m p stops.Count

pub filemarks_edge : (marks : List Bool) (n m p : ℕ) → m < n → length marks ≤ p
    → filemarks_left marks n m p ≡ record { moved = m; passed = p; stop = stops.Edge }
filemarks_edge marks n m p h l =
    let k : ℕ = n - (m + 1) in
    let left : n - m ≡ suc k = omega arith in
    (λ i. walk_after m p (over_filemarks (drop_all p marks l i) (left i))) ∙ none_after m p stops.Edge

pub filemarks_more : (marks : List Bool) (n m p : ℕ) → m < n → p < length marks → get_or marks p false ≡ true
    → filemarks_left marks n (m + 1) (p + 1) ≡ filemarks_left marks n m p
filemarks_more marks n m p h l e =
    let k : ℕ = n - (m + 1) in
    let left : n - m ≡ suc k = omega arith in
    sym ((λ i. walk_after m p (over_filemarks (drop_more marks p false l i) (left i)))
    ∙ (λ i. walk_after m p (over_filemarks (e i ∷ drop (p + 1) marks) (suc k)))
    ∙ moved_after m p (over_filemarks (drop (p + 1) marks) k))

pub filemarks_past : (marks : List Bool) (n m p : ℕ) → m < n → p < length marks → get_or marks p false ≡ false
    → filemarks_left marks n m (p + 1) ≡ filemarks_left marks n m p
filemarks_past marks n m p h l e =
    let k : ℕ = n - (m + 1) in
    let left : n - m ≡ suc k = omega arith in
    sym ((λ i. walk_after m p (over_filemarks (drop_more marks p false l i) (left i)))
    ∙ (λ i. walk_after m p (over_filemarks (e i ∷ drop (p + 1) marks) (suc k)))
    ∙ passed_after m p (over_filemarks (drop (p + 1) marks) (suc k))
    ∙ (λ i. walk_after m (p + 1) (over_filemarks (drop (p + 1) marks) (sym left i))))

-- ---- how far a walk comes

pub blocks_within : (marks : List Bool) (n : ℕ) → (over_blocks marks n).passed ≤ length marks
blocks_within marks zero = omega arith
blocks_within [] (suc n) = omega arith
blocks_within (true ∷ marks) (suc n) = omega arith
blocks_within (false ∷ marks) (suc n) = omega (arith, blocks_within marks n)

pub blocks_most : (marks : List Bool) (n : ℕ) → (over_blocks marks n).moved ≤ n
blocks_most marks zero = omega arith
blocks_most [] (suc n) = omega arith
blocks_most (true ∷ marks) (suc n) = omega arith
blocks_most (false ∷ marks) (suc n) = omega (arith, blocks_most marks n)

pub filemarks_within : (marks : List Bool) (n : ℕ) → (over_filemarks marks n).passed ≤ length marks
filemarks_within marks zero = omega arith
filemarks_within [] (suc n) = omega arith
filemarks_within (true ∷ marks) (suc n) = omega (arith, filemarks_within marks n)
filemarks_within (false ∷ marks) (suc n) = omega (arith, filemarks_within marks (suc n))

pub filemarks_most : (marks : List Bool) (n : ℕ) → (over_filemarks marks n).moved ≤ n
filemarks_most marks zero = omega arith
filemarks_most [] (suc n) = omega arith
filemarks_most (true ∷ marks) (suc n) = omega (arith, filemarks_most marks n)
filemarks_most (false ∷ marks) (suc n) = omega (arith, filemarks_most marks (suc n))

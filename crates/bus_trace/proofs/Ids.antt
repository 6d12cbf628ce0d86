-- ID bits on the data lines.
use Rattle.std.proofs.Common.{inl, inr, zero, suc, ℕ, ◌≡◌, ◌≢◌, ◌+◌, ◌%◌, ◌^◌, ◌<◌, ◌≤◌, ◌==◌, ◌||◌, ◌&&◌, Bool, true}
use Rattle.std.proofs.Common.{false, refl, arith, ap, sym, ◌∙◌, leb, not}
use Rattle.std.specs.Int.{bit_at}
use Rattle.std.specs.Int.RustNames.{count_ones}
use Rattle.std.proofs.Math.Nat.{pow-le-pow_right, mod-lt}
use Rattle.std.proofs.lemmas.Nat.{pow_pos}
use Rattle.std.proofs.lemmas.Nat.Bits.{bit_at-lt, bit_at-pow_same, bit_at-pow_other, bit_at_above, same_from_bits}
use Rattle.std.proofs.lemmas.Bool.{cases_eq, cases_lt, le-leb, false≢true, and_parts, ne_eqb, eq-eqb}
use Rattle.std.proofs.lemmas.Bool.Decides.{nat_tests}
use Rattle.bus_trace.specs.LineSet.{LineSet, union, id_set, ids_set, ids_in, has_id, has_id_above, has_odd_parity}
use Rattle.bus_trace.proofs.Bits.{or_bit, bit_at_mod}
use Rattle.bus_base.proofs.Tests.{or_second}

-- a device's ID bit in a union
pub has_id-union : (s t : LineSet) (k : ℕ) → has_id (union s t) k ≡ (has_id s k || has_id t k)
has_id-union s t k = or_bit s.data_bits t.data_bits k

-- the ID bit of a device is that of no other
pub has_id-id_set : (d k : ℕ) → has_id (id_set d) k ≡ (d == k)
has_id-id_set d k =
    elim (cases_eq d k) [
      | inl e ↦
          let bit : bit_at (2 ^ d) k ≡ 1 = ap (λ i. bit_at (2 ^ d) i) (sym e) ∙ bit_at-pow_same d in
          ap (λ b. b == 1) bit ∙ sym (eq-eqb d k e)
      | inr ne ↦ ap (λ b. b == 1) (bit_at-pow_other d k (λ x. ne (sym x))) ∙ sym (ne_eqb d k ne)
    ]

-- whether a test holds below n, and below m and n
pub all_below : (ℕ → Bool) → ℕ → Bool
all_below f zero = true
all_below f (suc n) = all_below f n && f n

pub each_below : (f : ℕ → Bool) (n : ℕ) → all_below f n ≡ true → (k : ℕ) → k < n → f k ≡ true
unfolding all_below
each_below f zero e k lt = absurd (omega arith)
each_below f (suc n) e k lt =
    let h = and_parts (all_below f n) (f n) e in
    elim (cases_eq k n) [
      | inl same ↦ ap f same ∙ h.1
      | inr ne ↦ each_below f n h.0 k (omega arith)
    ]

each_pair : (f : ℕ → ℕ → Bool) (n : ℕ) → all_below (λ a. all_below (f a) n) n ≡ true → (a b : ℕ) → a < n → b < n
    → f a b ≡ true
each_pair f n e a b la lb = each_below (f a) n (each_below (λ a. all_below (f a) n) n e a la) b lb

-- what holds of two different IDs: two ones, and odd parity with DB(P)
abbrev good_pair : ℕ → ℕ → Bool
good_pair a b = (a == b) || ((ids_in (ids_set a b) == 2) && has_odd_parity (ids_set a b))

good_pairs : (a b : ℕ) → a < 8 → b < 8 → good_pair a b ≡ true
unfolding all_below count_ones
good_pairs = each_pair good_pair 8 refl

good_parts : (q p o : Bool) → (q || (p && o)) ≡ true → q ≡ false → (p ≡ true) × (o ≡ true)
good_parts true p o e n = absurd (false≢true (sym n))
good_parts false p o e n = and_parts p o e

two_from : (n : ℕ) → (n == 2) ≡ true → n ≡ 2
two_from n e = grind (arith, nat_tests)

-- a selection shows two IDs
pub ids_in-ids_set : (a b : ℕ) → a < 8 → b < 8 → a ≢ b → ids_in (ids_set a b) ≡ 2
ids_in-ids_set a b la lb ne = two_from _ (good_parts (a == b) (ids_in (ids_set a b) == 2) (has_odd_parity (ids_set a b))
    (good_pairs a b la lb) (ne_eqb a b ne)).0

-- with odd parity
pub ids_odd : (a b : ℕ) → a < 8 → b < 8 → a ≢ b → has_odd_parity (ids_set a b) ≡ true
ids_odd a b la lb ne = (good_parts (a == b) (ids_in (ids_set a b) == 2) (has_odd_parity (ids_set a b))
    (good_pairs a b la lb) (ne_eqb a b ne)).1

abbrev same_test : Bool → Bool → Bool
same_test true q = q
same_test false q = not q

-- and the IDs are those two
abbrev shows : ℕ → ℕ → ℕ → Bool
shows a b k = (a == b) || same_test (has_id (ids_set a b) k) ((a == k) || (b == k))

same_from : (p q : Bool) → same_test p q ≡ true → p ≡ q
same_from true q e = sym e
same_from false true e = e
same_from false false e = refl

shown : (k a b : ℕ) → k < 8 → a < 8 → b < 8 → shows a b k ≡ true
unfolding all_below
shown k a b lk la lb =
    each_below (λ k. shows a b k) 8 (each_pair (λ a b. all_below (λ k. shows a b k) 8) 8 refl a b la lb) k lk

pub has_id-ids_set : (a b k : ℕ) → a < 8 → b < 8 → k < 8 → a ≢ b → has_id (ids_set a b) k ≡ ((a == k) || (b == k))
has_id-ids_set a b k la lb lk ne = same_from _ _ (or_second (a == b)
    (same_test (has_id (ids_set a b) k) ((a == k) || (b == k))) (shown k a b lk la lb) (ne_eqb a b ne))

pub bit_from : (b : ℕ) → (b == 1) ≡ true → b ≡ 1
bit_from b e = grind (arith, nat_tests)

pub bit_none : (b : ℕ) → b < 2 → (b == 1) ≡ false → b ≡ 0
bit_none b h e = grind (arith, nat_tests)

pow_le : (i j : ℕ) → i ≤ j → 2 ^ i ≤ 2 ^ j
pow_le i j h = pow-le-pow_right (omega arith) h

-- an ID bit above that of a device is seen
pub above_on : (s : LineSet) (d k : ℕ) → d < k → k < 8 → has_id s k ≡ true → has_id_above s d ≡ true
above_on s d k dk lk e =
    let n = s.data_bits % 256 in
    let bit : bit_at n k ≡ 1 = sym (bit_at_mod s.data_bits 8 k lk) ∙ bit_from _ e in
    let big : 2 ^ k ≤ n =
    elim (cases_lt n (2 ^ k)) [
      | inl low ↦ let no = bit_at_above n k k low (omega arith) in absurd (omega arith)
      | inr high ↦ high
    ] in
    let p = pow_le (d + 1) k (omega arith) in
    le-leb (2 ^ (d + 1)) n (omega arith)

low_only : (n j : ℕ) → ((k : ℕ) → j ≤ k → bit_at n k ≡ 0) → n < 2 ^ j
low_only n j h =
    let bound = mod-lt n (pow_pos j) in
    let e : n ≡ n % 2 ^ j =
    same_from_bits n (n % 2 ^ j) (λ i.
    elim (cases_lt i j) [
      | inl low ↦ bit_at_mod n j i low
      | inr high ↦ h i high ∙ sym (bit_at_above (n % 2 ^ j) j i bound high)
    ]) in
    omega arith

leb_no : (m n : ℕ) → n < m → leb m n ≡ false
leb_no m n h = grind (arith, nat_tests)

-- and where there is none, none is seen
pub above_off : (s : LineSet) (d : ℕ) → ((k : ℕ) → d < k → k < 8 → has_id s k ≡ false) → has_id_above s d ≡ false
above_off s d h =
    let n = s.data_bits % 256 in
    let small : n < 2 ^ 8 = omega arith in
    let zeros : (k : ℕ) → d + 1 ≤ k → bit_at n k ≡ 0 = λ k le.
    elim (cases_lt k 8) [
      | inl lk ↦ sym (bit_at_mod s.data_bits 8 k lk) ∙ bit_none _ (bit_at-lt _ k) (h k (omega arith) lk)
      | inr high ↦ bit_at_above n 8 k small high
    ] in
    leb_no (2 ^ (d + 1)) n (low_only n (d + 1) zeros)

-- What is on a bus, by what its devices drive.
use Rattle.std.proofs.Common.{inl, inr, ℕ, zero, suc, ◌≡◌, ◌≢◌, ◌<◌, ◌^◌, ◌==◌, Bool, true, false, ◌||◌, ◌∙◌, refl, sym}
use Rattle.std.proofs.Common.{ap, arith, ltb, List}
use Rattle.std.specs.Int.{bit_at}
use Rattle.std.specs.Int.Bits.{or_zero_r}
use Rattle.std.proofs.lemmas.Bool.{cases_eq, ltb-true, ltb-false}
use Rattle.std.proofs.lemmas.Nat.{or_lt, or_comm, pow_pos}
use Rattle.std.proofs.lemmas.Nat.Bits.{bit_at-lt, bit_at-zero}
use Rattle.std.proofs.Math.Bool as Bools
use Rattle.bus_trace.specs.LineSet.{LineSet, none, union}
use Rattle.bus_trace.specs.View.{union_below}
use Rattle.bus_trace.specs.declared.rows.Row.{Row}
use Rattle.bus_trace.specs.Trace.{drives, bus}
use Rattle.bus_trace.proofs.Bits.{or_bit}
use Rattle.bus_base.proofs.Tests.{or_true, or_false}
use Rattle.bus_trace.proofs.Ids.{bit_from, bit_none}

-- nothing more
pub union-none : (s : LineSet) → union s none ≡ s
union-none s = λ i. record {
  data_bits = or_zero_r s.data_bits i;
  bsy = or_false s.bsy i;
  sel = or_false s.sel i;
  cd = or_false s.cd i;
  io = or_false s.io i;
  msg = or_false s.msg i;
  req = or_false s.req i;
  ack = or_false s.ack i;
  atn = or_false s.atn i;
  rst = or_false s.rst i;
}

pub none-union : (s : LineSet) → union none s ≡ s
none-union s = refl

pub union_comm : (a b : LineSet) → union a b ≡ union b a
union_comm a b = λ i. record {
  data_bits = or_comm a.data_bits b.data_bits i;
  bsy = Bools.or_comm a.bsy b.bsy i;
  sel = Bools.or_comm a.sel b.sel i;
  cd = Bools.or_comm a.cd b.cd i;
  io = Bools.or_comm a.io b.io i;
  msg = Bools.or_comm a.msg b.msg i;
  req = Bools.or_comm a.req b.req i;
  ack = Bools.or_comm a.ack b.ack i;
  atn = Bools.or_comm a.atn b.atn i;
  rst = Bools.or_comm a.rst b.rst i;
}

-- devices that drive the same make the same bus
pub below_same : (f g : ℕ → LineSet) (n : ℕ) → ((d : ℕ) → d < n → f d ≡ g d) → union_below f n ≡ union_below g n
unfolding union_below
below_same f g zero h = refl
below_same f g (suc n) h =
    let low = below_same f g n (λ d lt. h d (omega arith)) in
    λ i. union (low i) (h n (omega arith) i)

-- no device below n drives anything
pub below_none : (f : ℕ → LineSet) (n : ℕ) → ((d : ℕ) → d < n → f d ≡ none) → union_below f n ≡ none
unfolding union_below
below_none f zero h = refl
below_none f (suc n) h =
    let e = below_none f n (λ d lt. h d (omega arith)) in
    λ i. union (e i) (h n (omega arith) i)

-- one device below n drives
pub below_one : (f : ℕ → LineSet) (n a : ℕ) → a < n → ((d : ℕ) → d < n → d ≢ a → f d ≡ none) → union_below f n ≡ f a
unfolding union_below
below_one f zero a lt h = absurd (omega arith)
below_one f (suc n) a lt h =
    elim (cases_eq a n) [
      | inl e ↦
          let low = below_none f n (λ d l. h d (omega arith) (omega arith)) in
          let top : f n ≡ f a = ap f (sym e) in
          λ i. union (low i) (top i)
      | inr ne ↦
          let below = below_one f n a (omega arith) (λ d l. h d (omega arith)) in
          let top = h n (omega arith) (λ x. ne (sym x)) in
          let e : union (union_below f n) (f n) ≡ union (f a) none = λ i. union (below i) (top i) in
          e ∙ union-none (f a)
    ]

-- two devices a < b below n drive
pub below_two : (f : ℕ → LineSet) (n a b : ℕ) → a < b → b < n
    → ((d : ℕ) → d < n → d ≢ a → d ≢ b → f d ≡ none) → union_below f n ≡ union (f a) (f b)
unfolding union_below
below_two f zero a b ab bn h = absurd (omega arith)
below_two f (suc n) a b ab bn h =
    elim (cases_eq b n) [
      | inl e ↦
          let low = below_one f n a (omega arith) (λ d l ne. h d (omega arith) ne (omega arith)) in
          let top : f n ≡ f b = ap f (sym e) in
          λ i. union (low i) (top i)
      | inr ne ↦
          let below = below_two f n a b ab (omega arith) (λ d l. h d (omega arith)) in
          let top = h n (omega arith) (omega arith) (λ x. ne (sym x)) in
          let e : union (union_below f n) (f n) ≡ union (union (f a) (f b)) none = λ i. union (below i) (top i) in
          e ∙ union-none (union (f a) (f b))
    ]

-- two devices drive, in either order
pub below_pair : (f : ℕ → LineSet) (n a b : ℕ) → a ≢ b → a < n → b < n
    → ((d : ℕ) → d < n → d ≢ a → d ≢ b → f d ≡ none) → union_below f n ≡ union (f a) (f b)
below_pair f n a b ne la lb h = go (ltb a b) refl
  where
    go : (q : Bool) → ltb a b ≡ q → union_below f n ≡ union (f a) (f b)
    go true e = let lt = ltb-true a b e in below_two f n a b lt lb h
    go false e =
        let le = ltb-false a b e in
        below_two f n b a (omega arith) la (λ d l x y. h d l y x) ∙ union_comm (f b) (f a)

-- a line that a device drives is true
pub below_on : (on : LineSet → Bool) → ((a b : LineSet) → on (union a b) ≡ (on a || on b)) → (f : ℕ → LineSet) (n d : ℕ)
    → d < n → on (f d) ≡ true → on (union_below f n) ≡ true
unfolding union_below
below_on on law f zero d lt e = absurd (omega arith)
below_on on law f (suc n) d lt e =
    elim (cases_eq d n) [
      | inl same ↦
          let top : on (f n) ≡ true = ap (λ (k : ℕ). on (f k)) (sym same) ∙ e in
          law (union_below f n) (f n) ∙ ap (λ (p : Bool). on (union_below f n) || p) top
          ∙ or_true (on (union_below f n))
      | inr ne ↦
          let below = below_on on law f n d (omega arith) e in
          law (union_below f n) (f n) ∙ ap (λ (p : Bool). p || on (f n)) below
    ]

-- a line that no device drives is false
pub below_off : (on : LineSet → Bool) → ((a b : LineSet) → on (union a b) ≡ (on a || on b)) → on none ≡ false
    → (f : ℕ → LineSet) (n : ℕ) → ((d : ℕ) → d < n → on (f d) ≡ false) → on (union_below f n) ≡ false
unfolding union_below
below_off on law start f zero h = start
below_off on law start f (suc n) h =
    let low = below_off on law start f n (λ d lt. h d (omega arith)) in
    law (union_below f n) (f n) ∙ (λ i. low i || h n (omega arith) i)

-- no number on the data lines is above those of all devices
pub below_data : (f : ℕ → LineSet) (n k : ℕ) → ((d : ℕ) → d < n → (f d).data_bits < 2 ^ k)
    → (union_below f n).data_bits < 2 ^ k
unfolding union_below
below_data f zero k h = pow_pos k
below_data f (suc n) k h = or_lt k _ _ (below_data f n k (λ d lt. h d (omega arith))) (h n (omega arith))

-- whether a data line is true
abbrev pub data_on : ℕ → LineSet → Bool
data_on k s = bit_at s.data_bits k == 1

pub data_on-union : (k : ℕ) (a b : LineSet) → data_on k (union a b) ≡ (data_on k a || data_on k b)
data_on-union k a b = or_bit a.data_bits b.data_bits k

-- the same for the bus of a trace
pub bus_none : (rows : List Row) → ((d : ℕ) → d < 8 → drives rows d ≡ none) → bus rows ≡ none
bus_none rows h = below_none (drives rows) 8 h

pub bus_one : (rows : List Row) (a : ℕ) → a < 8 → ((d : ℕ) → d < 8 → d ≢ a → drives rows d ≡ none)
    → bus rows ≡ drives rows a
bus_one rows a lt h = below_one (drives rows) 8 a lt h

pub bus_two : (rows : List Row) (a b : ℕ) → a ≢ b → a < 8 → b < 8
    → ((d : ℕ) → d < 8 → d ≢ a → d ≢ b → drives rows d ≡ none) → bus rows ≡ union (drives rows a) (drives rows b)
bus_two rows a b ne la lb h = below_pair (drives rows) 8 a b ne la lb h

pub bus_on : (on : LineSet → Bool) → ((a b : LineSet) → on (union a b) ≡ (on a || on b)) → (rows : List Row) (d : ℕ)
    → d < 8 → on (drives rows d) ≡ true → on (bus rows) ≡ true
bus_on on law rows d lt e = below_on on law (drives rows) 8 d lt e

pub bus_off : (on : LineSet → Bool) → ((a b : LineSet) → on (union a b) ≡ (on a || on b)) → on none ≡ false
    → (rows : List Row) → ((d : ℕ) → d < 8 → on (drives rows d) ≡ false) → on (bus rows) ≡ false
bus_off on law start rows h = below_off on law start (drives rows) 8 h

pub bus_data_below : (rows : List Row) (k : ℕ) → ((d : ℕ) → d < 8 → (drives rows d).data_bits < 2 ^ k)
    → (bus rows).data_bits < 2 ^ k
bus_data_below rows k h = below_data (drives rows) 8 k h

pub bus_data_on : (rows : List Row) (d k : ℕ) → d < 8 → bit_at (drives rows d).data_bits k ≡ 1
    → bit_at (bus rows).data_bits k ≡ 1
bus_data_on rows d k lt e =
    bit_from _ (below_on (data_on k) (data_on-union k) (drives rows) 8 d lt (ap (λ b. b == 1) e))

pub bus_data_off : (rows : List Row) (k : ℕ) → ((d : ℕ) → d < 8 → bit_at (drives rows d).data_bits k ≡ 0)
    → bit_at (bus rows).data_bits k ≡ 0
bus_data_off rows k h = bit_none _ (bit_at-lt _ k) (below_off (data_on k) (data_on-union k)
    (ap (λ b. b == 1) (bit_at-zero k)) (drives rows) 8 (λ d lt. ap (λ b. b == 1) (h d lt)))

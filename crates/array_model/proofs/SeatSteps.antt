-- What the step of each event leaves of a seat.
use Rattle.std.proofs.Common.{ℕ, zero, suc, ◌≡◌, ◌<◌, Bool, true, false, List, [], ◌∷◌, ◌∙◌, refl, sym, ap, arith}
use Rattle.std.proofs.Common.{Option, Some, None}
use Rattle.std.specs.Prelude.{if◌then◌else◌, not, ◌&&◌, ◌||◌, ◌==◌}
use Rattle.std.proofs.lemmas.Bool.{eqb-true}
use Rattle.std.proofs.lemmas.Bool.Decides.{nat_tests}
use Rattle.array_model.specs.Processes.{Process}
use Rattle.array_model.specs.Order.{choice}
use Rattle.array_model.specs.Units.{UnitState, Nexus, Array, is_at_unit, same_nexus, sense_of_nexus, is_held}
use Rattle.array_model.specs.Units.{unit_state_at, with_current, has_no_current, unit_after_choice, units_after_choice}
use Rattle.array_model.specs.Units.{settled_array}
use Rattle.array_model.specs.Seats
use Rattle.array_model.specs.SoundArray.{AllOfEight}
use Rattle.array_model.proofs.SeatLookups.{mapped_at, choice_map, found_target, found_unit}
use Rattle.bus_base.proofs.Tests.{or_true, eq_self, or_or}

-- ---- the choice

pub any_or : (f g : ℕ → Bool) (n : ℕ)
    → Seats.is_any_below (λ i. f i || g i) n ≡ (Seats.is_any_below f n || Seats.is_any_below g n)
any_or f g zero = refl
any_or f g (suc n) =
    (λ i. (f n || g n) || any_or f g n i) ∙ or_or (f n) (g n) (Seats.is_any_below f n) (Seats.is_any_below g n)

pub any_none : (f : ℕ → Bool) (n : ℕ) → ((i : ℕ) → f i ≡ false) → Seats.is_any_below f n ≡ false
any_none f zero h = refl
any_none f (suc n) h = (λ i. h n i || any_none f n h i)

pub any_here : (f : ℕ → Bool) (n k : ℕ) → k < n → f k ≡ true → Seats.is_any_below f n ≡ true
any_here f zero k l h = absurd (omega arith)
any_here f (suc n) k l h = go (n == k) refl (λ u. any_here f n k u h)
  where
    go : (x : Bool) → (n == k) ≡ x → (k < n → Seats.is_any_below f n ≡ true) → (f n || Seats.is_any_below f n) ≡ true
    go true z more =
        let e : n ≡ k = eqb-true n k z in
        (λ i. f (e i) || Seats.is_any_below f n) ∙ (λ i. h i || Seats.is_any_below f n)
    go false z more = let u : k < n = grind (arith, nat_tests) in (λ i. f n || more u i) ∙ or_true (f n)

held_by_one : (q : Nexus) (t n m : ℕ) → q.initiator < m
    → is_at_unit q t n ≡ Seats.is_any_below (λ i. same_nexus q (Seats.nexus_at t n i)) m
held_by_one q t n m l = go (is_at_unit q t n) refl
  where
    and_false : (a : Bool) → (a && false) ≡ false
    and_false true = refl
    and_false false = refl

    go : (x : Bool) → is_at_unit q t n ≡ x
        → is_at_unit q t n ≡ Seats.is_any_below (λ i. same_nexus q (Seats.nexus_at t n i)) m
    go true z = z
        ∙ sym (any_here (λ i. same_nexus q (Seats.nexus_at t n i)) m q.initiator l (λ i. eq_self q.initiator i && z i))
    go false z = z ∙ sym (any_none (λ i. same_nexus q (Seats.nexus_at t n i)) m
        (λ k. (λ i. (q.initiator == k) && z i) ∙ and_false (q.initiator == k)))

pub held_below : (holds : List Nexus) (t n m : ℕ) → 8 ≡ m → AllOfEight holds
    → is_held holds t n ≡ Seats.is_any_below (λ i. Seats.in_hold holds (Seats.nexus_at t n i)) m
held_below [] t n m e b = sym (any_none (λ i. false) m (λ k. refl))
held_below (q ∷ holds) t n m e b =
    let l : q.initiator < m = (let u : q.initiator < 8 = b.0 in omega arith) in
    (λ i. held_by_one q t n m l i || held_below holds t n m e b.1 i)
    ∙ sym (any_or (λ i. same_nexus q (Seats.nexus_at t n i)) (λ i. Seats.in_hold holds (Seats.nexus_at t n i)) m)

pub held_at : (holds : List Nexus) (t n : ℕ) → AllOfEight holds
    → is_held holds t n ≡ Seats.is_any_held (λ i. Seats.in_hold holds (Seats.nexus_at t n i))
unfolding Seats.is_any_held
held_at holds t n b = held_below holds t n 8 refl b

pub choice_target : (holds : List Nexus) (u : UnitState) → (unit_after_choice holds u).target ≡ u.target
choice_target holds u = go (has_no_current u.current && not (is_held holds u.target u.unit)) (choice u.pick u.waiting)
  where
    go : (q : Bool) (p : Option Process) → (if q then with_current u p else u).target ≡ u.target
    go true None = refl
    go true (Some p) = refl
    go false p = refl

pub choice_unit : (holds : List Nexus) (u : UnitState) → (unit_after_choice holds u).unit ≡ u.unit
choice_unit holds u = go (has_no_current u.current && not (is_held holds u.target u.unit)) (choice u.pick u.waiting)
  where
    go : (q : Bool) (p : Option Process) → (if q then with_current u p else u).unit ≡ u.unit
    go true None = refl
    go true (Some p) = refl
    go false p = refl

settled_units : (holds : List Nexus) (units : List UnitState) (t n : ℕ) → AllOfEight holds
    → unit_state_at (units_after_choice holds units) t n
    ≡ Seats.unit_mapped (Seats.unit_with_choice (Seats.is_any_held (λ i. Seats.in_hold holds (Seats.nexus_at t n i))))
    (unit_state_at units t n)
settled_units holds units t n b =
    (λ i. unit_state_at (choice_map holds units i) t n)
    ∙ mapped_at (unit_after_choice holds) (choice_target holds) (choice_unit holds) units t n
    ∙ go (unit_state_at units t n) refl
  where
    held : Bool
    held = Seats.is_any_held (λ i. Seats.in_hold holds (Seats.nexus_at t n i))

    go : (x : Option UnitState) → unit_state_at units t n ≡ x
        → Seats.unit_mapped (unit_after_choice holds) x ≡ Seats.unit_mapped
        (Seats.unit_with_choice (Seats.is_any_held (λ i. Seats.in_hold holds (Seats.nexus_at t n i)))) x
    go None z = refl
    go (Some u) z =
        let one : u.target ≡ t = found_target units t n u z in
        let two : u.unit ≡ n = found_unit units t n u z in
        λ i. Some (if has_no_current u.current && not (((λ j. is_held holds (one j) (two j)) ∙ held_at holds t n b) i)
        then with_current u (choice u.pick u.waiting) else u)

pub seat_settled : (a : Array) (t n : ℕ) → AllOfEight a.holds
    → Seats.seat_of (settled_array a) t n ≡ Seats.settled_seat (Seats.seat_of a t n)
seat_settled a t n b = λ i. record {
  unit = settled_units a.holds a.units t n b i;
  guests = Seats.guests_at a.guests t n;
  senses = λ k. sense_of_nexus a.senses (Seats.nexus_at t n k);
  attentions = λ k. sense_of_nexus a.attentions (Seats.nexus_at t n k);
  hold = λ k. Seats.in_hold a.holds (Seats.nexus_at t n k);
}

-- A seat that has chosen does not choose again.
pub settled_twice : (seat : Seats.Seat) → Seats.settled_seat (Seats.settled_seat seat) ≡ Seats.settled_seat seat
settled_twice seat = λ i. record seat { unit = go (Seats.is_any_held seat.hold) seat.unit i }
  where
    inner : (held : Bool) (u : UnitState) (x : Bool) → (has_no_current u.current && not held) ≡ x
        → (p : Option Process) → choice u.pick u.waiting ≡ p
        → Seats.unit_with_choice held (if x then with_current u p else u) ≡ (if x then with_current u p else u)
    inner held u false z p e = λ i. if z i then with_current u (choice u.pick u.waiting) else u
    inner held u true z None e = (λ i. if z i then with_current u (e i) else u)
    inner held u true z (Some p) e = refl

    go : (held : Bool) (x : Option UnitState)
        → Seats.unit_mapped (Seats.unit_with_choice held) (Seats.unit_mapped (Seats.unit_with_choice held) x)
        ≡ Seats.unit_mapped (Seats.unit_with_choice held) x
    go held None = refl
    go held (Some u) = ap (λ (v : UnitState). Some v)
        (inner held u (has_no_current u.current && not held) refl (choice u.pick u.waiting) refl)

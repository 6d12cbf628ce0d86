-- Places in bytes that stay at a last one.
use Rattle.std.proofs.Common.{ℕ, ◌≡◌, ◌∙◌, ◌+◌, ◌*◌, ◌<◌, ◌≤◌, ◌⊎◌, inl, inr, zero, suc, min, refl, sym, Option, Some}
use Rattle.std.proofs.Common.{None}
use Rattle.std.proofs.Math.Nat.{min-eq_left, min-eq_right, mul-zero, mul_comm, le-mul_of_pos_right}
use Rattle.std.proofs.lemmas.Bool.{cases_lt}
use native.Mathlib.Omega.{arith}
use Rattle.scenario.specs.declared.value.Policy.{Policy}
use Rattle.scenario.specs.declared.value.Policy.TheVariants as policies
use Rattle.due_model.specs.dialogue_model.specs.declared.exchange.Task.{Task}
use Rattle.due_model.specs.dialogue_model.specs.DataRuns.{run_at, run_in}
use Rattle.target_units.specs.scsi_device.proofs.Places.{weaker}

both_past : (x y m : ℕ) → m ≤ x → m ≤ y → min x m ≡ min y m
both_past x y m p q = min-eq_right p ∙ sym (min-eq_right q)

least : (m : ℕ) → 0 ≤ m
least m = omega arith

above_0 : (b m : ℕ) → 0 < m → 0 < min (suc b) m
above_0 b m p = omega arith

suc_above_0 : (k : ℕ) → 0 < suc k
suc_above_0 k = omega arith

product_past : (a b m : ℕ) → m < a → m ≤ a * suc b
product_past a b m q = let times : a ≤ a * suc b = le-mul_of_pos_right a (suc_above_0 b) in omega arith

-- The first of two factors is past the last place.
first_past : (a b m : ℕ) → 0 < m → m < a → min (m * min b m) m ≡ min (a * b) m
first_past a zero m p q =
    (λ j. min (m * min-eq_left (least m) j) m) ∙ (λ j. min (mul-zero m j) m) ∙ (λ j. min (sym (mul-zero a) j) m)
first_past a (suc b) m p q =
    both_past (m * min (suc b) m) (a * suc b) m (le-mul_of_pos_right m (above_0 b m p)) (product_past a b m q)

-- A product of numbers, each held at the last place, is held there, too.
pub held_product : (a b m : ℕ) → 0 < m → min (min a m * min b m) m ≡ min (a * b) m
held_product a b m p = go (cases_lt m a) (cases_lt m b)
  where
    go : (m < a) ⊎ (a ≤ m) → (m < b) ⊎ (b ≤ m) → min (min a m * min b m) m ≡ min (a * b) m
    go (inr x) (inr y) = λ j. min (min-eq_left x j * min-eq_left y j) m
    go (inl x) y = (λ j. min (min-eq_right (weaker m a x) j * min b m) m) ∙ first_past a b m p x
    go (inr x) (inl y) =
        (λ j. min (mul_comm (min a m) (min b m) j) m)
        ∙ (λ j. min (min-eq_right (weaker m b y) j * min a m) m)
        ∙ first_past b a m p y
        ∙ (λ j. min (mul_comm b a j) m)

-- The same, where the first factor is no further.
pub held_second : (a b m : ℕ) → a < suc m → 0 < m → min (a * min b m) m ≡ min (a * b) m
held_second a b m h p = (λ j. min (sym (min-eq_left (below a m h)) j * min b m) m) ∙ held_product a b m p
  where
    below : (a m : ℕ) → a < suc m → a ≤ m
    below a m h = omega arith

pub held_first : (a b m : ℕ) → 0 < m → min (min a m * b) m ≡ min (a * b) m
held_first a b m p = sym (held_second (min a m) b m (below a m) p) ∙ held_product a b m p
  where
    below : (a m : ℕ) → min a m < suc m
    below a m = omega arith

-- The first place of a run, where the number of the run is held at the last place.
pub start_held : (policy : Policy) (t : Task) (n m : ℕ) → 0 < m
    → min (run_at policy t (min n m)).start m ≡ min (run_at policy t n).start m
start_held policy t n m p = go t.blocks policy
  where
    go : (b : Option ℕ) (q : Policy)
        → min (run_in q b t.size t.moved (min n m)).start m ≡ min (run_in q b t.size t.moved n).start m
    go None q = refl
    go (Some k) policies.Never = refl
    go (Some k) policies.Command = refl
    go (Some k) (policies.Burst most) = held_first n (most * t.size) m p
    go (Some k) (policies.NoSave most) = refl

-- A sum, of which the first number is held there.
pub held_sum : (a b m : ℕ) → min (min a m + b) m ≡ min (a + b) m
held_sum a b m = omega arith

-- A place in bytes that stays at a last one.
use Rattle.std.proofs.Common.{ℕ, ◌≡◌, ◌∙◌, ◌<◌, ◌≤◌, ◌⊎◌, inl, inr, min, List, length, sym}
use Rattle.std.specs.Prelude.{slice_index_or}
use Rattle.std.proofs.Math.Nat.{min-eq_left, min-eq_right}
use Rattle.std.proofs.lemmas.Bool.{cases_lt}
use native.Mathlib.Omega.{arith}
use Rattle.std.proofs.lemmas.List.{get_or_past}

pub weaker : (m n : ℕ) → m < n → m ≤ n
weaker m n p = omega arith

-- Past the end of a list stands 0.
pub held_place : (xs : List ℕ) (i m : ℕ) → length xs ≤ m → slice_index_or xs (min i m) 0 ≡ slice_index_or xs i 0
held_place xs i m p = go (cases_lt m i)
  where
    longer : (m i : ℕ) → m < i → length xs ≤ m → length xs ≤ i
    longer m i x p = omega arith

    go : (m < i) ⊎ (i ≤ m) → slice_index_or xs (min i m) 0 ≡ slice_index_or xs i 0
    go (inr x) = λ j. slice_index_or xs (min-eq_left x j) 0
    go (inl x) =
        (λ j. slice_index_or xs (min-eq_right (weaker m i x) j) 0)
        ∙ get_or_past xs m 0 p
        ∙ sym (get_or_past xs i 0 (longer m i x p))

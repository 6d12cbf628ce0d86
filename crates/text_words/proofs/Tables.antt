-- Tables: of texts of two bytes, and of values.
use Rattle.std.proofs.Common.{◌≡◌, ℕ, zero, suc, ◌+◌, ◌-◌, ◌*◌, ◌<◌, List, Bool, true, ◌&&◌, T, eqb, get_or, inl, inr}
use Rattle.std.proofs.Common.{arith, eq-zero-or-pos, eqb→eq}
use lib.Ieee.Fits.{and_l, and_r}

-- the table holds these two bytes for each number below n
abbrev pub are_pairs : List ℕ → (ℕ → ℕ) → (ℕ → ℕ) → ℕ → Bool
are_pairs table high low zero = true
are_pairs table high low (suc p) =
    (eqb (get_or table (p * 2) 0) (high p) && eqb (get_or table (p * 2 + 1) 0) (low p)) && are_pairs table high low p

pub pair_at : (table : List ℕ) (high low : ℕ → ℕ) (n p : ℕ) → T (are_pairs table high low n) → p < n
    → (get_or table (p * 2) 0 ≡ high p) × (get_or table (p * 2 + 1) 0 ≡ low p)
pair_at table high low zero p t h = absurd (omega arith)
pair_at table high low (suc n) p t h =
    let rest = are_pairs table high low n in
    elim (eq-zero-or-pos (n - p)) [
      | inl z ↦
          let e : p ≡ n = omega arith in
          let a = and_l _ rest t in
          rw e (eqb→eq _ _ (and_l _ _ a), eqb→eq _ _ (and_r _ _ a))
      | inr g ↦ pair_at table high low n p (and_r _ rest t) (omega arith)
    ]

-- the table holds this for each number below n
abbrev pub are_values : List ℕ → (ℕ → ℕ) → ℕ → Bool
are_values table value zero = true
are_values table value (suc p) = eqb (get_or table p 0) (value p) && are_values table value p

pub value_at : (table : List ℕ) (value : ℕ → ℕ) (n p : ℕ) → T (are_values table value n) → p < n
    → get_or table p 0 ≡ value p
value_at table value zero p t h = absurd (omega arith)
value_at table value (suc n) p t h =
    let rest = are_values table value n in
    elim (eq-zero-or-pos (n - p)) [
      | inl z ↦ let e : p ≡ n = omega arith in rw e (eqb→eq _ _ (and_l _ rest t))
      | inr g ↦ value_at table value n p (and_r _ rest t) (omega arith)
    ]

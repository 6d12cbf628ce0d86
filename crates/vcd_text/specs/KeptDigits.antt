-- A number of many digits, of which zeros in front say nothing.
use Rattle.std.specs.Prelude.{◌≡◌, ℕ, Bool, true, false, List, [], ◌∷◌, ◌++◌, remove, slice_index}

-- A digit more of the number from this place on, in place of the zero in front of it; or it has none, and nothing
-- changes.
abbrev pub DigitKept : Bool → ℕ → List ℕ → List ℕ → ℕ → Type 0
DigitKept true at old new digit = (slice_index old at ≡ 48) × (new ≡ remove old at ++ digit ∷ [])
DigitKept false at old new digit = (slice_index old at ≡ 48 → ⊥) × (new ≡ old)

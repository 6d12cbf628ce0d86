-- All blocks one after the other.
use Rattle.std.specs.Prelude.{ℕ, zero, suc, List, [], ◌∷◌, take, drop}

-- The blocks of these bytes, so many from this number on.
abbrev pub blocks_in : ℕ → ℕ → ℕ → List ℕ → List (ℕ × List ℕ)
blocks_in size first zero bytes = []
blocks_in size first (suc n) bytes = (first, take size bytes) ∷ blocks_in size (suc first) n (drop size bytes)

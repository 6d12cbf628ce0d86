-- Bytes that a test finds the same are the same.
use Rattle.story_model.specs.Right.{same_bytes}
use Rattle.std.proofs.Common.{List, ◌==◌, ◌∷◌, [], refl, true, ℕ, ◌≡◌}
use Rattle.std.proofs.lemmas.Bool.{eqb-true, and_parts}

pub bytes_are : (a b : List ℕ) → same_bytes a b ≡ true → a ≡ b
bytes_are [] [] e = refl
bytes_are [] (y ∷ b) e = cc
bytes_are (x ∷ a) [] e = cc
bytes_are (x ∷ a) (y ∷ b) e =
    let both = and_parts (x == y) (same_bytes a b) e in
    let rest = bytes_are a b both.1 in
    λ i. eqb-true x y both.0 i ∷ rest i

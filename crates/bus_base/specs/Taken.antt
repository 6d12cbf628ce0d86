-- What a read takes of the bytes that a source has left.
use Rattle.std.specs.Prelude.{◌≡◌, ℕ, ◌<◌, ◌≤◌, List, [], length, take, drop, Option, Some}

-- The first n bytes of xs came to the front of `into`, and the others are left. With room in
-- `into`, none come only at the end.
pub record TakesFront (xs : List ℕ) (left : Option (List ℕ)) (into : List ℕ) (n : ℕ) : Type 0 where
  pub within : n ≤ length xs
  pub bytes : take n into ≡ take n xs
  pub rest : left ≡ Some (drop n xs)
  pub ends : n ≡ 0 → 0 < length into → xs ≡ []

-- What a contract sees of the bytes on a page.
use Rattle.std.specs.Prelude.{ℕ, List}

-- the bytes, in order
pub record HeldBytes : Type 0 where
  pub items : List ℕ

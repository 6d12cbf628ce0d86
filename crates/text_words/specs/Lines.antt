-- The lines of a text.
use Rattle.std.specs.Prelude.{ℕ, Bool, true, false, List, [], ◌∷◌, ◌==◌, if◌then◌else◌}

-- A line without its line feed, and whether a line feed ends it.
pub record Line : Type 0 where
  pub text : List ℕ
  pub ended : Bool

-- A byte more before the first line; where there is none, that byte is a line without its line feed.
abbrev pub onto : ℕ → List Line → List Line
onto b [] = record { text = b ∷ []; ended = false } ∷ []
onto b (l ∷ ls) = record l { text = b ∷ l.text } ∷ ls

-- The lines of a text: each line feed ends one, and only the last may lack its own. An empty rest is
-- no line.
abbrev pub lines_of : List ℕ → List Line
lines_of [] = []
lines_of (b ∷ bs) = if b == 10 then record { text = []; ended = true } ∷ lines_of bs else onto b (lines_of bs)

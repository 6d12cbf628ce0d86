-- The words of a call, in one text.
use Rattle.std.specs.Prelude.{ℕ, ◌==◌, Bool, List, [], ◌∷◌, ◌++◌, nat_lt, if◌then◌else◌}
use Rattle.std.specs.List.{list_all}

-- a character of ASCII
abbrev pub is_letter : ℕ → Bool
is_letter byte = nat_lt byte 128

-- What single blanks part; these bytes of the first part stand before the text.
abbrev pub parts_of : List ℕ → List ℕ → List (List ℕ)
parts_of part [] = part ∷ []
parts_of part (byte ∷ text) = if byte == 32 then part ∷ parts_of [] text else parts_of (part ++ byte ∷ []) text

-- The words that a text says: what single blanks part. A text that is not ASCII says none.
abbrev pub words_in : List ℕ → List (List ℕ)
words_in text = if list_all is_letter text then parts_of [] text else []

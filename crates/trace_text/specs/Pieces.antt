-- A piece of a text, whose first line may end within it.
use Rattle.std.specs.Prelude.{◌≡◌, ℕ, ◌+◌, ◌-◌, ◌<◌, Bool, not, ◌&&◌, List, [], ◌∷◌, length, get_or, take, Option, Some}
use Rattle.std.specs.Prelude.{None, nat_le, ◌==◌, if◌then◌else◌}
use Rattle.std.specs.List.{prefix_len}
use Rattle.text_words.specs.Words.{◌>>=◌, number_at, is_digit}
use Rattle.bus_trace.specs.declared.Kind.{Kind}
use Rattle.bus_trace.specs.declared.Row.{Row}
use Rattle.trace_text.specs.Lines.{below, kind_at, row_at}

-- A byte within a line.
abbrev pub is_inner : ℕ → Bool
is_inner b = not (b == 10)

-- The first line without its line feed, or all of the piece where it has none.
abbrev pub text_of : List ℕ → List ℕ
text_of piece = take (prefix_len is_inner piece) piece

-- How many bytes the first line has with its line feed, or all of the piece where it has none.
abbrev pub line_len : List ℕ → ℕ
line_len [] = 0
line_len (b ∷ piece) = if b == 10 then 1 else 1 + line_len piece

-- The piece begins with the line of this row, which has so many bytes with its line feed.
pub record StartsWithRow (piece : List ℕ) (row : Row) (len : ℕ) : Type 0 where
  pub is : row_at (text_of piece) ≡ Some row
  pub whole : len ≡ line_len piece
  pub ended : prefix_len is_inner piece < length piece

-- The bytes after the time of a row of lines: ` D HHHHH` and a line feed, and its five digits.
abbrev pub is_row_end : List ℕ → Bool
is_row_end ys = nat_le 9 (length ys) && get_or ys 0 0 == 32 && is_digit (get_or ys 1 0) && get_or ys 2 0 == 32
    && get_or ys 8 0 == 10

abbrev pub lines_of_row : List ℕ → List ℕ
lines_of_row ys = get_or ys 3 0 ∷ get_or ys 4 0 ∷ get_or ys 5 0 ∷ get_or ys 6 0 ∷ get_or ys 7 0 ∷ []

abbrev pub with_kind : ℕ → ℕ → ℕ → Option Kind → Option (Row × ℕ)
with_kind time dev len None = None
with_kind time dev len (Some kind) = Some (record { time = time; dev = dev; kind = kind }, len)

abbrev pub row_end : List ℕ → List ℕ → ℕ → Option (Row × ℕ)
row_end bytes ys time =
    if is_row_end ys
    then with_kind time (get_or ys 1 0 - 48) (length bytes - (length ys - 9)) (kind_at (lines_of_row ys)) else None

-- The row of lines whose line a piece begins with, and how many bytes that line has with its line feed.
unfoldable pub front_row : List ℕ → Option (Row × ℕ)
front_row bytes = do
  number ← number_at bytes
  time ← below number.0
  row_end bytes number.1 time

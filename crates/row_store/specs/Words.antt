-- Which rows some words of 64 bits keep.
--
-- The word of a row has its lines in bits 0 to 17, or the code of its fault, its device in bits 18 to 25, in bits 26
-- and 27 what it is, and above them the time since the row before, in ns. A word of a time alone has there the time
-- from which the next row counts, in units of 2^36 ns.
use Rattle.std.specs.Prelude.{ℕ, ◌+◌, ◌*◌, ◌/◌, ◌%◌, ◌^◌, ◌==◌, Bool, List, [], ◌∷◌, ◌++◌, if◌then◌else◌}
use Rattle.bus_trace.specs.LineSet.{set_of}
use Rattle.bus_trace.specs.declared.rows.Kind.{Kind}
use Rattle.bus_trace.specs.declared.rows.Kind.TheVariants.{Drives, Fault}
use Rattle.bus_trace.specs.declared.rows.Row.{Row}

-- The fields of a word.
abbrev pub lines_in : ℕ → ℕ
lines_in word = word % 2 ^ 18

abbrev pub device_in : ℕ → ℕ
device_in word = word / 2 ^ 18 % 256

abbrev pub mark_in : ℕ → ℕ
mark_in word = word / 2 ^ 18 / 256 % 4

abbrev pub apart_in : ℕ → ℕ
apart_in word = word / 2 ^ 18 / 256 / 4

-- a word of a time alone
abbrev pub is_time : ℕ → Bool
is_time word = mark_in word == 2

-- the time of a word, where this was that of the word before
abbrev pub time_after : ℕ → ℕ → ℕ
time_after time word = if is_time word then apart_in word % 2 ^ 28 * 2 ^ 36 else (time + apart_in word) % 2 ^ 64

abbrev pub kind_in : ℕ → Kind
kind_in word = if mark_in word == 1 then Fault (word % 256) else Drives (set_of (lines_in word))

-- the row of a word at this time, where it is one of a row
abbrev pub row_in : ℕ → ℕ → Row
row_in time word = record { time = time; dev = device_in word; kind = kind_in word }

abbrev pub rows_in : ℕ → ℕ → List Row
rows_in time word = if is_time word then [] else row_in time word ∷ []

-- the rows of some words, the oldest first, where this is the time of the word before them
abbrev pub rows_from : ℕ → List ℕ → List Row
rows_from time [] = []
rows_from time (word ∷ words) = rows_in (time_after time word) word ++ rows_from (time_after time word) words

-- the time of the last of them
abbrev pub last_from : ℕ → List ℕ → ℕ
last_from time [] = time
last_from time (word ∷ words) = last_from (time_after time word) words

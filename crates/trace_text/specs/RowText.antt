-- The text of a trace: a line for each row, from the line `trace 1` to the line `end T`.
use Rattle.std.specs.Prelude.{ℕ, ◌+◌, ◌/◌, ◌%◌, List, [], ◌∷◌, ◌++◌, codes, decimal}
use Rattle.std.specs.List.{flat_map}
use Rattle.text_words.specs.Spelling.{hex_digit}
use Rattle.bus_trace.specs.LineSet.{number_of}
use Rattle.bus_trace.specs.declared.Kind.{Kind}
use Rattle.bus_trace.specs.declared.Kind.TheVariants.{Drives, Fault}
use Rattle.bus_trace.specs.declared.Row.{Row}

-- five hexadecimal digits, the bits of the 18 lines
abbrev pub lines_text : ℕ → List ℕ
lines_text n = hex_digit (n / 65536) ∷ hex_digit (n / 4096 % 16) ∷ hex_digit (n / 256 % 16) ∷ hex_digit (n / 16 % 16)
    ∷ hex_digit (n % 16) ∷ []

-- the lines that are driven, or `f` and the number of the bit that is inverted, 0 to 8
abbrev pub kind_text : Kind → List ℕ
kind_text (Drives lines) = lines_text (number_of lines)
kind_text (Fault bit) = 102 ∷ decimal bit

-- `T D HHHHH` or `T D fB`, and a line feed
abbrev pub row_text : Row → List ℕ
row_text row = decimal row.time ++ 32 ∷ (48 + row.dev) ∷ 32 ∷ [] ++ kind_text row.kind ++ 10 ∷ []

-- the rows, the oldest first, and the time of the end
abbrev pub trace_text : List Row → ℕ → List ℕ
trace_text rows end = codes "trace 1\n" ++ (flat_map row_text rows ++ (codes "end " ++ (decimal end ++ 10 ∷ [])))

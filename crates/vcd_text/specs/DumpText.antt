-- The text of a value change dump: a head, the changes of each row at its time, and the time of the end.
use Rattle.std.specs.Prelude.{ℕ, ◌+◌, ◌/◌, ◌%◌, List, [], ◌∷◌, ◌++◌, nat_lt, codes, decimal, if◌then◌else◌}
use Rattle.bus_trace.specs.LineSet.{number_of}
use Rattle.bus_trace.specs.declared.rows.Kind.{Kind}
use Rattle.bus_trace.specs.declared.rows.Kind.TheVariants.{Drives, Fault}
use Rattle.bus_trace.specs.declared.rows.Row.{Row}

-- the declarations, the time 0, and that no device drives a line
abbrev pub head_text : List ℕ
head_text = codes "$timescale 1 ns $end\n$scope module scsi $end\n"
    ++ (codes "$var wire 18 a d0 $end\n$var wire 18 b d1 $end\n$var wire 18 c d2 $end\n$var wire 18 d d3 $end\n"
    ++ (codes "$var wire 18 e d4 $end\n$var wire 18 f d5 $end\n$var wire 18 g d6 $end\n$var wire 18 h d7 $end\n"
    ++ (codes "$upscope $end\n$enddefinitions $end\n#0\n$dumpvars\n"
    ++ (codes "b000000000000000000 a\nb000000000000000000 b\nb000000000000000000 c\nb000000000000000000 d\n"
    ++ codes "b000000000000000000 e\nb000000000000000000 f\nb000000000000000000 g\nb000000000000000000 h\n$end\n"))))

-- the binary digit of this weight
abbrev pub bit_text : ℕ → ℕ → ℕ
bit_text n weight = 48 + n / weight % 2

-- the four binary digits of a number below 16
abbrev pub nibble_text : ℕ → List ℕ
nibble_text n = bit_text n 8 ∷ bit_text n 4 ∷ bit_text n 2 ∷ bit_text n 1 ∷ []

-- the 18 binary digits of the lines, RST first and DB(0) last
abbrev pub bits_text : ℕ → List ℕ
bits_text n = bit_text n 131072 ∷ bit_text n 65536 ∷ bit_text n 32768 ∷ bit_text n 16384 ∷ bit_text n 8192
    ∷ bit_text n 4096 ∷ bit_text n 2048 ∷ bit_text n 1024 ∷ bit_text n 512 ∷ bit_text n 256 ∷ bit_text n 128
    ∷ bit_text n 64 ∷ bit_text n 32 ∷ bit_text n 16 ∷ bit_text n 8 ∷ bit_text n 4 ∷ bit_text n 2 ∷ bit_text n 1 ∷ []

-- `b`, the digits, a space and the letter of the device, which is its code, and a line feed
abbrev pub value_text : ℕ → ℕ → List ℕ
value_text dev n = 98 ∷ bits_text n ++ 32 ∷ (97 + dev) ∷ 10 ∷ []

-- `#T` and a line feed, where the time is above the last that was written
abbrev pub time_text : ℕ → ℕ → List ℕ
time_text last time = if nat_lt last time then 35 ∷ decimal time ++ 10 ∷ [] else []

-- the last time that was written, after this one
abbrev pub later : ℕ → ℕ → ℕ
later last time = if nat_lt last time then time else last

-- what a row writes after this time; a fault row writes nothing
abbrev pub change_text : ℕ → ℕ → ℕ → Kind → List ℕ
change_text last time dev (Drives lines) = time_text last time ++ value_text dev (number_of lines)
change_text last time dev (Fault bit) = []

abbrev pub time_after : ℕ → ℕ → Kind → ℕ
time_after last time (Drives lines) = later last time
time_after last time (Fault bit) = last

-- the rows, the oldest first, after this time; and the last time that was written then
abbrev pub rows_text : ℕ → List Row → List ℕ
rows_text last [] = []
rows_text last (row ∷ rows) =
    change_text last row.time row.dev row.kind ++ rows_text (time_after last row.time row.kind) rows

abbrev pub time_written : ℕ → List Row → ℕ
time_written last [] = last
time_written last (row ∷ rows) = time_written (time_after last row.time row.kind) rows

-- the dump of these rows, the oldest first, and this end
abbrev pub dump_text : List Row → ℕ → List ℕ
dump_text rows end = head_text ++ (rows_text 0 rows ++ time_text (time_written 0 rows) end)

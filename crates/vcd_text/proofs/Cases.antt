-- Dumps that are computed: what others write, and what breaks the form.
use Rattle.std.proofs.Common.{◌≡◌, ℕ, refl, List, [], ◌∷◌, ◌++◌}
use Rattle.std.specs.Prelude.{Ok, Err, codes}
use Rattle.std.specs.Fmt.{digits}
use Rattle.bus_trace.specs.LineSet.{set_of}
use Rattle.bus_trace.specs.declared.rows.Row.{Row}
use Rattle.bus_trace.specs.declared.rows.Kind.TheVariants.{Drives, Fault}
use Rattle.vcd_text.specs.DumpText.{rows_text}
use Rattle.vcd_text.specs.Reading.{vcd_of}

abbrev row : ℕ → ℕ → ℕ → Row
row time dev n = record { time = time; dev = dev; kind = Drives (set_of n) }

-- one line, with a clock beside the device
abbrev one_line : List ℕ
one_line = codes
    "$timescale 1ns $end $var reg 18 ! d7 [17:0] $end $var wire 1 % clk $end $enddefinitions $end #0 0% b0 ! #1200 1% b1010000000 !"

one_line_check : vcd_of one_line ≡ Ok (row 1200 7 0x280 ∷ [], 1200)
one_line_check = refl

-- an unknown value of a device
unknown_check : vcd_of (one_line ++ codes " bx !") ≡ Err 1
unknown_check = refl

abbrev head : List ℕ
head = codes "$timescale 1 ns $end\n$var wire 18 ! d7 $end\n$var wire 1 % clk $end\n$enddefinitions $end\n"

-- the code of a value tells whether it may stand there: a device takes up to 18 binary digits
long_check : vcd_of (head ++ codes "b0000000000000000000\n!") ≡ Err 6
long_check = refl

other_long_check : vcd_of (head ++ codes "b0000000000000000000\n%\n#007") ≡ Ok ([], 7)
other_long_check = refl

scalar_check : vcd_of (head ++ codes "\n0!") ≡ Err 6
scalar_check = refl

real_check : vcd_of (head ++ codes "r1.5e3\n%\nR-1\n!") ≡ Err 8
real_check = refl

-- times do not fall, and end at 63 bits
falling_check : vcd_of (head ++ codes "#5 #5\n#4\n") ≡ Err 6
falling_check = refl

last_time_check : vcd_of (head ++ codes "#9223372036854775807") ≡ Ok ([], 9223372036854775807)
last_time_check = refl

late_check : vcd_of (head ++ codes "#9223372036854775808") ≡ Err 5
late_check = refl

-- a text that is over too early breaks the form in the line after its last line feed
comment_check : vcd_of (head ++ codes "$comment a\nb\n") ≡ Err 7
comment_check = refl

value_check : vcd_of (head ++ codes "b1") ≡ Err 5
value_check = refl

empty_check : vcd_of [] ≡ Err 1
empty_check = refl

-- a byte that no token may have
byte_check : vcd_of (head ++ codes "$comment " ++ 128 ∷ codes "\n$end") ≡ Err 5
byte_check = refl

-- `$timescale` stands once
scale_check : vcd_of (codes "$timescale 1ns $end\n$timescale 1ns $end") ≡ Err 2
scale_check = refl

no_scale_check : vcd_of (codes "$var wire 18 a d0 $end\n$enddefinitions $end") ≡ Err 2
no_scale_check = refl

-- a device is declared once, with eighteen lines and a code of its own
narrow_check : vcd_of (codes "$timescale 1ns $end $var wire 17 a\nd0 $end") ≡ Err 2
narrow_check = refl

again_check : vcd_of (codes "$timescale 1ns $end $var wire 18 a d0 $end $var wire 18 b\nd0 $end") ≡ Err 2
again_check = refl

shared_check : vcd_of (codes "$timescale 1ns $end $var wire 18 a d0 $end $var wire 18 a\nd1 $end") ≡ Err 2
shared_check = refl

-- a row where the value differs from what the device drives
changes_check : vcd_of (head ++ codes "b1 ! #6 b01 ! B1 ! b0 ! b111111111111111111 !")
    ≡ Ok (row 0 7 1 ∷ row 6 7 0 ∷ row 6 7 0x3ffff ∷ [], 6)
changes_check = refl

-- A fault row writes nothing, and a time is written once.
fault_check : rows_text 5 (row 5 1 2 ∷ record { time = 7; dev = 1; kind = Fault 8 } ∷ row 9 1 0 ∷ [])
    ≡ codes "b000000000000000010 b\n#9\nb000000000000000000 b\n"
unfolding digits
fault_check = refl

-- The definitions, computed on an arbitration and a selection by device 7 of device 0, and a fault row.
use Rattle.std.proofs.Common.{ℕ, ◌≡◌, List, [], ◌∷◌, refl}
use Rattle.std.specs.Int.RustNames.{count_ones}
use Rattle.bus_trace.specs.LineSet.{byte_set, ids_set, none, set_of, line_of, data_of}
use Rattle.bus_trace.specs.View.{union_below}
use Rattle.bus_trace.specs.declared.delays.TheConstants.{SET_UP_TIME, DATA_HOLD, TWO_DESKEW, ENTRY_DELAY, QUIET_TIME}
use Rattle.bus_trace.specs.declared.delays.TheConstants.{TURN_DELAY}
use Rattle.bus_trace.specs.declared.rows.Row.{Row}
use Rattle.bus_trace.specs.declared.rows.Kind.TheVariants.{Drives, Fault}
use Rattle.bus_trace.specs.Trace.{drives, bus, last_time, since, since_line}

abbrev pub row : ℕ → ℕ → ℕ → Row
row time dev bits = record { time = time; dev = dev; kind = Drives (set_of bits) }

abbrev pub fault : ℕ → ℕ → ℕ → Row
fault time dev code = record { time = time; dev = dev; kind = Fault code }

abbrev sample : List Row
sample = row 5780 7 0x001c0 ∷ row 5780 0 0x06a00 ∷ row 5380 0 0x02a00 ∷ row 5380 7 0x10000 ∷ row 5290 0 0x00200
    ∷ fault 5000 7 3 ∷ row 4890 7 0x10581 ∷ row 4800 7 0x10781 ∷ row 3600 7 0x00680 ∷ row 1200 7 0x00280 ∷ []

bus_after : bus sample ≡ set_of 0x06bc0
unfolding union_below
bus_after = refl

initiator_after : drives sample 7 ≡ set_of 0x001c0
initiator_after = refl

target_after : drives sample 0 ≡ set_of 0x06a00
target_after = refl

other_after : drives sample 3 ≡ none
other_after = refl

time_after : last_time sample ≡ 5780
time_after = refl

bsy_since : since (line_of 9) sample ≡ 5290
unfolding union_below line_of
bsy_since = refl

req_since : since (line_of 14) sample ≡ 5780
unfolding union_below line_of
req_since = refl

req_line_since : since_line (λ s. s.req) sample ≡ 5780
unfolding union_below
req_line_since = refl

sel_line_since : since_line (λ s. s.sel) sample ≡ 5380
unfolding union_below
sel_line_since = refl

rst_line_since : since_line (λ s. s.rst) sample ≡ 0
unfolding union_below
rst_line_since = refl

data_since : since data_of sample ≡ 5780
unfolding union_below
data_since = refl

set_up : SET_UP_TIME ≡ 55
set_up = refl

data_hold : DATA_HOLD ≡ 100
data_hold = refl

two_deskew : TWO_DESKEW ≡ 90
two_deskew = refl

entry : ENTRY_DELAY ≡ 1200
entry = refl

quiet : QUIET_TIME ≡ 1200
quiet = refl

turn : TURN_DELAY ≡ 800
turn = refl

-- bytes and IDs with their parity
byte_00 : byte_set 0x00 ≡ set_of 0x100
unfolding count_ones
byte_00 = refl

byte_07 : byte_set 0x07 ≡ set_of 0x007
unfolding count_ones
byte_07 = refl

byte_c0 : byte_set 0xc0 ≡ set_of 0x1c0
unfolding count_ones
byte_c0 = refl

ids_7_0 : ids_set 7 0 ≡ set_of 0x181
ids_7_0 = refl

-- DB(P) alone is a change of the data lines
parity_since : since data_of (row 30 0 0x100 ∷ row 20 0 0x001 ∷ []) ≡ 30
unfolding union_below
parity_since = refl

-- a row whose time falls sets the time all the same
falling_since : since_line (λ s. s.bsy) (row 10 0 0x000 ∷ row 20 0 0x200 ∷ []) ≡ 10
unfolding union_below
falling_since = refl

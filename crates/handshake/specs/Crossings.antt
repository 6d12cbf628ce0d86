-- What a step tells of a byte that crosses (6.1.5.1).
use Rattle.std.specs.Prelude.{ℕ, ◌%◌, ◌^◌, Bool, not, ◌&&◌, ◌==◌, List, Option, Some, None, is_some, if◌then◌else◌}
use Rattle.std.specs.Int.RustNames.{bit_xor, count_ones}
use Rattle.bus_trace.specs.LineSet.{LineSet, same}
use Rattle.bus_trace.specs.declared.rows.Row.{Row}
use Rattle.bus_lines.specs.declared.effect.RowEffect.{RowEffect}
use Rattle.bus_trace.specs.Trace.{bus}
use Rattle.bus_lines.specs.Effect.{effect}
use Rattle.bus_lines.specs.Handshakes.{Handshakes, handshakes}
use Rattle.handshake.specs.declared.hand.Crossed.{Crossed}

-- A byte crossed in the last row: to the initiator where I/O was true, else to the target.
abbrev pub is_crossing : Bool → RowEffect → Bool
is_crossing into e = is_some e.receiver && same e.change.before.io into

-- How many have crossed in the present phase: to the initiator with REQ, to the target with ACK.
abbrev pub crossings : Bool → Handshakes → ℕ
crossings into h = if into then h.requests else h.answers

-- DB(7-0) and DB(P) as the receiver takes them, where a fault strikes this bit of them.
abbrev pub taken_bits : Option ℕ → ℕ → ℕ
taken_bits None bits = bits
taken_bits (Some bit) bits = bit_xor bits (2 ^ bit)

-- The byte, whether it has odd parity, and whether ATN is true with it.
abbrev pub crossed_bits : ℕ → Bool → Crossed
crossed_bits bits atn = record { byte = bits % 256; good = count_ones bits % 2 == 1; atn = atn }

abbrev pub crossed_byte : LineSet → Option ℕ → Crossed
crossed_byte lines flip = crossed_bits (taken_bits flip lines.data_bits) lines.atn

-- A byte that crossed in the last row is news where the last step, which knew of `count`, knew of others.
abbrev pub is_news : Bool → ℕ → RowEffect → Handshakes → Bool
is_news into count e h = is_crossing into e && not (count == crossings into h)

abbrev pub untold_crossing : Bool → ℕ → Option ℕ → List Row → Option Crossed
untold_crossing into count flip rows =
    if is_news into count (effect rows) (handshakes rows) then Some (crossed_byte (bus rows) flip) else None

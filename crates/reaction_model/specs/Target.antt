-- What the target of a connection does next by REQ and ACK: byte by byte, and the first byte of every phase (6.1.5.1,
-- 6.1.9, 6.1.10); and by pulses under an offset and a period (6.1.5.2, 6.6.21).
use Rattle.std.specs.Prelude.{ℕ, ◌+◌, max, Bool, true, false, not, ◌&&◌, ◌||◌, ◌==◌, length, Option, None, nat_lt}
use Rattle.std.specs.Prelude.{if◌then◌else◌}
use Rattle.bus_lines.specs.bus_trace.specs.declared.delays.TheConstants.{BUS_SETTLE_DELAY, TURN_DELAY, SET_UP_TIME}
use Rattle.bus_lines.specs.bus_trace.specs.LineSet.{LineSet, byte_set}
use Rattle.reaction_model.specs.declared.due.Due.{Due}
use Rattle.reaction_model.specs.declared.due.Myself.{Myself}
use Rattle.reaction_model.specs.Reactions.{due_at}
use Rattle.reaction_model.specs.declared.sight.Sight.{Sight}
use Rattle.reaction_model.specs.declared.ends.Pace.{Pace}
use Rattle.reaction_model.specs.declared.ends.Offering.{Offering}
use Rattle.bus_lines.specs.bus_trace.specs.Trace.{phase_time}
use Rattle.bus_lines.specs.Handshakes.{Handshakes, room_by}

abbrev pub byte_bits : ℕ → ℕ
byte_bits byte = (byte_set byte).data_bits

abbrev pub with_data_bits : LineSet → ℕ → LineSet
with_data_bits own x = record own { data_bits = x }

-- ---- the first byte

-- The phase lines turned I/O from false to true.
abbrev pub has_io_turned : Sight → Bool
has_io_turned v = v.bus.io && v.ages.io == phase_time v.ages

abbrev pub req_assertion : Myself → ℕ → Option Due
req_assertion me time = due_at (time + me.latency) (record me.own { req = true })

-- The first REQ of a phase rises a bus settle delay after the phase lines. Where I/O turned to true the first byte
-- comes a data release delay and a bus settle delay after them, and REQ a deskew delay and a cable skew delay after the
-- byte (6.1.5.1, 6.1.10).
abbrev pub first_byte : Sight → Myself → Offering → Option Due
first_byte v me g = due_at (phase_time v.ages + TURN_DELAY + me.latency) (with_data_bits me.own (byte_bits g.byte))

abbrev pub first_req : Sight → Myself → Offering → Option Due
first_req v me g =
    if not (has_io_turned v) then req_assertion me (phase_time v.ages + BUS_SETTLE_DELAY)
    else if me.own.data_bits == 0 then first_byte v me g
    else req_assertion me (me.since + SET_UP_TIME)

-- ---- byte by byte

-- On ACK it negates REQ. In the same row it drives the next byte to the initiator, or releases the data lines
-- (6.1.5.1).
abbrev pub bits_if : Bool → ℕ → ℕ
bits_if follows byte = if follows then byte_bits byte else 0

abbrev pub req_negation : Sight → Myself → Offering → Option Due
req_negation v me g =
    due_at (v.ages.ack + me.latency) (record me.own { req = false; data_bits = bits_if (v.bus.io && g.follows) g.byte })

-- On ACK false it raises the next REQ, to the initiator a deskew delay and a cable skew delay after the byte (6.1.5.1).
abbrev pub next_req : Sight → Myself → Option Due
next_req v me = req_assertion me (if v.bus.io then max v.ages.ack (me.since + SET_UP_TIME) else v.ages.ack)

-- Or it leaves the phase (6.1.10).
abbrev pub phase_end : Sight → Myself → Offering → Option Due
phase_end v me g = due_at (v.ages.ack + me.latency + g.wait) g.to

abbrev pub target_turn : Sight → Handshakes → Myself → Offering → Option Due
target_turn v b me g =
    if b.requests == 0 then first_req v me g
    else if g.follows then next_req v me
    else phase_end v me g

abbrev pub target_handshake : Sight → Handshakes → Myself → Offering → Option Due
target_handshake v b me g =
    if me.own.req then (if v.bus.ack then req_negation v me g else None)
    else if v.bus.ack then None
    else target_turn v b me g

-- ---- by pulses

-- A REQ pulse ends after the assertion period (6.1.5.2).
abbrev pub req_pulse_end : Sight → Myself → Pace → Option Due
req_pulse_end v me p = due_at (v.ages.req + p.times.assertion + me.latency) (record me.own { req = false })

-- In DATA IN the target changes the byte at the end of its hold time, after the last one to none. An equal byte makes
-- no row, and counts as driven at that time (6.1.5.2).
abbrev pub hold_end : Handshakes → Myself → Pace → ℕ
hold_end b me p = b.last_req + p.times.hold + me.latency

abbrev pub byte_change : Handshakes → Myself → Pace → Offering → Option Due
byte_change b me p g = due_at (hold_end b me p) (with_data_bits me.own (bits_if g.follows g.byte))

-- The next REQ pulse begins a period after the last one, a negation period after its end, a set-up time after the byte,
-- and once fewer pulses than the offset are unanswered (6.1.5.2).
abbrev pub set_up_end : Sight → Handshakes → Myself → Pace → ℕ
set_up_end v b me p = if v.bus.io then hold_end b me p + p.times.set_up else 0

abbrev pub req_pulse : Sight → Handshakes → Myself → Pace → Option Due
req_pulse v b me p = req_assertion me (max (max (b.last_req + p.times.period) (v.ages.req + p.times.negation))
    (max (room_by p.offset b) (set_up_end v b me p)))

-- The phase is left once all pulses are answered, ACK is false, and the last byte has been held (6.1.5.2, 6.1.10).
abbrev pub last_hold_end : Sight → Handshakes → Pace → ℕ
last_hold_end v b p = (if v.bus.io then b.last_req else b.last_ack) + p.times.hold

abbrev pub pulsed_phase_end : Sight → Handshakes → Myself → Pace → Offering → Option Due
pulsed_phase_end v b me p g = due_at (max v.ages.ack (last_hold_end v b p) + me.latency) g.to

abbrev pub pulse_turn : Sight → Handshakes → Myself → Pace → Offering → Option Due
pulse_turn v b me p g =
    if g.follows then (if nat_lt (length b.waiting) p.offset then req_pulse v b me p else None)
    else if not (length b.waiting == 0) || v.bus.ack then None
    else pulsed_phase_end v b me p g

abbrev pub target_pulse : Sight → Handshakes → Myself → Pace → Offering → Option Due
target_pulse v b me p g =
    if me.own.req then req_pulse_end v me p
    else if b.requests == 0 then first_req v me g
    else if v.bus.io && not (me.own.data_bits == bits_if g.follows g.byte) then byte_change b me p g
    else pulse_turn v b me p g

-- What the initiator of a connection does next by REQ and ACK: byte by byte (6.1.5.1, 6.1.9, 6.1.10), and by pulses
-- under an offset and a period (6.1.5.2, 6.6.21).
use Rattle.std.specs.Prelude.{ℕ, ◌+◌, max, Bool, true, false, not, ◌&&◌, ◌||◌, ◌==◌, length, Option, None}
use Rattle.std.specs.Prelude.{if◌then◌else◌}
use Rattle.bus_lines.specs.bus_trace.specs.declared.delays.TheConstants.{SET_UP_TIME, TWO_DESKEW}
use Rattle.bus_lines.specs.bus_trace.specs.LineSet.{LineSet, byte_set}
use Rattle.bus_lines.specs.bus_trace.specs.Phases.{is_message_out}
use Rattle.reaction_model.specs.declared.due.Due.{Due}
use Rattle.reaction_model.specs.declared.due.Myself.{Myself}
use Rattle.reaction_model.specs.Reactions.{due_at}
use Rattle.reaction_model.specs.declared.sight.Sight.{Sight}
use Rattle.reaction_model.specs.declared.ends.Pace.{Pace}
use Rattle.reaction_model.specs.declared.ends.Answering.{Answering}
use Rattle.bus_lines.specs.Handshakes.{Handshakes, first_of, time_of, is_struck}
use Rattle.reaction_model.specs.Target.{byte_bits, with_data_bits}

-- ---- it takes a byte

-- It raises ACK, and where it has to speak ATN with it.
abbrev pub ack_lines : Bool → LineSet → LineSet
ack_lines speaks own = record own { ack = true; atn = speaks || own.atn }

-- On REQ it takes the byte and raises ACK; with ATN where the parity was wrong, and after a request of the target
-- (6.1.5.1, 6.2.1).
abbrev pub received_byte_ack : Sight → Handshakes → Myself → Answering → Option Due
received_byte_ack v b me a = due_at (v.ages.req + me.latency) (ack_lines (b.struck || a.speaks) me.own)

-- On REQ false it negates ACK, and releases the byte that it drove; where ATN rose with this ACK no sooner than two
-- deskew delays later (6.1.5.1, 6.2.1).
abbrev pub rose_with_ack : Sight → Myself → Bool
rose_with_ack v me = me.own.atn && v.ages.atn == v.ages.ack

abbrev pub ack_negation : Sight → Myself → Option Due
ack_negation v me =
    due_at ((if rose_with_ack v me then max v.ages.req (v.ages.ack + TWO_DESKEW) else v.ages.req) + me.latency)
    (record me.own { ack = false; data_bits = 0 })

-- ---- it gives a byte

-- On REQ it drives the byte (6.1.5.1). In MESSAGE OUT ATN is true while a byte follows: the row of the last byte
-- negates it (6.1.9, 6.2.1).
abbrev pub attends_by : LineSet → Bool → Bool → Bool
attends_by bus attends attention = if is_message_out bus then attends else attention

abbrev pub out_lines : ℕ → Bool → LineSet
out_lines byte attention = record (byte_set byte) { atn = attention }

abbrev pub initiator_byte : Sight → Myself → Answering → Option Due
initiator_byte v me a = due_at (v.ages.req + me.latency) (out_lines a.byte (attends_by v.bus a.attends me.own.atn))

-- ACK comes a deskew delay and a cable skew delay later; in MESSAGE OUT also two deskew delays after the last change
-- of ATN (6.1.5.1, 6.2.1).
abbrev pub sent_byte_ack : Sight → Myself → Option Due
sent_byte_ack v me = due_at
    ((if is_message_out v.bus then max (me.since + SET_UP_TIME) (v.ages.atn + TWO_DESKEW) else me.since + SET_UP_TIME)
    + me.latency) (record me.own { ack = true })

abbrev pub initiator_turn : Sight → Handshakes → Myself → Answering → Option Due
initiator_turn v b me a =
    if not v.bus.req then None
    else if v.bus.io then received_byte_ack v b me a
    else if me.own.data_bits == 0 then initiator_byte v me a
    else sent_byte_ack v me

abbrev pub initiator_handshake : Sight → Handshakes → Myself → Answering → Option Due
initiator_handshake v b me a =
    if me.own.ack then (if v.bus.req then None else ack_negation v me) else initiator_turn v b me a

-- ---- by pulses

-- An ACK pulse ends after the assertion period; where ATN rose with it after two deskew delays, if that is longer
-- (6.1.5.2, 6.2.1).
abbrev pub ack_pulse_end : Sight → Myself → Pace → Option Due
ack_pulse_end v me p = due_at
    (v.ages.ack + (if rose_with_ack v me then max TWO_DESKEW p.times.assertion else p.times.assertion) + me.latency)
    (record me.own { ack = false })

-- The ACK pulse of the oldest REQ pulse begins its lag after that, a period after the last ACK pulse, and a negation
-- period after the end of that (6.1.5.2).
abbrev pub oldest_req_time : Handshakes → ℕ
oldest_req_time b = time_of (first_of b.waiting)

abbrev pub next_ack_time : Sight → Handshakes → Pace → ℕ
next_ack_time v b p =
    if b.answers == 0 then 0 else max (b.last_ack + p.times.period) (v.ages.ack + p.times.negation)

abbrev pub ack_pulse_time : Sight → Handshakes → Pace → ℕ
ack_pulse_time v b p = max (oldest_req_time b + p.lag) (next_ack_time v b p)

-- In DATA IN with ATN, where the parity of that byte was wrong (6.2.1).
abbrev pub received_byte_pulse : Sight → Handshakes → Myself → Pace → Option Due
received_byte_pulse v b me p =
    due_at (ack_pulse_time v b p + me.latency) (ack_lines (is_struck (first_of b.waiting)) me.own)

-- In DATA OUT it drives the byte of the oldest REQ pulse at its rise, and no sooner than the end of the hold time of
-- the byte before; a set-up time later ACK may rise. An equal byte makes no row, and counts as driven at that time
-- (6.1.5.2).
abbrev pub byte_hold_end : Myself → Pace → Answering → ℕ
byte_hold_end me p a = a.raised + p.times.hold + me.latency

abbrev pub byte_time : Handshakes → Myself → Pace → Answering → ℕ
byte_time b me p a =
    if b.answers == 0 then oldest_req_time b + me.latency
    else max (oldest_req_time b + me.latency) (byte_hold_end me p a)

abbrev pub pulsed_byte : Handshakes → Myself → Pace → Answering → Option Due
pulsed_byte b me p a = due_at (byte_time b me p a) (with_data_bits me.own (byte_bits a.byte))

abbrev pub sent_byte_pulse : Sight → Handshakes → Myself → Pace → Answering → Option Due
sent_byte_pulse v b me p a = due_at (max (ack_pulse_time v b p) (byte_time b me p a + p.times.set_up) + me.latency)
    (record me.own { ack = true })

-- At the end of a hold time it releases its data lines, where no REQ pulse is unanswered (6.1.5.2).
abbrev pub byte_release : Myself → Pace → Answering → Option Due
byte_release me p a = due_at (byte_hold_end me p a) (with_data_bits me.own 0)

abbrev pub ack_pulse : Sight → Handshakes → Myself → Pace → Answering → Option Due
ack_pulse v b me p a =
    if v.bus.io then received_byte_pulse v b me p
    else if me.own.data_bits == byte_bits a.byte then sent_byte_pulse v b me p a
    else pulsed_byte b me p a

abbrev pub initiator_pulse : Sight → Handshakes → Myself → Pace → Answering → Option Due
initiator_pulse v b me p a =
    if me.own.ack then ack_pulse_end v me p
    else if not (length b.waiting == 0) then ack_pulse v b me p a
    else if me.own.data_bits == 0 then None
    else byte_release me p a

-- Rules 17 to 23: REQ and ACK, asynchronous and synchronous (6.1.5.1, 6.1.5.2).
use Rattle.std.specs.Prelude.{ℕ, ◌+◌, Bool, true, not, ◌&&◌, ◌||◌, ◌==◌, Option, Some, None, nat_le, nat_lt, is_some}
use Rattle.std.specs.Prelude.{if◌then◌else◌}
use Rattle.bus_trace.specs.declared.agreements.TheConstants.{UNLIMITED_OFFSET}
use Rattle.bus_trace.specs.declared.delays.TheConstants.{SET_UP_TIME}
use Rattle.bus_trace.specs.LineSet.{LineSet, has_odd_parity}
use Rattle.bus_trace.specs.Agreements.{times_of}
use Rattle.bus_trace.specs.declared.agreements.TransferTimes.{TransferTimes}
use Rattle.bus_trace.specs.declared.Row.{Row}
use Rattle.bus_trace.specs.declared.changes.Change.{Change}
use Rattle.bus_rules.specs.declared.seen.Seen.{Seen}
use Rattle.bus_trace.specs.Changes.{rises, falls, implies}
use Rattle.bus_trace.specs.Terms.{receiver_of}
use Rattle.bus_trace.specs.Phases.{is_data, changes_phase}

-- A byte crosses in the row.
abbrev pub crosses : Seen → Bool
crosses s = is_some (receiver_of s.connection s.change)

-- Rule 17. The data lines of a byte that crosses have odd parity.
abbrev pub has_parity : Seen → Bool
has_parity s = implies (crosses s) (has_odd_parity s.change.after)

-- A DATA phase under an agreement with an offset uses pulses; every other phase of a connection is asynchronous.
abbrev pub is_pulsed : Seen → Bool
is_pulsed s = is_some s.connection && (is_data s.change.before && not (s.agreement.offset == 0))

abbrev pub is_asynchronous_transfer : Seen → Bool
is_asynchronous_transfer s = is_some s.connection && not (is_data s.change.before && not (s.agreement.offset == 0))

-- Since when the data lines stand as they do after the row.
abbrev pub data_stand_since : Seen → ℕ → ℕ
data_stand_since s time = if s.change.before.data_bits == s.change.after.data_bits then s.data_since else time

abbrev pub changes_data : Change → Bool
changes_data c = not (c.before.data_bits == c.after.data_bits)

-- Rule 18. Asynchronous: REQ rises while ACK is false and falls while ACK is true; ACK rises while REQ is true
-- and falls while REQ is false.
abbrev pub alternates : Change → Bool
alternates c = (implies (rises c.before.req c.after.req) (not c.before.ack)
    && implies (falls c.before.req c.after.req) c.before.ack)
    && (implies (rises c.before.ack c.after.ack) c.before.req
    && implies (falls c.before.ack c.after.ack) (not c.before.req))

abbrev pub keeps_handshake : Seen → Bool
keeps_handshake s = implies (is_asynchronous_transfer s) (alternates s.change)

-- Rule 19. Asynchronous: the data lines have not changed for a deskew delay and a cable skew delay before a
-- byte crosses.
abbrev pub keeps_set_up : Seen → Row → Bool
keeps_set_up s row =
    implies (is_asynchronous_transfer s && crosses s) (nat_le (data_stand_since s row.time + SET_UP_TIME) row.time)

-- Rule 20. Asynchronous: with I/O true the data lines do not change while REQ is true and ACK false; with I/O
-- false they do not change while both are true.
abbrev pub holds_still : LineSet → Bool
holds_still s = if s.io then s.req && not s.ack else s.req && s.ack

abbrev pub keeps_data : Seen → Bool
keeps_data s = implies (is_asynchronous_transfer s && holds_still s.change.before) (not (changes_data s.change))

-- Rule 21. Pulsed: the rises of REQ are never fewer than those of ACK, and at most the offset more, where
-- that sets a limit.
abbrev pub keeps_offset : Seen → Bool
keeps_offset s = implies (is_pulsed s) (implies (rises s.change.before.req s.change.after.req)
    (s.agreement.offset == UNLIMITED_OFFSET || nat_lt s.pulses.req (s.pulses.ack + s.agreement.offset))
    && implies (rises s.change.before.ack s.change.after.ack) (nat_lt s.pulses.ack s.pulses.req))

-- At least this long after a moment, if there was one.
abbrev pub is_after : Option ℕ → ℕ → ℕ → Bool
is_after None delay time = true
is_after (Some t) delay time = nat_le (t + delay) time

-- One line of pulses: its rises are a period apart, it is true for at least the assertion period, and false for
-- at least the negation period between pulses.
abbrev pub pulses_well : TransferTimes → Bool → Bool → ℕ → Option ℕ → ℕ → Bool
pulses_well t before after since last time = implies (rises before after)
    (is_after last t.period time && (not (is_some last) || nat_le (since + t.negation) time))
    && implies (falls before after) (nat_le (since + t.assertion) time)

-- When the last byte of this phase crossed.
abbrev pub last_crossing : Seen → Option ℕ
last_crossing s = if s.change.before.io then s.pulses.last_req else s.pulses.last_ack

-- Rule 22. Pulsed: REQ and ACK are such pulses; the data lines have not changed for the set-up time before a
-- byte crosses, and do not change for the hold time after it.
abbrev pub pulses_of : TransferTimes → Seen → ℕ → Bool
pulses_of t s time =
    (pulses_well t s.change.before.req s.change.after.req s.times.req s.pulses.last_req time
    && pulses_well t s.change.before.ack s.change.after.ack s.times.ack s.pulses.last_ack time)
    && (implies (crosses s) (nat_le (data_stand_since s time + t.set_up) time)
    && implies (changes_data s.change) (is_after (last_crossing s) t.hold time))

abbrev pub keeps_pulses : Seen → Row → Bool
keeps_pulses s row = implies (is_pulsed s) (pulses_of (times_of s.agreement.period) s row.time)

-- Rule 23. A pulsed phase is left, by the phase lines or BSY, only with as many rises of ACK as of REQ.
abbrev pub leaves_well : Seen → Bool
leaves_well s = implies (is_pulsed s && (changes_phase s.change || falls s.change.before.bsy s.change.after.bsy))
    (s.pulses.req == s.pulses.ack)

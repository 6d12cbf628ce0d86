-- Rules 24 to 26: attention, messages, and the bytes of the command (6.2.1, 6.6, 7.2).
use Rattle.std.specs.Prelude.{ℕ, ◌+◌, ◌%◌, Bool, true, false, not, ◌&&◌, ◌||◌, ◌==◌, Option, Some, None, nat_le, nat_lt}
use Rattle.std.specs.Prelude.{is_some, if◌then◌else◌}
use Rattle.bus_trace.specs.declared.delays.TheConstants.{TWO_DESKEW}
use Rattle.bus_trace.specs.declared.Row.{Row}
use Rattle.cdb_codec.specs.Cdb.{group_len}
use Rattle.bus_trace.specs.declared.connection.Connection.{Connection}
use Rattle.bus_phases.specs.declared.spoken.CommandBytes.{CommandBytes}
use Rattle.bus_phases.specs.declared.reading.Reading.{Reading}
use Rattle.bus_phases.specs.declared.reading.Reading.TheVariants as readings
use Rattle.bus_phases.specs.declared.attention.Duty.{Duty}
use Rattle.bus_phases.specs.declared.attention.Duty.TheVariants as duties
use Rattle.bus_rules.specs.declared.seen.Seen.{Seen}
use Rattle.bus_trace.specs.Changes.{rises, falls, implies}
use Rattle.bus_trace.specs.Phases.{is_data, is_command, is_message_out, is_message_in, changes_phase}
use Rattle.bus_rules.specs.Transfer.{crosses}

-- ---- rule 24

-- Since when ATN has been false after the row, where it is.
abbrev pub atn_false_since : Seen → ℕ → ℕ
atn_false_since s time = if falls s.change.before.atn s.change.after.atn then time else s.times.atn

-- ATN does not fall while ACK is true in MESSAGE OUT. Where ACK rises in MESSAGE OUT with ATN false, ATN has been
-- false for two deskew delays.
abbrev pub negates_atn_well : Seen → ℕ → Bool
negates_atn_well s time = implies (is_message_out s.change.before)
    (implies (falls s.change.before.atn s.change.after.atn) (not s.change.before.ack)
    && implies (rises s.change.before.ack s.change.after.ack && not s.change.after.atn)
    (nat_le (atn_false_since s time + TWO_DESKEW) time))

abbrev pub is_owed : Duty → Bool
is_owed duties.Nothing = false
is_owed duties.Asked = false
is_owed duties.Owed = true

-- Where ATN has been true for two deskew delays when ACK falls after a byte of MESSAGE IN, or after the last byte
-- of another phase but MESSAGE OUT, the next REQ is in MESSAGE OUT, unless ATN has fallen before it.
abbrev pub heeds_atn : Seen → Bool
heeds_atn s = implies (rises s.change.before.req s.change.after.req && is_owed s.duty) (is_message_out s.change.before)

-- Rule 24. These.
abbrev pub keeps_attention : Seen → Row → Bool
keeps_attention s row = implies (is_some s.connection) (negates_atn_well s row.time && heeds_atn s)

-- ---- rule 25

abbrev pub is_unknown : Reading → Bool
is_unknown readings.Unknown = true
is_unknown readings.NoMessage = false
is_unknown readings.Half = false
is_unknown readings.Opens = false
is_unknown readings.Other = false

abbrev pub is_opening : Reading → Bool
is_opening readings.Opens = true
is_opening readings.NoMessage = false
is_opening readings.Half = false
is_opening readings.Unknown = false
is_opening readings.Other = false

abbrev pub same_bool : Bool → Bool → Bool
same_bool true b = b
same_bool false b = not b

-- The first byte after a selection is an IDENTIFY, an ABORT or a BUS DEVICE RESET in MESSAGE OUT; after a
-- reselection it is an IDENTIFY in MESSAGE IN.
abbrev pub opens_well : Seen → Option Connection → Bool
opens_well s None = true
opens_well s (Some n) =
    implies (crosses s && not s.begun) (is_opening s.reading && same_bool n.reselected s.change.before.io)

-- A MESSAGE phase is left with no message half sent, but for MESSAGE IN with ATN true, and for BUS FREE.
abbrev pub leaves_message_well : Seen → Bool
leaves_message_well s =
    implies (changes_phase s.change && s.is_half)
    ((is_message_in s.change.before && s.change.before.atn) || falls s.change.before.bsy s.change.after.bsy)

-- No byte of DATA crosses while a synchronous data transfer request is open.
abbrev pub settles_offers : Seen → Bool
settles_offers s = implies (crosses s && is_data s.change.before) (not s.is_open)

-- Rule 25. These, and the bytes of a MESSAGE phase form messages.
abbrev pub keeps_messages : Seen → Bool
keeps_messages s = opens_well s s.connection && not (is_unknown s.reading) && leaves_message_well s && settles_offers s

-- ---- rule 26

abbrev pub is_below : ℕ → Option ℕ → Bool
is_below count None = false
is_below count (Some length) = nat_lt count length

-- One byte more may cross: the first is of a group that is known, and there are at most as many as it has.
abbrev pub may_take : CommandBytes → ℕ → Bool
may_take k byte = if k.count == 0 then is_some (group_len byte) else is_below k.count (group_len k.first)

-- No byte has crossed since the pointer was restored, or all have.
abbrev pub is_same_length : ℕ → Option ℕ → Bool
is_same_length count None = false
is_same_length count (Some length) = count == length

abbrev pub is_none_or_all : CommandBytes → Bool
is_none_or_all k = k.count == 0 || is_same_length k.count (group_len k.first)

-- Rule 26. Bytes of COMMAND cross up to the length of the command, and bytes of DATA once it stands whole.
abbrev pub keeps_command : Seen → Bool
keeps_command s =
    implies (crosses s)
    (implies (is_command s.change.before) (may_take s.command (s.change.after.data_bits % 256))
    && implies (is_data s.change.before) (is_none_or_all s.command))

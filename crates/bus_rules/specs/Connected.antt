-- Rules 14 to 16 and 27: who drives what in a connection, and its end (6.1.5 to 6.1.9).
use Rattle.std.specs.Prelude.{ℕ, ◌+◌, Bool, true, not, max, ◌&&◌, ◌||◌, ◌==◌, Option, Some, None, nat_le, if◌then◌else◌}
use Rattle.std.specs.Int.RustNames.{bit_or}
use Rattle.bus_trace.specs.Trace.{phase_time}
use Rattle.bus_trace.specs.declared.delays.TheConstants.{BUS_SETTLE_DELAY, DATA_RELEASE_DELAY, TURN_DELAY, DESKEW_DELAY}
use Rattle.bus_trace.specs.LineSet.{LineSet, none, same_set}
use Rattle.bus_trace.specs.declared.Row.{Row}
use Rattle.bus_trace.specs.declared.connection.Connection.{Connection}
use Rattle.bus_trace.specs.declared.changes.Change.{Change}
use Rattle.bus_rules.specs.declared.seen.Seen.{Seen}
use Rattle.bus_trace.specs.Changes.{rises, falls, implies, raises_none, drives_data}
use Rattle.bus_trace.specs.Terms.{connection_after}
use Rattle.bus_trace.specs.Phases.{is_reserved, changes_phase}
use Rattle.bus_phases.specs.Phases.{turned_after}

-- The connection that stands before the row, or that begins with it.
abbrev pub or_new : Option Connection → Option Connection → Option Connection
or_new None new = new
or_new (Some n) new = Some n

abbrev pub connection_ends : Seen → Row → Option Connection
connection_ends s row = or_new s.connection (connection_after s.connection s.call s.change row)

-- ---- rule 14

abbrev pub has_no_target_line : LineSet → Bool
has_no_target_line s = not (s.cd || s.io || s.msg || s.req)

abbrev pub has_no_initiator_line : LineSet → Bool
has_no_initiator_line s = not (s.ack || s.atn)

-- Only the target drives C/D, I/O, MSG and REQ, only the initiator ACK and ATN, and no third device a line.
abbrev pub keeps_sides : Connection → ℕ → LineSet → Bool
keeps_sides n dev s =
    if dev == n.target then has_no_initiator_line s
    else if dev == n.initiator then has_no_target_line s
    else same_set s none

-- The phase lines change only while REQ and ACK are false.
abbrev pub changes_well : Change → Bool
changes_well c = implies (changes_phase c) (not c.before.req && not c.before.ack)

-- REQ rises at least a bus settle delay after their last change, and after the connection's beginning, and
-- never in a reserved phase.
abbrev pub asks_well : Connection → Seen → ℕ → Bool
asks_well n s time = implies (rises s.change.before.req s.change.after.req) (not (changes_phase s.change)
    && not (is_reserved s.change.before) && nat_le (max (phase_time s.times) n.began + BUS_SETTLE_DELAY) time)

-- Rule 14. These three.
abbrev pub keeps_lines_of : Seen → Row → Option Connection → Bool
keeps_lines_of s row None = true
keeps_lines_of s row (Some n) = keeps_sides n row.dev s.change.next && changes_well s.change && asks_well n s row.time

abbrev pub keeps_lines : Seen → Row → Bool
keeps_lines s row = keeps_lines_of s row (connection_ends s row)

-- ---- rules 15 and 16

-- The device raises a data line.
abbrev pub raises_data : Change → Bool
raises_data c = not (bit_or c.own.data_bits c.next.data_bits == c.own.data_bits)

-- Rule 15. The initiator raises data lines only while I/O is false, the target only while it is true. Before a
-- row later than a data release delay after I/O became true the initiator drives none.
abbrev pub raises_in_turn : Connection → Seen → ℕ → Bool
raises_in_turn n s dev =
    implies (raises_data s.change)
    (if dev == n.target then s.change.before.io else if dev == n.initiator then not s.change.before.io else true)

abbrev pub initiator_released_of : Seen → ℕ → Option Connection → Bool
initiator_released_of s time None = true
initiator_released_of s time (Some n) =
    implies s.change.before.io (nat_le time (s.times.io + DATA_RELEASE_DELAY) || not s.initiator_data)

abbrev pub initiator_released : Seen → ℕ → Bool
initiator_released s time = initiator_released_of s time s.connection

abbrev pub keeps_data_direction_of : Seen → Row → Option Connection → Bool
keeps_data_direction_of s row None = true
keeps_data_direction_of s row (Some n) = raises_in_turn n s row.dev

abbrev pub keeps_data_direction : Seen → Row → Bool
keeps_data_direction s row = keeps_data_direction_of s row s.connection && initiator_released s row.time

-- When I/O became true, where it is true after the row.
abbrev pub io_true_since : Seen → ℕ → ℕ
io_true_since s time = if rises s.change.before.io s.change.after.io then time else s.times.io

-- Rule 16. Where I/O became true in the connection, the target drives data lines a data release delay and a bus
-- settle delay later or more. Before a row later than a deskew delay after I/O became false it drives none.
abbrev pub waits_for_turn : Seen → Row → Option Connection → Bool
waits_for_turn s row None = true
waits_for_turn s row (Some n) = implies (s.change.after.io && turned_after s.turned s.connection s.change
    && row.dev == n.target && drives_data s.change.next) (nat_le (io_true_since s row.time + TURN_DELAY) row.time)

abbrev pub target_released_of : Seen → ℕ → Option Connection → Bool
target_released_of s time None = true
target_released_of s time (Some n) =
    implies (not s.change.before.io) (nat_le time (s.times.io + DESKEW_DELAY) || not s.target_data)

abbrev pub target_released : Seen → ℕ → Bool
target_released s time = target_released_of s time s.connection

abbrev pub keeps_direction_delay : Seen → Row → Bool
keeps_direction_delay s row = waits_for_turn s row s.connection && target_released s row.time

-- ---- rule 27

-- Rule 27. The target releases BSY only while REQ and ACK are false, and raises no line in that row.
abbrev pub frees_well : Seen → Row → Option Connection → Bool
frees_well s row None = true
frees_well s row (Some n) =
    implies (row.dev == n.target && falls s.change.own.bsy s.change.next.bsy)
    (not s.change.before.req && not s.change.before.ack && raises_none s.change)

abbrev pub keeps_freeing : Seen → Row → Bool
keeps_freeing s row = frees_well s row s.connection

-- Rows that change data lines, REQ and ACK alone, in a DATA phase or, where no byte crosses, in another one, and a
-- short test that such a row breaks no rule.
use Rattle.std.specs.Prelude.{ℕ, ◌+◌, Bool, true, false, not, max, ◌&&◌, ◌||◌, ◌==◌, List, Option, Some, None, nat_le}
use Rattle.std.specs.Prelude.{nat_lt, is_some, is_none, if◌then◌else◌}
use Rattle.bus_trace.specs.declared.agreements.TheConstants.{UNLIMITED_OFFSET}
use Rattle.bus_trace.specs.declared.delays.TheConstants.{BUS_SETTLE_DELAY, DATA_RELEASE_DELAY, DESKEW_DELAY}
use Rattle.bus_trace.specs.declared.delays.TheConstants.{SET_UP_TIME, TURN_DELAY}
use Rattle.bus_trace.specs.LineSet.{LineSet, data_of, same, same_set, has_odd_parity}
use Rattle.bus_trace.specs.Trace.{drives, last_time, since}
use Rattle.bus_trace.specs.View.{View}
use Rattle.bus_trace.specs.declared.line_times.LineTimes.{LineTimes}
use Rattle.bus_trace.specs.Trace.{line_times, phase_time}
use Rattle.bus_trace.specs.declared.agreements.Agreement.{Agreement}
use Rattle.bus_trace.specs.declared.agreements.TransferTimes.{TransferTimes}
use Rattle.bus_trace.specs.declared.Row.{Row}
use Rattle.bus_phases.specs.declared.attention.Duty.{Duty}
use Rattle.bus_phases.specs.declared.attention.Duty.TheVariants as duties
use Rattle.bus_trace.specs.declared.changes.Change.{Change}
use Rattle.bus_trace.specs.declared.connection.Connection.{Connection}
use Rattle.bus_phases.specs.declared.pulses.Pulses.{Pulses}
use Rattle.bus_phases.specs.declared.spoken.CommandBytes.{CommandBytes}
use Rattle.bus_rules.specs.declared.course.Course.{Course}
use Rattle.bus_rules.specs.Judging.{Running}
use Rattle.bus_trace.specs.Changes.{rises, falls, implies, drives_data, same_stage}
use Rattle.bus_rules.specs.Connected.{has_no_initiator_line, has_no_target_line, raises_data}
use Rattle.bus_rules.specs.Messages.{is_owed, is_none_or_all}
use Rattle.bus_trace.specs.Phases.{is_data}
use Rattle.bus_phases.specs.Dialogue.{takes_data}
use Rattle.bus_phases.specs.Phases.{count_after, pulses, pulses_on, turned, duty}
use Rattle.bus_phases.specs.Dialogue.{dialogue}
use Rattle.bus_rules.specs.Seen.{drives_bsy, initiator_of, initiator_data, target_data}
use Rattle.bus_trace.specs.Terms.{is_fault, when, arbitration, call, connection, receiver_of}
use Rattle.bus_rules.specs.Transfer.{changes_data, holds_still, is_after}
use Rattle.bus_trace.specs.Agreements.{times_of}

-- ---- what the test asks of the rows before

-- Times are in ns, 0 where the trace has nothing of the kind.
pub record Standing : Type 0 where
  -- the time of the last row
  pub last : ℕ
  -- neither a call nor an arbitration stands
  pub is_alone : Bool
  -- the connection that stands, if one does
  pub connection : Option Connection
  -- since when the phase lines, I/O, REQ, ACK and the data lines stand as they do
  pub times : LineTimes
  pub data_since : ℕ
  -- the initiator drives BSY, or data lines, and the target does
  pub initiator_bsy : Bool
  pub initiator_data : Bool
  pub target_data : Bool
  pub pulses : Pulses
  -- I/O became true in the connection
  pub turned : Bool
  -- what ATN asks of the target
  pub duty : Duty
  -- what the messages of the connection say: the agreement of its devices, whether a synchronous data transfer
  -- request is open, the bytes of the command; and whether a byte has crossed in it
  pub agreement : Agreement
  pub is_open : Bool
  pub command : CommandBytes
  pub begun : Bool

-- After these rows, and by the running terms.
abbrev pub standing_after : List Row → Standing
standing_after rows = record {
  last = last_time rows;
  is_alone = is_none (call rows) && is_none (arbitration rows);
  connection = connection rows;
  times = line_times rows;
  data_since = since data_of rows;
  initiator_bsy = drives_bsy (drives rows) (initiator_of (call rows) (connection rows));
  initiator_data = initiator_data (drives rows) (connection rows);
  target_data = target_data (drives rows) (connection rows);
  pulses = pulses rows;
  turned = turned rows;
  duty = duty rows;
  agreement = (dialogue rows).heard.now.agreement;
  is_open = is_some (dialogue rows).heard.now.offer;
  command = (dialogue rows).heard.now.command;
  begun = (dialogue rows).begun;
}

-- The same by the view of the lines and the course, where the devices drive this.
abbrev pub standing_at : (ℕ → LineSet) → View → Course → Standing
standing_at f v k = record {
  last = v.last;
  is_alone = is_none k.call && is_none k.arbitration;
  connection = k.connection;
  times = v.times;
  data_since = v.data_changed;
  initiator_bsy = drives_bsy f (initiator_of k.call k.connection);
  initiator_data = initiator_data f k.connection;
  target_data = target_data f k.connection;
  pulses = k.pulses;
  turned = k.turned;
  duty = k.duty;
  agreement = k.dialogue.heard.now.agreement;
  is_open = is_some k.dialogue.heard.now.offer;
  command = k.dialogue.heard.now.command;
  begun = k.dialogue.begun;
}

-- The same by all of them.
abbrev pub standing_by : List Row → Running → Standing
standing_by rows t = standing_at (drives rows) t.view t.course

-- ---- the test

-- A byte crosses.
abbrev pub crosses_in : Change → Bool
crosses_in c = if c.before.io then rises c.before.req c.after.req else rises c.before.ack c.after.ack

-- A DATA phase stands; or COMMAND, STATUS or a MESSAGE phase, in which the row tells nothing: no byte crosses, and ACK
-- does not fall while ATN is true.
abbrev pub is_calm : Change → Bool
is_calm c =
    is_data c.before || (c.before.cd && not (c.before.atn && falls c.before.ack c.after.ack) && not (crosses_in c))

-- In such a phase, where BSY is true and SEL and RST are false, data lines, REQ and ACK alone change.
abbrev pub is_quiet_bus : LineSet → Bool
is_quiet_bus s = s.bsy && not s.sel && not s.rst

abbrev pub is_calm_row : Change → Bool
is_calm_row c = is_quiet_bus c.before && same_stage c.before c.after
    && (not c.own.sel && not c.own.rst && same_stage c.own c.next) && is_calm c

-- The phase has settled, no MESSAGE OUT is owed, and the target alone drives BSY: REQ may rise.
abbrev pub has_settled : Connection → Standing → ℕ → Bool
has_settled n s time =
    nat_le (max (phase_time s.times) n.began + BUS_SETTLE_DELAY) time && not (is_owed s.duty) && not s.initiator_bsy

-- The end whose turn it is raises data lines, and the other end has released them.
abbrev pub is_in_turn : Bool → Change → Bool
is_in_turn is_target c = implies (raises_data c) (same is_target c.before.io)

abbrev pub has_turned : Standing → Bool → Change → ℕ → Bool
has_turned s is_target c time =
    if c.before.io then (not s.initiator_data || nat_le time (s.times.io + DATA_RELEASE_DELAY))
    && implies (s.turned && is_target && drives_data c.next) (nat_le (s.times.io + TURN_DELAY) time)
    else (not s.target_data || nat_le time (s.times.io + DESKEW_DELAY))

-- Since when the data lines stand as they do after the row.
abbrev pub stand_since : Change → ℕ → ℕ → ℕ
stand_since c since time = if changes_data c then time else since

-- REQ is ahead of ACK by less than the offset, where that sets a limit.
abbrev pub may_ask : ℕ → Pulses → Bool
may_ask offset p = offset == UNLIMITED_OFFSET || nat_lt p.req (p.ack + offset)

abbrev pub last_pulse : Pulses → Change → Option ℕ
last_pulse p c = if c.before.io then p.last_req else p.last_ack

-- A pulse may begin on a line that stands so since this time, by the last pulse on it.
abbrev pub is_apart : TransferTimes → ℕ → Option ℕ → ℕ → Bool
is_apart t since last time = is_after last t.period time && (not (is_some last) || nat_le (since + t.negation) time)

-- A byte may cross: its parity is odd, messages have opened the connection and left no request open, and the
-- command stands whole.
abbrev pub may_cross : Standing → Change → Bool
may_cross s c = has_odd_parity c.after && s.begun && not s.is_open && is_none_or_all s.command

-- It crosses in this row, in which the data lines have stood for the set-up time.
abbrev pub crosses_well : Standing → Change → ℕ → ℕ → Bool
crosses_well s c set_up time = may_cross s c && nat_le (stand_since c s.data_since time + set_up) time

-- What moves does so in its turn, where bytes cross asynchronously: as REQ rises, and as ACK does;
abbrev pub asks_in_turn : Connection → Standing → Change → ℕ → Bool
asks_in_turn n s c time =
    has_settled n s time && not c.before.ack && implies c.before.io (crosses_well s c SET_UP_TIME time)

abbrev pub answers_in_turn : Standing → Change → ℕ → Bool
answers_in_turn s c time = c.before.req && (c.before.io || crosses_well s c SET_UP_TIME time)

-- of what the target moves, REQ and data lines, and of what the initiator moves, ACK and data lines.
abbrev pub target_shakes_well : Connection → Standing → Change → ℕ → Bool
target_shakes_well n s c time =
    implies (rises c.before.req c.after.req) (asks_in_turn n s c time)
    && implies (falls c.before.req c.after.req) c.before.ack
    && implies (changes_data c) (not (holds_still c.before))

abbrev pub initiator_shakes_well : Standing → Change → ℕ → Bool
initiator_shakes_well s c time =
    implies (rises c.before.ack c.after.ack) (answers_in_turn s c time)
    && implies (falls c.before.ack c.after.ack) (not c.before.req)
    && implies (changes_data c) (not (holds_still c.before))

-- The same where bytes cross by pulses of these times.
abbrev pub asks_by_pulse : Connection → Standing → Change → TransferTimes → ℕ → Bool
asks_by_pulse n s c t time =
    has_settled n s time
    && (may_ask s.agreement.offset s.pulses && is_apart t s.times.req s.pulses.last_req time)
    && implies c.before.io (crosses_well s c t.set_up time)

abbrev pub answers_by_pulse : Standing → Change → TransferTimes → ℕ → Bool
answers_by_pulse s c t time =
    (nat_lt s.pulses.ack s.pulses.req && is_apart t s.times.ack s.pulses.last_ack time)
    && (c.before.io || crosses_well s c t.set_up time)

abbrev pub target_pulses_well : Connection → Standing → Change → TransferTimes → ℕ → Bool
target_pulses_well n s c t time =
    implies (rises c.before.req c.after.req) (asks_by_pulse n s c t time)
    && implies (falls c.before.req c.after.req) (nat_le (s.times.req + t.assertion) time)
    && implies (changes_data c) (is_after (last_pulse s.pulses c) t.hold time)

abbrev pub initiator_pulses_well : Standing → Change → TransferTimes → ℕ → Bool
initiator_pulses_well s c t time =
    implies (rises c.before.ack c.after.ack) (answers_by_pulse s c t time)
    && implies (falls c.before.ack c.after.ack) (nat_le (s.times.ack + t.assertion) time)
    && implies (changes_data c) (is_after (last_pulse s.pulses c) t.hold time)

-- A DATA phase under an agreement with an offset uses pulses.
abbrev pub target_moves_well : Connection → Standing → Change → ℕ → Bool
target_moves_well n s c time =
    if is_data c.before && not (s.agreement.offset == 0)
    then target_pulses_well n s c (times_of s.agreement.period) time else target_shakes_well n s c time

abbrev pub initiator_moves_well : Standing → Change → ℕ → Bool
initiator_moves_well s c time =
    if is_data c.before && not (s.agreement.offset == 0)
    then initiator_pulses_well s c (times_of s.agreement.period) time else initiator_shakes_well s c time

abbrev pub turns_well : Standing → Bool → Change → ℕ → Bool
turns_well s is_target c time = is_in_turn is_target c && has_turned s is_target c time

-- A row of the target leaves ACK as it is, one of the initiator REQ; neither drives a line of the other end.
abbrev pub target_passes : Connection → Standing → Change → ℕ → Bool
target_passes n s c time = same c.before.ack c.after.ack && has_no_initiator_line c.next && turns_well s true c time
    && target_moves_well n s c time

abbrev pub initiator_passes : Standing → Change → ℕ → Bool
initiator_passes s c time = same c.before.req c.after.req && has_no_target_line c.next && turns_well s false c time
    && initiator_moves_well s c time

-- In this connection such a row of one of its ends breaks no rule.
abbrev pub passes_in : Connection → Standing → Change → Row → Bool
passes_in n s c row =
    if row.dev == n.target then target_passes n s c row.time
    else (row.dev == n.initiator && initiator_passes s c row.time)

abbrev pub passes_of : Standing → Change → Row → Option Connection → Bool
passes_of s c row None = false
passes_of s c row (Some n) = passes_in n s c row

-- The row drives lines, and not those that its device drove.
abbrev pub is_move : Change → Row → Bool
is_move c row = not (is_fault row.kind) && not (same_set c.own c.next)

abbrev pub passes : Standing → Change → Row → Bool
passes s c row =
    nat_le s.last row.time && is_move c row && is_calm_row c && s.is_alone && passes_of s c row s.connection

-- ---- the terms after such a row

abbrev pub duty_in_data : Duty → Change → Bool → Duty
duty_in_data duty c held =
    if rises c.before.req c.after.req then duties.Nothing
    else if falls c.before.ack c.after.ack && held then duties.Asked else duty

abbrev pub course_after_transfer : Course → Bool → Change → ℕ → Course
course_after_transfer k held c time = record k {
  receiver = receiver_of k.connection c;
  pulses = pulses_on k.pulses c time;
  duty = duty_in_data k.duty c held;
  dialogue = takes_data k.dialogue (crosses_in c);
}

-- The initiator and the target of the connection, if one stands.
abbrev pub initiator_in : Option Connection → Option ℕ
initiator_in None = None
initiator_in (Some n) = Some n.initiator

abbrev pub target_in : Option Connection → Option ℕ
target_in None = None
target_in (Some n) = Some n.target

-- After a row in which ACK does not move, and REQ rises or not.
abbrev pub course_after_ask : Course → Bool → Bool → ℕ → Course
course_after_ask k asks reads time = record k {
  receiver = if asks && reads then initiator_in k.connection else None;
  pulses = record k.pulses { req = count_after asks k.pulses.req; last_req = when asks time k.pulses.last_req };
  duty = if asks then duties.Nothing else k.duty;
  dialogue = takes_data k.dialogue (asks && reads);
}

-- After a row in which REQ does not move, and ACK rises or not; or it falls while ATN is held.
abbrev pub course_after_answer : Course → Bool → Bool → Bool → ℕ → Course
course_after_answer k answers heeded reads time = record k {
  receiver = if answers && not reads then target_in k.connection else None;
  pulses = record k.pulses { ack = count_after answers k.pulses.ack; last_ack = when answers time k.pulses.last_ack };
  duty = if heeded then duties.Asked else k.duty;
  dialogue = takes_data k.dialogue (answers && not reads);
}

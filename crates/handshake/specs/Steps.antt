-- A step of an end of a connection in a phase: what it keeps, which reaction is its next, and what a step makes of it.
use Rattle.std.specs.Prelude.{ℕ, ◌<◌, ◌≤◌, ◌^◌, Bool, true, false, not, ◌&&◌, ◌||◌, ◌==◌, List, length, Option, Some}
use Rattle.std.specs.Prelude.{None, is_some, nat_le, if◌then◌else◌}
use Rattle.bus_trace.specs.LineSet.{LineSet, none}
use Rattle.bus_trace.specs.declared.rows.Row.{Row}
use Rattle.bus_trace.specs.declared.rows.Kind.{Kind}
use Rattle.bus_trace.specs.declared.rows.Kind.TheVariants.{Drives, Fault}
use Rattle.bus_trace.specs.declared.connection.Connection.{Connection}
use Rattle.bus_trace.specs.declared.agreements.Agreement.{Agreement}
use Rattle.bus_trace.specs.declared.agreements.TransferTimes.{TransferTimes}
use Rattle.bus_trace.specs.Agreements.{transfer_times, slow_times}
use Rattle.bus_trace.specs.Changes.{rises}
use Rattle.bus_trace.specs.Trace.{bus, drives}
use Rattle.bus_trace.specs.Terms.{connection}
use Rattle.bus_lines.specs.Handshakes.{Handshakes, handshakes}
use Rattle.reaction_model.specs.declared.due.Due.{Due}
use Rattle.reaction_model.specs.declared.due.Myself.{Myself}
use Rattle.reaction_model.specs.declared.sight.Sight.{Sight}
use Rattle.reaction_model.specs.declared.ends.Pace.{Pace}
use Rattle.reaction_model.specs.declared.ends.Offering.{Offering}
use Rattle.reaction_model.specs.declared.ends.Answering.{Answering}
use Rattle.reaction_model.specs.Reactions.{due_where}
use Rattle.reaction_model.specs.Sight.{sight}
use Rattle.reaction_model.specs.Target.{last_hold_end}
use Rattle.reaction_model.specs.Ends.{target_due, initiator_due}
use Rattle.handshake.specs.Bounds.{IsSteady}
use Rattle.handshake.specs.Crossings.{crossings, untold_crossing}
use Rattle.handshake.specs.declared.end_state.EndState.{EndState}
use Rattle.handshake.specs.declared.hand.Crossed.{Crossed}
use Rattle.handshake.specs.declared.hand.Hand.{Hand}

-- ---- what it keeps

-- How bytes cross under an agreement: by pulses where its offset is above 0 and its factor has transfer times (6.1.5.2,
-- 6.6.21).
abbrev pub times_or : TransferTimes → Option TransferTimes → TransferTimes
times_or slow None = slow
times_or slow (Some times) = times

abbrev pub pace_of : Agreement → ℕ → Pace
pace_of a lag = record {
  pulsed = not (a.offset == 0) && is_some (transfer_times a.period);
  offset = a.offset;
  times = times_or (slow_times a.period) (transfer_times a.period);
  lag = lag;
}

abbrev pub new_state : Agreement → ℕ → ℕ → EndState
new_state a latency lag = record { pace = pace_of a lag; latency = latency; since = 0; raised = 0; byte_count = 0 }

-- Its times lie before 2 ^ 63 ns, and its delays are short.
pub record IsBounded (e : EndState) : Type 0 where
  pub pace : IsSteady e.pace
  pub latency : e.latency ≤ 100
  pub since : e.since < 2 ^ 63
  pub raised : e.raised < 2 ^ 63

-- ---- its next reaction

-- It drives what the rows say of it.
abbrev pub self_of : EndState → List Row → ℕ → Myself
self_of e rows dev = record { dev = dev; latency = e.latency; own = drives rows dev; since = e.since }

-- A byte that is asked for where none is offered is 00. ATN is the device's, and no time depends on whether it will
-- ask.
abbrev pub byte_or_zero : Option ℕ → ℕ
byte_or_zero None = 0
byte_or_zero (Some byte) = byte

abbrev pub answering_by : ℕ → Option ℕ → Answering
answering_by raised offered = record { byte = byte_or_zero offered; attends = false; speaks = false; raised = raised }

abbrev pub offering_by : Option ℕ → Offering
offering_by offered = record { byte = byte_or_zero offered; follows = is_some offered; to = none; wait = 0 }

-- The initiator: to release BSY after a reselection comes before it, and is not of the phase (6.1.4).
abbrev pub initiator_reaction : Sight → Handshakes → EndState → Option ℕ → Myself → Option Due
initiator_reaction v h e offered me =
    due_where (not me.own.bsy) (initiator_due true v h me e.pace (answering_by e.raised offered))

-- The target, as long as it has something to do in the phase: a byte follows, or its REQ is true, or the last byte of a
-- pulsed phase to the initiator has not been held. Then it leaves the phase, which is not of the phase (6.1.5.2,
-- 6.1.10).
abbrev pub holds_byte : Sight → Handshakes → Pace → Myself → Bool
holds_byte v h p me = p.pulsed && v.bus.io && not (h.requests == 0) && not (me.own.data_bits == 0)

abbrev pub has_more : Sight → Handshakes → Pace → Bool → Myself → Bool
has_more v h p follows me = follows || me.own.req || holds_byte v h p me

abbrev pub target_reaction : Sight → Handshakes → EndState → Option ℕ → Myself → Option Due
target_reaction v h e offered me =
    due_where (has_more v h e.pace (is_some offered) me) (target_due true v h me e.pace (offering_by offered))

-- After these rows: nothing where no connection stands.
abbrev pub initiator_next : List Row → EndState → Option ℕ → Option Connection → Option Due
initiator_next rows e offered None = None
initiator_next rows e offered (Some n) =
    initiator_reaction (sight rows) (handshakes rows) e offered (self_of e rows n.initiator)

abbrev pub target_next : List Row → EndState → Option ℕ → Option Connection → Option Due
target_next rows e offered None = None
target_next rows e offered (Some n) =
    target_reaction (sight rows) (handshakes rows) e offered (self_of e rows n.target)

-- ---- what a step makes of it

-- The data lines, DB(P), REQ and ACK of a row; the device adds the lines of the phase, or ATN.
abbrev pub data_lines : LineSet → LineSet
data_lines lines = record none { data_bits = lines.data_bits }

abbrev pub transfer_lines : LineSet → LineSet
transfer_lines lines = record none { data_bits = lines.data_bits; req = lines.req; ack = lines.ack }

-- It remembers when it made a row, and when it raised ACK.
abbrev pub state_after : ℕ → LineSet → LineSet → EndState → EndState
state_after now before lines e = record e { since = now; raised = if rises before.ack lines.ack then now else e.raised }

-- A step that makes no row, and says when to look again; and one that makes the row of these lines.
abbrev pub still_hand : EndState → Option ℕ → Option Crossed → Bool → Hand EndState
still_hand e wake crossed idle = record { next = e; drives = None; wake = wake; crossed = crossed; idle = idle }

abbrev pub row_hand : EndState → LineSet → ℕ → Option Crossed → Bool → Kind → Hand EndState
row_hand e before now crossed idle (Drives lines) = record {
  next = state_after now before lines e;
  drives = Some (transfer_lines lines);
  wake = None;
  crossed = crossed;
  idle = idle;
}
row_hand e before now crossed idle (Fault bit) = still_hand e None crossed idle

-- What is due at or before now it makes now; what is due later it waits for.
abbrev pub hand_by : EndState → LineSet → ℕ → Option Crossed → Bool → Option Due → Hand EndState
hand_by e before now crossed idle None = still_hand e None crossed idle
hand_by e before now crossed idle (Some x) =
    if nat_le x.time now then row_hand e before now crossed idle x.kind else still_hand e (Some x.time) crossed idle

-- REQ and ACK are false, no byte is unanswered, and the last byte of a pulsed phase has been held (6.1.5.1, 6.1.5.2).
abbrev pub is_held : Sight → Handshakes → Pace → ℕ → Bool
is_held v h p now = not p.pulsed || h.requests == 0 || nat_le (last_hold_end v h p) now

abbrev pub is_idle : Sight → Handshakes → Pace → ℕ → Bool
is_idle v h p now = not v.bus.req && not v.bus.ack && length h.waiting == 0 && is_held v h p now

-- It knows now of all bytes that have crossed.
abbrev pub with_byte_count : EndState → Bool → Handshakes → EndState
with_byte_count e into h = record e { byte_count = crossings into h }

abbrev pub hand_after : Bool → List Row → EndState → ℕ → Option ℕ → Option Due → Hand EndState
hand_after into rows e now flip due =
    hand_by (with_byte_count e into (handshakes rows)) (bus rows) now (untold_crossing into e.byte_count flip rows)
    (is_idle (sight rows) (handshakes rows) e.pace now) due

-- `into` says whether the phase is to the initiator.
abbrev pub initiator_hand : Bool → List Row → EndState → ℕ → Option ℕ → Option ℕ → Hand EndState
initiator_hand into rows e now offered flip =
    hand_after into rows e now flip (initiator_next rows e offered (connection rows))

abbrev pub target_hand : Bool → List Row → EndState → ℕ → Option ℕ → Option ℕ → Hand EndState
target_hand into rows e now offered flip =
    hand_after into rows e now flip (target_next rows e offered (connection rows))

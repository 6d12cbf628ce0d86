-- What the two ends of a connection drive, and the first row of a connection (6.1.3 to 6.1.5).
use Rattle.std.specs.Prelude.{ℕ, ◌≡◌, ◌≢◌, ◌<◌, Bool, true, false, List, Some, None}
use Rattle.std.specs.Int.RustNames.{bit_or}
use Rattle.due_model.specs.bus_trace.specs.LineSet.{LineSet, none}
use Rattle.due_model.specs.bus_trace.specs.declared.Row.{Row}
use Rattle.due_model.specs.bus_trace.specs.declared.connection.Connection.{Connection}
use Rattle.due_model.specs.bus_trace.specs.Trace.{drives, last_time, line_times}
use Rattle.due_model.specs.bus_trace.specs.Terms.{receiver}
use Rattle.due_model.specs.bus_phases.specs.declared.attention.Duty.TheVariants as duties
use Rattle.due_model.specs.bus_phases.specs.Phases.{pulses, no_pulses, duty, turned}
use Rattle.due_model.specs.bus_lines.specs.Handshakes.{handshakes, no_handshakes}
use Rattle.due_model.specs.dialogue_model.specs.Hearing.{begun}
use Rattle.bus_laws.specs.Rows.{Stands}

-- The initiator drives BSY until it has handed it over, ACK, ATN and a byte; the target BSY, the phase lines, REQ and a
-- byte.
pub record EndLines : Type 0 where
  pub bsy : Bool
  pub ack : Bool
  pub atn : Bool
  pub sent : ℕ
  pub msg : Bool
  pub cd : Bool
  pub io : Bool
  pub req : Bool
  pub given : ℕ

abbrev pub initiator_side : EndLines → LineSet
initiator_side e = record none { data_bits = e.sent; bsy = e.bsy; ack = e.ack; atn = e.atn }

abbrev pub target_side : EndLines → LineSet
target_side e = record none { data_bits = e.given; bsy = true; msg = e.msg; cd = e.cd; io = e.io; req = e.req }

abbrev pub connected_bus : EndLines → LineSet
connected_bus e = record none {
  data_bits = bit_or e.sent e.given;
  bsy = true;
  msg = e.msg;
  cd = e.cd;
  io = e.io;
  req = e.req;
  ack = e.ack;
  atn = e.atn;
}

-- The two ends of the connection that stands drive these lines, and no third device drives one.
pub record Linked (p : List Row) (n : Connection) (e : EndLines) : Type 0 where
  pub stands : Stands p (connected_bus e) None None (Some n)
  pub initiator_below : n.initiator < 8
  pub target_below : n.target < 8
  pub apart : n.initiator ≢ n.target
  pub initiator : drives p n.initiator ≡ initiator_side e
  pub target : drives p n.target ≡ target_side e
  pub rest : (d : ℕ) → d < 8 → d ≢ n.initiator → d ≢ n.target → drives p d ≡ none

-- After a selection the initiator drives ATN and the target BSY. After a reselection the initiator drives BSY, and the
-- target begins MESSAGE IN with a first byte.
abbrev pub ends_selected : EndLines
ends_selected = record {
  bsy = false;
  ack = false;
  atn = true;
  sent = 0;
  msg = false;
  cd = false;
  io = false;
  req = false;
  given = 0;
}

abbrev pub ends_reselected : ℕ → EndLines
ends_reselected y =
    record { bsy = true; ack = false; atn = false; sent = 0; msg = true; cd = true; io = true; req = false; given = y }

pub record BeginsSelected (p : List Row) (n : Connection) : Type 0 where
  pub linked : Linked p n ends_selected
  pub begun_is : begun p ≡ false
  pub pulses_are : pulses p ≡ no_pulses
  pub duty_is : duty p ≡ duties.Nothing
  pub turned_is : turned p ≡ false
  pub receiver_is : receiver p ≡ None
  pub began : n.began ≡ last_time p
  pub sel_age : (line_times p).sel ≡ last_time p

pub record BeginsReselected (p : List Row) (n : Connection) (y : ℕ) : Type 0 where
  pub linked : Linked p n (ends_reselected y)
  pub begun_is : begun p ≡ true
  pub handshakes_are : handshakes p ≡ no_handshakes
  pub pulses_are : pulses p ≡ no_pulses
  pub duty_is : duty p ≡ duties.Nothing
  pub turned_is : turned p ≡ false
  pub receiver_is : receiver p ≡ None
  pub began : n.began ≡ last_time p
  pub sel_age : (line_times p).sel ≡ last_time p
  pub msg_age : (line_times p).msg ≡ last_time p
  pub io_age : (line_times p).io < last_time p

-- A connection begins with the last row.
pub data BeginsConnection (p : List Row) (n : Connection) : Type 0 where
  by_selection : BeginsSelected p n → BeginsConnection p n
  by_reselection : (y : ℕ) → BeginsReselected p n y → BeginsConnection p n

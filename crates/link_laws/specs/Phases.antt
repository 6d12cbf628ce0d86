-- The stages of a connection (6.1.5 to 6.1.10): what the two ends drive in each, and since when.
use Rattle.std.specs.Prelude.{⊤, ℕ, ◌≡◌, ◌≤◌, ◌+◌, ◌==◌, Bool, true, false, not, ◌&&◌, ◌||◌, List, Some, None}
use Rattle.std.specs.Prelude.{if◌then◌else◌}
use Rattle.due_model.specs.bus_trace.specs.declared.Row.{Row}
use Rattle.due_model.specs.bus_trace.specs.declared.connection.Connection.{Connection}
use Rattle.due_model.specs.bus_trace.specs.LineSet.{data_of}
use Rattle.due_model.specs.bus_trace.specs.declared.line_times.LineTimes.{LineTimes}
use Rattle.due_model.specs.bus_trace.specs.Trace.{last_time, since, line_times, phase_time}
use Rattle.due_model.specs.bus_trace.specs.Changes.{implies}
use Rattle.due_model.specs.bus_trace.specs.Agreements.{times_of}
use Rattle.due_model.specs.bus_phases.specs.declared.attention.Duty.{Duty}
use Rattle.due_model.specs.bus_phases.specs.declared.attention.Duty.TheVariants as duties
use Rattle.due_model.specs.bus_phases.specs.Phases.{pulses, no_pulses, duty, turned}
use Rattle.due_model.specs.bus_trace.specs.Terms.{receiver}
use Rattle.due_model.specs.bus_rules.specs.Order.{is_of_device}
use Rattle.due_model.specs.bus_phases.specs.Dialogue.{dialogue}
use Rattle.due_model.specs.bus_lines.specs.Handshakes.{handshakes, no_handshakes}
use Rattle.due_model.specs.scenario.specs.Value.{ScenarioValue}
use Rattle.due_model.specs.story_model.specs.Samples.{latency_of}
use Rattle.due_model.specs.dialogue_model.specs.Hearing.{begun}
use Rattle.due_model.specs.dialogue_model.specs.Ends.{is_pulsed_phase}
use Rattle.due_model.specs.Own.{own_of}
use Rattle.bus_laws.specs.Reactions.{own_time}
use Rattle.bus_laws.specs.Ends.{EndLines, connected_bus, Linked}

abbrev pub ends : Bool → Bool → Bool → ℕ → Bool → Bool → Bool → Bool → ℕ → EndLines
ends bsy ack atn x msg cd io req y =
    record { bsy = bsy; ack = ack; atn = atn; sent = x; msg = msg; cd = cd; io = io; req = req; given = y }

-- MESSAGE OUT is owed, or will be, only while ATN is true; and it is owed in a MESSAGE phase alone (6.2.1).
abbrev pub fits_duty : Duty → (atn msg : Bool) → Bool
fits_duty duties.Nothing atn msg = true
fits_duty duties.Asked atn msg = atn
fits_duty duties.Owed atn msg = atn && msg

-- As a phase begins it is owed in MESSAGE OUT alone.
abbrev pub is_owed_out : Duty → (io : Bool) → Bool
is_owed_out duties.Nothing io = true
is_owed_out duties.Asked io = true
is_owed_out duties.Owed io = not io

-- A phase has begun, none that is reserved. ATN is true in MESSAGE OUT, and in phases to the initiator, alone.
pub record InPhase (p : List Row) (n : Connection) (e : EndLines) : Type 0 where
  pub begun_is : begun p ≡ true
  pub began : n.began ≤ phase_time (line_times p)
  pub known : (e.msg && not e.cd) ≡ false
  pub asks : implies e.atn (e.io || e.msg) ≡ true
  pub owes : fits_duty (duty p) e.atn e.msg ≡ true

-- The byte of the end that does not give in the phase is none.
abbrev pub OneSide : Bool → ℕ → ℕ → Type 0
OneSide true x y = x ≡ 0
OneSide false x y = y ≡ 0

-- Since I/O turned to true a data release delay and a bus settle delay have gone.
abbrev pub HasTurned : List Row → Bool → Type 0
HasTurned p io = turned p ≡ true → io ≡ true → (line_times p).io + 800 ≤ last_time p

-- A phase has begun in which REQ may rise a bus settle delay after the phase lines; the initiator that was reselected
-- drives BSY still, or not.
pub record Settling (p : List Row) (n : Connection) (bsy atn msg cd io : Bool) (y : ℕ) : Type 0 where
  pub linked : Linked p n (ends bsy false atn 0 msg cd io false y)
  pub phase : InPhase p n (ends bsy false atn 0 msg cd io false y)
  pub quiet : handshakes p ≡ no_handshakes
  pub pulses_are : pulses p ≡ no_pulses
  pub receiver_is : receiver p ≡ None
  pub unturned : (io && (line_times p).io == phase_time (line_times p)) ≡ false
  pub duty_is : is_owed_out (duty p) io ≡ true
  pub side : OneSide io 0 y
  pub turned : HasTurned p io
  pub driven : since data_of p ≤ phase_time (line_times p)
  pub fresh : last_time p ≤ phase_time (line_times p) + 400
  pub hands : bsy ≡ true
      → (io ≡ true) × ((line_times p).sel ≤ phase_time (line_times p)) × (last_time p ≤ (line_times p).sel)

-- I/O turned to true; the initiator has not released its last byte of a data phase yet, or has.
pub record OwesRelease (s : ScenarioValue) (p : List Row) (n : Connection) (msg cd : Bool) : Type 0 where
  pub other : (not msg && not cd) ≡ false
  pub raised : (own_of p n.initiator).ack ≤ phase_time (line_times p)
  pub ahead : (lat : ℕ) → latency_of s n.initiator ≡ Some lat
      → last_time p ≤ (own_of p n.initiator).ack + (times_of (dialogue p).heard.now.agreement.period).hold + lat

pub record Turning (s : ScenarioValue) (p : List Row) (n : Connection) (atn : Bool) (x : ℕ) (msg cd : Bool) : Type
    0 where
  pub linked : Linked p n (ends false false atn x msg cd true false 0)
  pub phase : InPhase p n (ends false false atn x msg cd true false 0)
  pub quiet : handshakes p ≡ no_handshakes
  pub pulses_are : pulses p ≡ no_pulses
  pub receiver_is : receiver p ≡ None
  pub turned : ((line_times p).io == phase_time (line_times p)) ≡ true
  pub duty_is : is_owed_out (duty p) true ≡ true
  pub fresh : last_time p ≤ phase_time (line_times p) + 400
  pub owed : (x == 0) ≡ false → OwesRelease s p n msg cd

-- The target drives the first byte after that.
pub record Offering (p : List Row) (n : Connection) (atn msg cd : Bool) (y : ℕ) : Type 0 where
  pub linked : Linked p n (ends false false atn 0 msg cd true false y)
  pub phase : InPhase p n (ends false false atn 0 msg cd true false y)
  pub quiet : handshakes p ≡ no_handshakes
  pub pulses_are : pulses p ≡ no_pulses
  pub receiver_is : receiver p ≡ None
  pub turned : ((line_times p).io == phase_time (line_times p)) ≡ true
  pub some : (y == 0) ≡ false
  pub duty_is : is_owed_out (duty p) true ≡ true
  pub waited : (line_times p).io + 800 ≤ last_time p
  pub driven : since data_of p ≤ own_time p n.target
  pub fresh : last_time p ≤ own_time p n.target

-- ---- byte by byte (6.1.5.1)

-- When the last row was, a fault row apart: by the times of the lines, and by when the initiator made its last row.
abbrev pub shaking_time : LineTimes → (initiator : ℕ) → (req ack io : Bool) → ℕ → ℕ
shaking_time v own true true io x = v.ack
shaking_time v own true false true x = v.req
shaking_time v own true false false x = if x == 0 then v.req else own
shaking_time v own false true io x = v.req
shaking_time v own false false io x = v.ack

-- What the data lines are by then, and since when: by when the target and the initiator made their last rows.
abbrev pub HasDriven : (since target initiator : ℕ) → (req ack io : Bool) → ℕ → Type 0
HasDriven since target initiator req ack true x = since ≤ target
HasDriven since target initiator true false false x = (x == 0) ≡ false → since ≤ initiator
HasDriven since target initiator true true false x = ⊤
HasDriven since target initiator false true false x = ⊤
HasDriven since target initiator false false false x = x ≡ 0

pub record Shaking (p : List Row) (n : Connection) (msg cd io req ack atn : Bool) (x y : ℕ) : Type 0 where
  pub linked : Linked p n (ends false ack atn x msg cd io req y)
  pub phase : InPhase p n (ends false ack atn x msg cd io req y)
  pub asked : ((handshakes p).requests == 0) ≡ false
  pub unpulsed :
      is_pulsed_phase true (connected_bus (ends false ack atn x msg cd io req y)) (dialogue p).heard.now.agreement
      ≡ false
  pub settled : phase_time (line_times p) + 400 ≤ last_time p
  pub side : OneSide io x y
  pub turned : HasTurned p io
  pub driven : HasDriven (since data_of p) (own_time p n.target) (own_time p n.initiator) req ack io x
  pub fresh : last_time p ≤ shaking_time (line_times p) (own_time p n.initiator) req ack io x
  pub receives : (d : ℕ) → is_of_device (receiver p) d ≡ true → d ≡ (if io then n.initiator else n.target)

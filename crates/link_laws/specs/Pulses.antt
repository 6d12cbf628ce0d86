-- A data phase by pulses (6.1.5.2): how many pulses wait for their answer, and since when the lines and the bytes
-- stand.
use Rattle.std.specs.Prelude.{ℕ, ◌≡◌, ◌<◌, ◌≤◌, ◌+◌, ◌^◌, ◌==◌, max, Bool, true, false, not, ◌&&◌, ◌||◌, List, Option}
use Rattle.std.specs.Prelude.{Some, None, length, nat_lt, is_some, if◌then◌else◌}
use Rattle.due_model.specs.bus_trace.specs.declared.Row.{Row}
use Rattle.due_model.specs.bus_trace.specs.declared.agreements.TransferTimes.{TransferTimes}
use Rattle.due_model.specs.bus_trace.specs.declared.connection.Connection.{Connection}
use Rattle.due_model.specs.bus_trace.specs.LineSet.{data_of}
use Rattle.due_model.specs.bus_trace.specs.Agreements.{times_of}
use Rattle.due_model.specs.bus_trace.specs.Terms.{receiver}
use Rattle.due_model.specs.bus_trace.specs.Trace.{bus, last_time, since, line_times, phase_time}
use Rattle.due_model.specs.bus_phases.specs.declared.pulses.Pulses.{Pulses}
use Rattle.due_model.specs.bus_phases.specs.Phases.{pulses}
use Rattle.due_model.specs.bus_phases.specs.Dialogue.{dialogue}
use Rattle.due_model.specs.bus_rules.specs.Order.{is_of_device}
use Rattle.due_model.specs.bus_lines.specs.Handshakes.{Handshakes, handshakes, first_of, time_of, room_by}
use Rattle.due_model.specs.scenario.specs.Value.{ScenarioValue}
use Rattle.due_model.specs.story_model.specs.Samples.{latency_of}
use Rattle.due_model.specs.reaction_model.specs.Target.{byte_bits, bits_if}
use Rattle.due_model.specs.dialogue_model.specs.Arrivals.{policy_of}
use Rattle.due_model.specs.dialogue_model.specs.Ends.{lag_by}
use Rattle.due_model.specs.dialogue_model.specs.PhaseBytes.{run_length_if, data_byte}
use Rattle.due_model.specs.dialogue_model.specs.Sending.{byte_to_send}
use Rattle.due_model.specs.Defs.{host_of, target_def_of}
use Rattle.due_model.specs.RunSteps.{run_state}
use Rattle.due_model.specs.Sights.{sending_of}
use Rattle.due_model.specs.Tasks.{task_of, given_of}
use Rattle.due_model.specs.Own.{own_of}
use Rattle.bus_laws.specs.Ends.{Linked}
use Rattle.link_laws.specs.Phases.{ends, InPhase, OneSide, HasTurned}

-- The times of the agreement that holds.
abbrev pub times_here : List Row → TransferTimes
times_here p = times_of (dialogue p).heard.now.agreement.period

abbrev pub offset_here : List Row → ℕ
offset_here p = (dialogue p).heard.now.agreement.offset

-- The pulses that the rules count are those that the ends count.
abbrev pub pulses_of : Handshakes → Pulses
pulses_of h = record {
  req = h.requests;
  ack = h.answers;
  last_req = Some h.last_req;
  last_ack =
      if h.answers == 0 then None else Some h.last_ack;
}

-- A pulse rose at this time and stands, or it has ended after its assertion period.
abbrev pub HasPulsed : Bool → (changed rose assertion : ℕ) → Type 0
HasPulsed true changed rose assertion = changed ≡ rose
HasPulsed false changed rose assertion = rose + assertion ≤ changed

-- As many wait as when REQ last rose, where ACK has not risen after that; else fewer.
abbrev pub Reached : Option ℕ → (waiting reach : ℕ) → Type 0
Reached None waiting reach = waiting ≡ reach
Reached (Some time) waiting reach = waiting < reach

-- Since when the byte on the data lines stands: that of the target by the last REQ pulse, that of the initiator by the
-- oldest that waits, and by its own last ACK pulse.
abbrev pub drives_by : Handshakes → (hold raised latency : ℕ) → ℕ
drives_by h hold raised latency =
    if h.answers == 0 then time_of (first_of h.waiting) + latency
    else max (time_of (first_of h.waiting) + latency) (raised + hold + latency)

abbrev pub HasDrivenPulsed : ScenarioValue → List Row → Connection → (io : Bool) → ℕ → Type 0
HasDrivenPulsed s p n true x =
    (lat : ℕ) → latency_of s n.target ≡ Some lat → since data_of p ≤ (handshakes p).last_req + (times_here p).hold + lat
HasDrivenPulsed s p n false x =
    ((handshakes p).answers == 0 && x == 0) ≡ false → (lat : ℕ) → latency_of s n.initiator ≡ Some lat
    → since data_of p ≤ drives_by (handshakes p) (times_here p).hold (own_of p n.initiator).ack lat

-- The pulses of a phase, and their times: REQ and ACK changed last at the times `req_time` and `ack_time`, and the
-- initiator last raised ACK at `raised`. They are fewer than those at which the count of them stays (`within`).
pub record PulseFacts (h : Handshakes) (req_time ack_time raised assertion offset last : ℕ) (req ack : Bool) : Type
    0 where
  pub asked : (h.requests == 0) ≡ false
  pub counts : h.requests ≡ h.answers + length h.waiting
  pub within : h.requests < 2 ^ 64
  pub reached : Reached h.relieved (length h.waiting) h.reach
  pub few : h.reach ≤ offset
  pub req_stands : HasPulsed req req_time h.last_req assertion
  pub ack_stands : (h.answers == 0) ≡ false → HasPulsed ack ack_time h.last_ack assertion
  pub ack_first : ack ≡ true → (h.answers == 0) ≡ false
  pub raised_is : (h.answers == 0) ≡ false → raised ≡ h.last_ack
  pub req_past : h.last_req ≤ last
  pub ack_past : h.last_ack ≤ last
  pub all_answered : length h.waiting ≡ 0 → h.last_req ≤ h.last_ack

pub record Pulsing (s : ScenarioValue) (p : List Row) (n : Connection) (io req ack atn : Bool) (x y : ℕ) : Type 0 where
  pub linked : Linked p n (ends false ack atn x false false io req y)
  pub phase : InPhase p n (ends false ack atn x false false io req y)
  pub offset : nat_lt 0 (offset_here p) ≡ true
  pub byte_offset : offset_here p < 256
  pub settled : phase_time (line_times p) + 400 ≤ last_time p
  pub side : OneSide io x y
  pub turned : HasTurned p io
  pub pulses_are : pulses p ≡ pulses_of (handshakes p)
  pub facts : PulseFacts (handshakes p) (line_times p).req (line_times p).ack (own_of p n.initiator).ack
      (times_here p).assertion (offset_here p) (last_time p) req ack
  pub driven : HasDrivenPulsed s p n io x
  pub receives : (d : ℕ) → is_of_device (receiver p) d ≡ true → d ≡ (if io then n.initiator else n.target)
  pub received : io ≡ false → is_some (receiver p) ≡ true → ack ≡ true

-- ---- when the two ends act next

-- How many bytes the present run has, and which; and the bits of the byte that the target drives next, and of that
-- which the initiator gives next.
abbrev pub run_count : ScenarioValue → List Row → Connection → ℕ
run_count s p n = run_length_if (policy_of (target_def_of s n.target)) (task_of s (run_state s p))

abbrev pub byte_in_run : ScenarioValue → List Row → Connection → ℕ → ℕ
byte_in_run s p n place =
    data_byte (policy_of (target_def_of s n.target)) (task_of s (run_state s p)) (given_of s (run_state s p)) 0 place

abbrev pub next_bits : ScenarioValue → List Row → Connection → ℕ
next_bits s p n = bits_if (nat_lt (handshakes p).requests (run_count s p n)) (byte_in_run s p n (handshakes p).requests)

abbrev pub given_here : ScenarioValue → List Row → ℕ
given_here s p = byte_bits (byte_to_send (bus p) (run_state s p).exchange.speech (sending_of s (run_state s p)))

-- The target ends its pulse, changes the byte, pulses again, or leaves the phase.
abbrev pub target_time : (pulses changes follows room held : Bool) → ℕ → ℕ → ℕ → ℕ → Option ℕ
target_time pulses changes follows room held a b c d = if pulses then Some a
    else if changes then Some b else if follows then (if room then Some c else None) else if held then None else Some d

abbrev pub target_next : (io req ack : Bool) → ℕ → Handshakes → (req_time ack_time : ℕ) → TransferTimes
    → (offset run bits latency : ℕ) → Option ℕ
target_next io req ack y h req_time ack_time z offset run bits lat = target_time req (io && not (y == bits))
    (nat_lt h.requests run) (nat_lt (length h.waiting) offset) (not (length h.waiting == 0) || ack) (req_time
    + z.assertion + lat) (h.last_req + z.hold + lat) (max (max (h.last_req + z.period) (req_time + z.negation))
    (max (room_by offset h) (if io then h.last_req + z.hold + lat + z.set_up else 0)) + lat)
    (max ack_time ((if io then h.last_req else h.last_ack) + z.hold) + lat)

-- The initiator ends its pulse, answers the oldest, drives its byte, or releases it.
abbrev pub initiator_time : (pulses waiting io same none : Bool) → ℕ → ℕ → ℕ → ℕ → ℕ → Option ℕ
initiator_time pulses waiting io same none a b c d e =
    if pulses then Some a else if waiting then (if io then Some b else if same then Some c else Some d)
    else if io then None else if none then None else Some e

abbrev pub answers_at : Handshakes → (ack_time lag : ℕ) → TransferTimes → ℕ
answers_at h ack_time lag z = max (time_of (first_of h.waiting) + lag)
    (if h.answers == 0 then 0 else max (h.last_ack + z.period) (ack_time + z.negation))

abbrev pub drives_at : Handshakes → TransferTimes → (raised latency : ℕ) → ℕ
drives_at h z raised lat =
    if h.answers == 0 then time_of (first_of h.waiting) + lat
    else max (time_of (first_of h.waiting) + lat) (raised + z.hold + lat)

abbrev pub initiator_next : (io ack atn : Bool) → ℕ → Handshakes → (ack_time atn_time : ℕ) → TransferTimes
    → (lag raised bits latency : ℕ) → Option ℕ
initiator_next io ack atn x h ack_time atn_time z lag raised bits lat =
    initiator_time ack (not (length h.waiting == 0)) io (x == bits) (x == 0)
    (ack_time + (if atn && atn_time == ack_time then max 90 z.assertion else z.assertion) + lat)
    (answers_at h ack_time lag z + lat)
    (max (answers_at h ack_time lag z) (drives_at h z raised lat + z.set_up) + lat)
    (drives_at h z raised lat)
    (raised + z.hold + lat)

abbrev pub target_next_at : ScenarioValue → List Row → Connection → (io req ack : Bool) → ℕ → ℕ → Option ℕ
target_next_at s p n io req ack y lat = target_next io req ack y (handshakes p) (line_times p).req (line_times p).ack
    (times_here p) (offset_here p) (run_count s p n) (next_bits s p n) lat

abbrev pub initiator_next_at : ScenarioValue → List Row → Connection → (io ack atn : Bool) → ℕ → ℕ → Option ℕ
initiator_next_at s p n io ack atn x lat = initiator_next io ack atn x (handshakes p) (line_times p).ack
    (line_times p).atn (times_here p) (lag_by (host_of s n.initiator)) (own_of p n.initiator).ack (given_here s p) lat

-- Neither of them acts before this time.
abbrev pub NoSooner : ℕ → Option ℕ → Type 0
NoSooner t o = (x : ℕ) → o ≡ Some x → t ≤ x

pub record EndsAhead (s : ScenarioValue) (p : List Row) (n : Connection) (io req ack atn : Bool) (x y : ℕ) : Type
    0 where
  pub target : (lat : ℕ) → latency_of s n.target ≡ Some lat
      → NoSooner (last_time p) (target_next_at s p n io req ack y lat)
  pub initiator : (lat : ℕ) → latency_of s n.initiator ≡ Some lat
      → NoSooner (last_time p) (initiator_next_at s p n io ack atn x lat)

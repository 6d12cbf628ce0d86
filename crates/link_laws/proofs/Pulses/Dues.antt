-- What is due of the two ends of a data phase by pulses (6.1.5.2).
use Rattle.link_laws.proofs
use proofs.Names.{ℕ, ◌≡◌, ◌+◌, Bool, true, false, not, ◌&&◌, ◌||◌, ◌==◌, ◌∙◌, List, Option, None, sym, ap, length}
use proofs.Names.{if◌then◌else◌, max, nat_lt, line_times, Row, Connection, Handshakes, handshakes, first_of, time_of}
use proofs.Names.{is_struck, room_by, ScenarioValue, owes_release, initiator_pulse, initiator_handshake, byte_release}
use proofs.Names.{due_at, first_req, target_pulse, target_handshake, req_pulse_end, byte_change, pulse_turn, byte_bits}
use proofs.Names.{bits_if, Due, Myself, Answering, Offering, Pace, Sight, offering_by, lag_by, phase_of, host_of}
use proofs.Names.{own_of, run_state, serving_at, EndLines, initiator_side, target_side, connected_bus, own_time}
use proofs.{Names.{device_with, ends, times_here, offset_here, run_count, next_bits}, Dues.Ends.{sight_with, pace_with}}
use proofs.Dues.Ends.{offering_with, answering_with, target_plain, initiator_plain}

-- ---- the target: it ends its pulse, changes the byte, pulses again, or leaves the phase

abbrev pub target_choice : (pulses changes follows room held : Bool) → Option Due → Option Due → Option Due → Option Due
    → Option Due
target_choice pulses changes follows room held a b c d = if pulses then a
    else if changes then b else if follows then (if room then c else None) else if held then None else d

abbrev pub hold_end_time : List Row → ℕ → ℕ
hold_end_time p lat = (handshakes p).last_req + (times_here p).hold + lat

abbrev pub pulse_time : List Row → Bool → ℕ → ℕ
pulse_time p io lat =
    max (max ((handshakes p).last_req + (times_here p).period) ((line_times p).req + (times_here p).negation))
    (max (room_by (offset_here p) (handshakes p)) (if io then hold_end_time p lat + (times_here p).set_up else 0))
    + lat

abbrev pub leaving_time : List Row → Bool → ℕ → ℕ
leaving_time p io lat =
    max (line_times p).ack ((if io then (handshakes p).last_req else (handshakes p).last_ack) + (times_here p).hold)
    + lat

pub pulsed_target_in : (s : ScenarioValue) (p : List Row) (n : Connection) (req ack atn : Bool) (y lat : ℕ)
    → nat_lt 0 (offset_here p) ≡ true → ((handshakes p).requests == 0) ≡ false
    → target_plain s p n true (ends false ack atn 0 false false true req y) lat
    ≡ target_choice req (not (y == next_bits s p n)) (nat_lt (handshakes p).requests (run_count s p n))
    (nat_lt (length (handshakes p).waiting) (offset_here p)) (not (length (handshakes p).waiting == 0) || ack) (due_at
    ((line_times p).req + (times_here p).assertion + lat) (target_side (ends false ack atn 0 false false true false y)))
    (due_at (hold_end_time p lat) (target_side (ends false ack atn 0 false false true req (next_bits s p n))))
    (due_at (pulse_time p true lat) (target_side (ends false ack atn 0 false false true true y)))
    (due_at (leaving_time p true lat) (offering_with s p n true (ends false ack atn 0 false false true req y)).to)
pulsed_target_in s p n req ack atn y lat off asked =
    let e : EndLines = ends false ack atn 0 false false true req y in
    let v : Sight = sight_with p n e in
    let h : Handshakes = handshakes p in
    let me : Myself = device_with n.target lat (target_side e) (own_time p n.target) in
    let pace : Pace = pace_with s p true e n.target in
    let g : Bool → Offering = λ q. offering_by
    (serving_at s (run_state s p) n.target (phase_of (connected_bus e))) true q (connected_bus e) h in
    (λ i. if off i then target_pulse v h me pace (g (off i)) else target_handshake v h me (g (off i)))
    ∙ ap (λ (q : Bool). if req then req_pulse_end v me pace else if q then first_req v me (g true)
    else if true && not (y == bits_if (g true).follows (g true).byte) then byte_change h me pace (g true)
    else pulse_turn v h me pace (g true)) asked
    ∙ ap
    (λ (q : Bool). target_choice req (not (y == next_bits s p n)) (nat_lt (handshakes p).requests (run_count s p n))
    (nat_lt (length (handshakes p).waiting) (offset_here p)) (not (length (handshakes p).waiting == 0) || ack) (due_at
    ((line_times p).req + (times_here p).assertion + lat) (target_side (ends false ack atn 0 false false true false y)))
    (due_at (hold_end_time p lat) (target_side (ends false ack atn 0 false false true req (next_bits s p n))))
    (due_at (pulse_time p true lat) (target_side (ends false ack atn 0 false false true true y)))
    (due_at (leaving_time p true lat) (g q).to)) (sym off)

pub pulsed_target_out : (s : ScenarioValue) (p : List Row) (n : Connection) (req ack atn : Bool) (x lat : ℕ)
    → nat_lt 0 (offset_here p) ≡ true → ((handshakes p).requests == 0) ≡ false
    → target_plain s p n true (ends false ack atn x false false false req 0) lat ≡ target_choice req false
    (nat_lt (handshakes p).requests (run_count s p n)) (nat_lt (length (handshakes p).waiting) (offset_here p))
    (not (length (handshakes p).waiting == 0) || ack) (due_at ((line_times p).req + (times_here p).assertion + lat)
    (target_side (ends false ack atn x false false false false 0))) None
    (due_at (pulse_time p false lat) (target_side (ends false ack atn x false false false true 0)))
    (due_at (leaving_time p false lat) (offering_with s p n true (ends false ack atn x false false false req 0)).to)
pulsed_target_out s p n req ack atn x lat off asked =
    let e : EndLines = ends false ack atn x false false false req 0 in
    let v : Sight = sight_with p n e in
    let h : Handshakes = handshakes p in
    let me : Myself = device_with n.target lat (target_side e) (own_time p n.target) in
    let pace : Pace = pace_with s p true e n.target in
    let g : Bool → Offering = λ q. offering_by
    (serving_at s (run_state s p) n.target (phase_of (connected_bus e))) true q (connected_bus e) h in
    (λ i. if off i then target_pulse v h me pace (g (off i)) else target_handshake v h me (g (off i)))
    ∙ ap (λ (q : Bool). if req then req_pulse_end v me pace
    else if q then first_req v me (g true) else pulse_turn v h me pace (g true)) asked
    ∙ ap (λ (q : Bool). target_choice req false (nat_lt (handshakes p).requests (run_count s p n))
    (nat_lt (length (handshakes p).waiting) (offset_here p)) (not (length (handshakes p).waiting == 0) || ack)
    (due_at ((line_times p).req + (times_here p).assertion + lat)
    (target_side (ends false ack atn x false false false false 0))) None
    (due_at (pulse_time p false lat) (target_side (ends false ack atn x false false false true 0)))
    (due_at (leaving_time p false lat) (g q).to)) (sym off)

-- ---- the initiator: it ends its pulse, answers the oldest, or releases its byte

abbrev pub initiator_choice : (pulses waiting : Bool) → Option Due → Option Due → Option Due → Option Due
initiator_choice pulses waiting a b c = if pulses then a else if waiting then b else c

abbrev pub ack_pulse_end_time : List Row → Bool → ℕ → ℕ
ack_pulse_end_time p atn lat = (line_times p).ack
    + (if atn && (line_times p).atn == (line_times p).ack then max 90 (times_here p).assertion
    else (times_here p).assertion) + lat

abbrev pub answer_time : ScenarioValue → List Row → Connection → ℕ
answer_time s p n = max (time_of (first_of (handshakes p).waiting) + lag_by (host_of s n.initiator))
    (if (handshakes p).answers == 0 then 0
    else max ((handshakes p).last_ack + (times_here p).period) ((line_times p).ack + (times_here p).negation))

abbrev pub release_time : List Row → Connection → ℕ → ℕ
release_time p n lat = (own_of p n.initiator).ack + (times_here p).hold + lat

abbrev pub byte_driven_time : List Row → Connection → ℕ → ℕ
byte_driven_time p n lat =
    if (handshakes p).answers == 0 then time_of (first_of (handshakes p).waiting) + lat
    else max (time_of (first_of (handshakes p).waiting) + lat) (release_time p n lat)

pub pulsed_initiator_in : (s : ScenarioValue) (p : List Row) (n : Connection) (req ack atn : Bool) (y lat : ℕ)
    → nat_lt 0 (offset_here p) ≡ true → initiator_plain s p n true (ends false ack atn 0 false false true req y) lat
    ≡ initiator_choice ack (not (length (handshakes p).waiting == 0))
    (due_at (ack_pulse_end_time p atn lat) (initiator_side (ends false false atn 0 false false true req y)))
    (due_at (answer_time s p n + lat)
    (initiator_side (ends false true (is_struck (first_of (handshakes p).waiting) || atn) 0 false false true req y)))
    None
pulsed_initiator_in s p n req ack atn y lat off =
    let e : EndLines = ends false ack atn 0 false false true req y in
    let v : Sight = sight_with p n e in
    let h : Handshakes = handshakes p in
    let me : Myself = device_with n.initiator lat (initiator_side e) (own_time p n.initiator) in
    let pace : Pace = pace_with s p true e n.initiator in
    let a : Answering = answering_with s p n e in
    λ i. if off i then initiator_pulse v h me pace a
    else if owes_release v me then byte_release me pace a else initiator_handshake v h me a

-- The bits of the byte that it gives next.
abbrev pub given_bits : ScenarioValue → List Row → Connection → EndLines → ℕ
given_bits s p n e = byte_bits (answering_with s p n e).byte

pub pulsed_initiator_out : (s : ScenarioValue) (p : List Row) (n : Connection) (req ack atn : Bool) (x lat : ℕ)
    → nat_lt 0 (offset_here p) ≡ true → initiator_plain s p n true (ends false ack atn x false false false req 0) lat
    ≡ initiator_choice ack (not (length (handshakes p).waiting == 0))
    (due_at (ack_pulse_end_time p atn lat) (initiator_side (ends false false atn x false false false req 0)))
    (if x == given_bits s p n (ends false ack atn x false false false req 0)
    then due_at (max (answer_time s p n) (byte_driven_time p n lat + (times_here p).set_up) + lat)
    (initiator_side (ends false true atn x false false false req 0))
    else due_at (byte_driven_time p n lat) (initiator_side
    (ends false ack atn (given_bits s p n (ends false ack atn x false false false req 0)) false false false req 0)))
    (if x == 0 then None
    else due_at (release_time p n lat) (initiator_side (ends false ack atn 0 false false false req 0)))
pulsed_initiator_out s p n req ack atn x lat off =
    let e : EndLines = ends false ack atn x false false false req 0 in
    let v : Sight = sight_with p n e in
    let h : Handshakes = handshakes p in
    let me : Myself = device_with n.initiator lat (initiator_side e) (own_time p n.initiator) in
    let pace : Pace = pace_with s p true e n.initiator in
    let a : Answering = answering_with s p n e in
    λ i. if off i then initiator_pulse v h me pace a
    else if owes_release v me then byte_release me pace a else initiator_handshake v h me a

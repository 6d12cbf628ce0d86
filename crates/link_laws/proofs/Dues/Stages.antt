-- What is due of the two ends in each stage of a connection, and that nothing of it lies in the past.
use Rattle.link_laws.proofs
use proofs.Names.{ℕ, ◌≡◌, ◌+◌, Bool, true, false, not, ◌&&◌, ◌||◌, ◌==◌, ◌∙◌, List, None, refl, ap, if◌then◌else◌, max}
use proofs.Names.{and_false, times_of, line_times, phase_time, Row, Connection, BUS_SETTLE_DELAY, TURN_DELAY}
use proofs.Names.{Handshakes, handshakes, no_handshakes, dialogue, ScenarioValue, target_due, initiator_due}
use proofs.Names.{owes_release, ack_pulse_end, ack_negation, received_byte_ack, initiator_byte, sent_byte_ack}
use proofs.Names.{initiator_pulse, initiator_handshake, byte_release, attends_by, due_at, req_pulse_end, req_negation}
use proofs.Names.{first_req, first_byte, req_assertion, target_pulse, target_handshake, next_req, phase_end, byte_bits}
use proofs.Names.{bits_if, Myself, Answering, Offering, Pace, Sight, own_of, EndLines, initiator_side, target_side}
use proofs.Names.{connected_bus, ends_selected, own_time, device_with, ends, Settling, Turning, OfferingStage, Shaking}
use proofs.Dues.Ends.{sight_with, pace_with, offering_with, answering_with, target_plain, initiator_plain}

-- ---- before REQ has risen

-- By pulses or byte by byte, the target begins with the first REQ.
begins_with_req :
    (v : Sight) (me : Myself) (a : Pace) (g : Offering) (q : Bool) → me.own.req ≡ false → v.bus.ack ≡ false
    → (if q then target_pulse v no_handshakes me a g else target_handshake v no_handshakes me g) ≡ first_req v me g
begins_with_req v me a g true e f =
    λ i. if e i then req_pulse_end v me a else first_req v me g
begins_with_req v me a g false e f =
    λ i. if e i then (if v.bus.ack then req_negation v me g else None) else if f i then None else first_req v me g

pub selected_target : (s : ScenarioValue) (p : List Row) (n : Connection) (lat : ℕ)
    → target_plain s p n false ends_selected lat
    ≡ due_at ((line_times p).sel + lat) (target_side (ends false false true 0 true true false false 0))
selected_target s p n lat = refl

pub selected_initiator : (s : ScenarioValue) (p : List Row) (n : Connection) (lat : ℕ)
    → initiator_plain s p n false ends_selected lat ≡ None
selected_initiator s p n lat = refl

-- A phase of which no byte has crossed: the first REQ.
first_of_phase :
    (s : ScenarioValue) (p : List Row) (n : Connection) (bsy atn : Bool) (x : ℕ) (msg cd io : Bool) (y lat : ℕ)
    → handshakes p ≡ no_handshakes → target_plain s p n true (ends bsy false atn x msg cd io false y) lat
    ≡ first_req (sight_with p n (ends bsy false atn x msg cd io false y))
    (device_with n.target lat (target_side (ends bsy false atn x msg cd io false y)) (own_time p n.target))
    (offering_with s p n true (ends bsy false atn x msg cd io false y))
first_of_phase s p n bsy atn x msg cd io y lat h =
    let e : EndLines = ends bsy false atn x msg cd io false y in
    let v : Sight = sight_with p n e in
    let me : Myself = device_with n.target lat (target_side e) (own_time p n.target) in
    let g : Offering = offering_with s p n true e in
    let pace : Pace = pace_with s p true e n.target in
    ap (λ (b : Handshakes). target_due true v b me pace g) h ∙ begins_with_req v me pace g pace.pulsed refl refl

pub settling_target : (s : ScenarioValue) (p : List Row) (n : Connection) (bsy atn msg cd io : Bool) (y lat : ℕ)
    → Settling p n bsy atn msg cd io y → target_plain s p n true (ends bsy false atn 0 msg cd io false y) lat
    ≡ due_at (phase_time (line_times p) + BUS_SETTLE_DELAY + lat) (target_side (ends bsy false atn 0 msg cd io true y))
settling_target s p n bsy atn msg cd io y lat h =
    let e : EndLines = ends bsy false atn 0 msg cd io false y in
    let v : Sight = sight_with p n e in
    let me : Myself = device_with n.target lat (target_side e) (own_time p n.target) in
    let g : Offering = offering_with s p n true e in
    first_of_phase s p n bsy atn 0 msg cd io y lat h.quiet
    ∙ ap (λ (q : Bool). if not q then req_assertion me (phase_time (line_times p) + BUS_SETTLE_DELAY)
    else if y == 0 then first_byte v me g else req_assertion me (own_time p n.target + 55)) h.unturned

pub turning_target : (s : ScenarioValue) (p : List Row) (n : Connection) (atn : Bool) (x : ℕ) (msg cd : Bool) (lat : ℕ)
    → Turning s p n atn x msg cd → target_plain s p n true (ends false false atn x msg cd true false 0) lat
    ≡ due_at (phase_time (line_times p) + TURN_DELAY + lat) (target_side (ends false false atn x msg cd true false
    (byte_bits (offering_with s p n true (ends false false atn x msg cd true false 0)).byte)))
turning_target s p n atn x msg cd lat h =
    let e : EndLines = ends false false atn x msg cd true false 0 in
    let v : Sight = sight_with p n e in
    let me : Myself = device_with n.target lat (target_side e) (own_time p n.target) in
    let g : Offering = offering_with s p n true e in
    first_of_phase s p n false atn x msg cd true 0 lat h.quiet ∙ ap
    (λ (q : Bool). if not q then req_assertion me (phase_time (line_times p) + BUS_SETTLE_DELAY) else first_byte v me g)
    h.turned

pub offering_target : (s : ScenarioValue) (p : List Row) (n : Connection) (atn msg cd : Bool) (y lat : ℕ)
    → OfferingStage p n atn msg cd y → target_plain s p n true (ends false false atn 0 msg cd true false y) lat
    ≡ due_at (own_time p n.target + 55 + lat) (target_side (ends false false atn 0 msg cd true true y))
offering_target s p n atn msg cd y lat h =
    let e : EndLines = ends false false atn 0 msg cd true false y in
    let v : Sight = sight_with p n e in
    let me : Myself = device_with n.target lat (target_side e) (own_time p n.target) in
    let g : Offering = offering_with s p n true e in
    first_of_phase s p n false atn 0 msg cd true y lat h.quiet
    ∙ (λ i. if not (h.turned i) then req_assertion me (phase_time (line_times p) + BUS_SETTLE_DELAY)
    else if h.some i then first_byte v me g else req_assertion me (own_time p n.target + 55))

-- The initiator waits, but for BSY and for a byte that it still drives.
waits_idle : (v : Sight) (me : Myself) (x : Pace) (a : Answering) (q : Bool) → me.own.ack ≡ false
    → v.bus.req ≡ false → (me.own.data_bits == 0) ≡ true → (if q then initiator_pulse v no_handshakes me x a
    else if owes_release v me then byte_release me x a else initiator_handshake v no_handshakes me a) ≡ None
waits_idle v me x a true e f d = λ i. if e i then ack_pulse_end v me x else if d i then None else byte_release me x a
waits_idle v me x a false e f d = (λ i. if v.bus.io && not (d i) then byte_release me x a
    else if e i then (if v.bus.req then None else ack_negation v me)
    else if not (f i) then None else if v.bus.io then received_byte_ack v no_handshakes me a
    else if me.own.data_bits == 0 then initiator_byte v me a else sent_byte_ack v me)
    ∙ ap (λ (q : Bool). if q then byte_release me x a else None) (and_false v.bus.io)

idle_initiator : (s : ScenarioValue) (p : List Row) (n : Connection) (atn msg cd io : Bool) (y lat : ℕ)
    → handshakes p ≡ no_handshakes → initiator_plain s p n true (ends false false atn 0 msg cd io false y) lat ≡ None
idle_initiator s p n atn msg cd io y lat h =
    let e : EndLines = ends false false atn 0 msg cd io false y in
    let v : Sight = sight_with p n e in
    let me : Myself = device_with n.initiator lat (initiator_side e) (own_time p n.initiator) in
    let pace : Pace = pace_with s p true e n.initiator in
    let a : Answering = answering_with s p n e in
    ap (λ (b : Handshakes). initiator_due true v b me pace a) h ∙ waits_idle v me pace a pace.pulsed refl refl refl

pub settling_initiator : (s : ScenarioValue) (p : List Row) (n : Connection) (atn msg cd io : Bool) (y lat : ℕ)
    → Settling p n false atn msg cd io y
    → initiator_plain s p n true (ends false false atn 0 msg cd io false y) lat ≡ None
settling_initiator s p n atn msg cd io y lat h = idle_initiator s p n atn msg cd io y lat h.quiet

pub handing_initiator : (s : ScenarioValue) (p : List Row) (n : Connection) (atn msg cd io : Bool) (y lat : ℕ)
    → initiator_plain s p n true (ends true false atn 0 msg cd io false y) lat
    ≡ due_at ((line_times p).sel + lat) (initiator_side (ends false false atn 0 msg cd io false y))
handing_initiator s p n atn msg cd io y lat = refl

pub offering_initiator :
    (s : ScenarioValue) (p : List Row) (n : Connection) (atn msg cd : Bool) (y lat : ℕ) → OfferingStage p n atn msg cd y
    → initiator_plain s p n true (ends false false atn 0 msg cd true false y) lat ≡ None
offering_initiator s p n atn msg cd y lat h = idle_initiator s p n atn msg cd true y lat h.quiet

pub turned_initiator : (s : ScenarioValue) (p : List Row) (n : Connection) (atn msg cd : Bool) (lat : ℕ)
    → Turning s p n atn 0 msg cd → initiator_plain s p n true (ends false false atn 0 msg cd true false 0) lat ≡ None
turned_initiator s p n atn msg cd lat h = idle_initiator s p n atn msg cd true 0 lat h.quiet

releases_byte : (v : Sight) (me : Myself) (x : Pace) (a : Answering) (q : Bool) → me.own.ack ≡ false
    → v.bus.io ≡ true → (me.own.data_bits == 0) ≡ false → (if q then initiator_pulse v no_handshakes me x a
    else if owes_release v me then byte_release me x a else initiator_handshake v no_handshakes me a)
    ≡ byte_release me x a
releases_byte v me x a true e f d = λ i. if e i then ack_pulse_end v me x else if d i then None else byte_release me x a
releases_byte v me x a false e f d =
    λ i. if f i && not (d i) then byte_release me x a else initiator_handshake v no_handshakes me a

pub owing_initiator : (s : ScenarioValue) (p : List Row) (n : Connection) (atn : Bool) (x : ℕ) (msg cd : Bool) (lat : ℕ)
    → Turning s p n atn x msg cd → (x == 0) ≡ false
    → initiator_plain s p n true (ends false false atn x msg cd true false 0) lat
    ≡ due_at ((own_of p n.initiator).ack + (times_of (dialogue p).heard.now.agreement.period).hold + lat)
    (initiator_side (ends false false atn 0 msg cd true false 0))
owing_initiator s p n atn x msg cd lat h some =
    let e : EndLines = ends false false atn x msg cd true false 0 in
    let v : Sight = sight_with p n e in
    let me : Myself = device_with n.initiator lat (initiator_side e) (own_time p n.initiator) in
    let pace : Pace = pace_with s p true e n.initiator in
    let a : Answering = answering_with s p n e in
    ap (λ (b : Handshakes). initiator_due true v b me pace a) h.quiet
    ∙ releases_byte v me pace a pace.pulsed refl refl some

-- ---- byte by byte

unpulsed_target : (s : ScenarioValue) (p : List Row) (n : Connection) (msg cd io req ack atn : Bool) (x y lat : ℕ)
    → Shaking p n msg cd io req ack atn x y → target_plain s p n true (ends false ack atn x msg cd io req y) lat
    ≡ target_handshake (sight_with p n (ends false ack atn x msg cd io req y)) (handshakes p)
    (device_with n.target lat (target_side (ends false ack atn x msg cd io req y)) (own_time p n.target))
    (offering_with s p n true (ends false ack atn x msg cd io req y))
unpulsed_target s p n msg cd io req ack atn x y lat h =
    let e : EndLines = ends false ack atn x msg cd io req y in
    let v : Sight = sight_with p n e in
    let me : Myself = device_with n.target lat (target_side e) (own_time p n.target) in
    let g : Offering = offering_with s p n true e in
    ap (λ (q : Bool). if q then target_pulse v (handshakes p) me (pace_with s p true e n.target) g
    else target_handshake v (handshakes p) me g) h.unpulsed

pub answered_target : (s : ScenarioValue) (p : List Row) (n : Connection) (msg cd io atn : Bool) (x y lat : ℕ)
    → Shaking p n msg cd io true true atn x y → target_plain s p n true (ends false true atn x msg cd io true y) lat
    ≡ due_at ((line_times p).ack + lat) (target_side (ends false true atn x msg cd io false
    (bits_if (io && (offering_with s p n true (ends false true atn x msg cd io true y)).follows)
    (offering_with s p n true (ends false true atn x msg cd io true y)).byte)))
answered_target s p n msg cd io atn x y lat h = unpulsed_target s p n msg cd io true true atn x y lat h

pub asking_target : (s : ScenarioValue) (p : List Row) (n : Connection) (msg cd io atn : Bool) (x y lat : ℕ)
    → Shaking p n msg cd io true false atn x y
    → target_plain s p n true (ends false false atn x msg cd io true y) lat ≡ None
asking_target s p n msg cd io atn x y lat h = unpulsed_target s p n msg cd io true false atn x y lat h

pub ending_target : (s : ScenarioValue) (p : List Row) (n : Connection) (msg cd io atn : Bool) (x y lat : ℕ)
    → Shaking p n msg cd io false true atn x y
    → target_plain s p n true (ends false true atn x msg cd io false y) lat ≡ None
ending_target s p n msg cd io atn x y lat h = unpulsed_target s p n msg cd io false true atn x y lat h

pub between_target : (s : ScenarioValue) (p : List Row) (n : Connection) (msg cd io atn : Bool) (x y lat : ℕ)
    → Shaking p n msg cd io false false atn x y → target_plain s p n true (ends false false atn x msg cd io false y) lat
    ≡ (if (offering_with s p n true (ends false false atn x msg cd io false y)).follows
    then due_at ((if io then max (line_times p).ack (own_time p n.target + 55) else (line_times p).ack) + lat)
    (target_side (ends false false atn x msg cd io true y))
    else due_at ((line_times p).ack + lat + (offering_with s p n true (ends false false atn x msg cd io false y)).wait)
    (offering_with s p n true (ends false false atn x msg cd io false y)).to)
between_target s p n msg cd io atn x y lat h =
    let e : EndLines = ends false false atn x msg cd io false y in
    let v : Sight = sight_with p n e in
    let me : Myself = device_with n.target lat (target_side e) (own_time p n.target) in
    let g : Offering = offering_with s p n true e in
    unpulsed_target s p n msg cd io false false atn x y lat h
    ∙ ap (λ (q : Bool). if q then first_req v me g else if g.follows then next_req v me else phase_end v me g) h.asked

-- The initiator by its turn: it drives data lines in phases to the target alone.
unpulsed_initiator_in : (s : ScenarioValue) (p : List Row) (n : Connection) (msg cd req ack atn : Bool) (y lat : ℕ)
    → Shaking p n msg cd true req ack atn 0 y → initiator_plain s p n true (ends false ack atn 0 msg cd true req y) lat
    ≡ initiator_handshake (sight_with p n (ends false ack atn 0 msg cd true req y)) (handshakes p)
    (device_with n.initiator lat (initiator_side (ends false ack atn 0 msg cd true req y)) (own_time p n.initiator))
    (answering_with s p n (ends false ack atn 0 msg cd true req y))
unpulsed_initiator_in s p n msg cd req ack atn y lat h =
    let e : EndLines = ends false ack atn 0 msg cd true req y in
    let v : Sight = sight_with p n e in
    let me : Myself = device_with n.initiator lat (initiator_side e) (own_time p n.initiator) in
    let a : Answering = answering_with s p n e in
    ap (λ (q : Bool). if q then initiator_pulse v (handshakes p) me (pace_with s p true e n.initiator) a
    else initiator_handshake v (handshakes p) me a) h.unpulsed

unpulsed_initiator_out : (s : ScenarioValue) (p : List Row) (n : Connection) (msg cd req ack atn : Bool) (x lat : ℕ)
    → Shaking p n msg cd false req ack atn x 0
    → initiator_plain s p n true (ends false ack atn x msg cd false req 0) lat
    ≡ initiator_handshake (sight_with p n (ends false ack atn x msg cd false req 0)) (handshakes p)
    (device_with n.initiator lat (initiator_side (ends false ack atn x msg cd false req 0)) (own_time p n.initiator))
    (answering_with s p n (ends false ack atn x msg cd false req 0))
unpulsed_initiator_out s p n msg cd req ack atn x lat h =
    let e : EndLines = ends false ack atn x msg cd false req 0 in
    let v : Sight = sight_with p n e in
    let me : Myself = device_with n.initiator lat (initiator_side e) (own_time p n.initiator) in
    let a : Answering = answering_with s p n e in
    ap (λ (q : Bool). if q then initiator_pulse v (handshakes p) me (pace_with s p true e n.initiator) a
    else initiator_handshake v (handshakes p) me a) h.unpulsed

abbrev pub ack_end_time : List Row → Bool → ℕ
ack_end_time p atn =
    if atn && (line_times p).atn == (line_times p).ack then max (line_times p).req ((line_times p).ack + 90)
    else (line_times p).req

pub answered_initiator_in : (s : ScenarioValue) (p : List Row) (n : Connection) (msg cd atn : Bool) (y lat : ℕ)
    → Shaking p n msg cd true true true atn 0 y
    → initiator_plain s p n true (ends false true atn 0 msg cd true true y) lat ≡ None
answered_initiator_in s p n msg cd atn y lat h = unpulsed_initiator_in s p n msg cd true true atn y lat h

pub answered_initiator_out : (s : ScenarioValue) (p : List Row) (n : Connection) (msg cd atn : Bool) (x lat : ℕ)
    → Shaking p n msg cd false true true atn x 0
    → initiator_plain s p n true (ends false true atn x msg cd false true 0) lat ≡ None
answered_initiator_out s p n msg cd atn x lat h = unpulsed_initiator_out s p n msg cd true true atn x lat h

pub ending_initiator_in : (s : ScenarioValue) (p : List Row) (n : Connection) (msg cd atn : Bool) (y lat : ℕ)
    → Shaking p n msg cd true false true atn 0 y
    → initiator_plain s p n true (ends false true atn 0 msg cd true false y) lat
    ≡ due_at (ack_end_time p atn + lat) (initiator_side (ends false false atn 0 msg cd true false y))
ending_initiator_in s p n msg cd atn y lat h = unpulsed_initiator_in s p n msg cd false true atn y lat h

pub ending_initiator_out : (s : ScenarioValue) (p : List Row) (n : Connection) (msg cd atn : Bool) (x lat : ℕ)
    → Shaking p n msg cd false false true atn x 0
    → initiator_plain s p n true (ends false true atn x msg cd false false 0) lat
    ≡ due_at (ack_end_time p atn + lat) (initiator_side (ends false false atn 0 msg cd false false 0))
ending_initiator_out s p n msg cd atn x lat h = unpulsed_initiator_out s p n msg cd false true atn x lat h

pub asking_initiator_in : (s : ScenarioValue) (p : List Row) (n : Connection) (msg cd atn : Bool) (y lat : ℕ)
    → Shaking p n msg cd true true false atn 0 y
    → initiator_plain s p n true (ends false false atn 0 msg cd true true y) lat
    ≡ due_at ((line_times p).req + lat) (initiator_side (ends false true
    (((handshakes p).struck || (answering_with s p n (ends false false atn 0 msg cd true true y)).speaks) || atn) 0 msg
    cd true true y))
asking_initiator_in s p n msg cd atn y lat h = unpulsed_initiator_in s p n msg cd true false atn y lat h

-- The initiator drives its byte, and ATN with it in MESSAGE OUT.
pub asking_initiator_out : (s : ScenarioValue) (p : List Row) (n : Connection) (msg cd atn : Bool) (lat : ℕ)
    → Shaking p n msg cd false true false atn 0 0
    → initiator_plain s p n true (ends false false atn 0 msg cd false true 0) lat ≡ due_at ((line_times p).req + lat)
    (initiator_side (ends false false (attends_by (connected_bus (ends false false atn 0 msg cd false true 0))
    (answering_with s p n (ends false false atn 0 msg cd false true 0)).attends atn)
    (byte_bits (answering_with s p n (ends false false atn 0 msg cd false true 0)).byte) msg cd false true 0))
asking_initiator_out s p n msg cd atn lat h = unpulsed_initiator_out s p n msg cd true false atn 0 lat h

pub giving_initiator_out : (s : ScenarioValue) (p : List Row) (n : Connection) (msg cd atn : Bool) (x lat : ℕ)
    → Shaking p n msg cd false true false atn x 0 → (x == 0) ≡ false
    → initiator_plain s p n true (ends false false atn x msg cd false true 0) lat
    ≡ due_at ((if msg && cd && true then max (own_time p n.initiator + 55) ((line_times p).atn + 90)
    else own_time p n.initiator + 55) + lat) (initiator_side (ends false true atn x msg cd false true 0))
giving_initiator_out s p n msg cd atn x lat h some = unpulsed_initiator_out s p n msg cd true false atn x lat h
    ∙ ap (λ (q : Bool). if q then initiator_byte (sight_with p n (ends false false atn x msg cd false true 0))
    (device_with n.initiator lat (initiator_side (ends false false atn x msg cd false true 0)) (own_time p n.initiator))
    (answering_with s p n (ends false false atn x msg cd false true 0))
    else sent_byte_ack (sight_with p n (ends false false atn x msg cd false true 0)) (device_with n.initiator lat
    (initiator_side (ends false false atn x msg cd false true 0)) (own_time p n.initiator))) some

pub between_initiator_in : (s : ScenarioValue) (p : List Row) (n : Connection) (msg cd atn : Bool) (y lat : ℕ)
    → Shaking p n msg cd true false false atn 0 y
    → initiator_plain s p n true (ends false false atn 0 msg cd true false y) lat ≡ None
between_initiator_in s p n msg cd atn y lat h = unpulsed_initiator_in s p n msg cd false false atn y lat h

pub between_initiator_out : (s : ScenarioValue) (p : List Row) (n : Connection) (msg cd atn : Bool) (x lat : ℕ)
    → Shaking p n msg cd false false false atn x 0
    → initiator_plain s p n true (ends false false atn x msg cd false false 0) lat ≡ None
between_initiator_out s p n msg cd atn x lat h = unpulsed_initiator_out s p n msg cd false false atn x lat h

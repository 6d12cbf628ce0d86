-- The rows of a data phase by pulses to the initiator (6.1.5.2).
use Rattle.link_laws.proofs
use proofs.Names.{◌⊎◌, inl, inr, ℕ, ◌≡◌, ◌≤◌, ◌<◌, ◌+◌, Bool, true, false, not, ◌&&◌, ◌||◌, ◌==◌, ◌∙◌, List, ◌∷◌}
use proofs.Names.{length, drop, Some, None, refl, sym, ap, subst, arith, lt-ltb, ltb-true, le-leb, cases_Bool}
use proofs.Names.{nat_tests, if◌then◌else◌, max, nat_le, nat_lt, is_some, or_true, counted_on, times_of, implies}
use proofs.Names.{receiver, when, last_time, line_times, Row, Agreement, TransferTimes, Change, Connection, TURN_DELAY}
use proofs.Names.{push_length, Handshakes, handshakes, asked, answered, answered_if, asked_if, opened, first_of}
use proofs.Names.{time_of, room_by, Request, pulses, count_after, duty, turned, Pulses, is_owed, is_after}
use proofs.Names.{ScenarioValue, latency_of, lag_by, host_of, own_of, EndLines, initiator_side, target_side}
use proofs.Names.{connected_bus, change_to, ends, times_here, offset_here, pulses_of, Reached, run_count, next_bits}
use proofs.{Names.{given_here, target_next, initiator_next, answers_at, NoSooner}, Lines.Rows.{initiator_moves}}
use proofs.Lines.{Rows.{target_moves, initiator_in_phase, target_in_phase, same_line, no_rise}, Seen.{around}}
use proofs.{Lines.Seen.{obeys_linked}, Phases.{Crossings.{target_row, initiator_row, or_asks}, Stays.{turn_test}}}
use proofs.{Phases.Stays.{receives_if, data_by}, Pulses.Obeys.{byte_change_obeys, req_pulse_in, MayAnswer}}
use proofs.Pulses.{Obeys.{ack_pulse_in, ack_end_in}, Rows.{NextPulsing, PulseHere, later_target_in, later_initiator_in}}
use proofs.Pulses.Rows.{data_row, target_next_is, initiator_next_is, own_ack_other, own_ack_own, pulsing_goes}
use proofs.Pulses.{Rows.{fresh_next, same_latency, data_stands, room_same, room_now}, Steps.{more_asked}}
use proofs.Pulses.Steps.{req_rises_facts, ack_rises_facts, ack_falls_facts, still_facts, opened_is, first_stays}
use proofs.Pulses.Steps.{first_new, one_less, target_after, none_no_sooner, some_no_sooner, of_no_sooner}

-- ---- REQ rises again

-- A request more waits; the oldest of them is the same, or it is the new one.
pub waits_more : (t : ℕ) (w : List Request) → length w < 255 → (not (length (opened t w) == 0)) ≡ true
waits_more t w h = ap (λ (k : List Request). not (length k == 0)) (opened_is t w h)
    ∙ ap (λ (k : ℕ). not (k == 0)) (push_length w (record { time = t; struck = false })) ∙ some_more (length w)
  where
    some_more : (a : ℕ) → not (a + 1 == 0) ≡ true
    some_more a = grind (arith, nat_tests)

pub oldest_stays : (t : ℕ) (w : List Request) → length w < 255 → (length w == 0) ≡ false
    → time_of (first_of (opened t w)) ≡ time_of (first_of w)
oldest_stays t w h some = ap (λ (xs : List Request). time_of (first_of xs)) (opened_is t w h)
    ∙ ap time_of (first_stays w (record { time = t; struck = false }) some)

pub oldest_new : (t : ℕ) (w : List Request) → length w < 255 → (length w == 0) ≡ true
    → time_of (first_of (opened t w)) ≡ t
oldest_new t w h none = ap (λ (xs : List Request). time_of (first_of xs)) (opened_is t w h)
    ∙ ap time_of (first_new w (record { time = t; struck = false }) none)

asked_in : (h : Handshakes) (ack atn : Bool) (t tack tatn : ℕ) (z : TransferTimes) (lag raised g g' lat : ℕ)
    → length h.waiting < 255 → NoSooner t (initiator_next true ack atn 0 h tack tatn z lag raised g lat)
    → NoSooner t (initiator_next true ack atn 0 (asked t h) tack tatn z lag raised g' lat)
asked_in h true atn t tack tatn z lag raised g g' lat few f = f
asked_in h false atn t tack tatn z lag raised g g' lat few f = subst (λ (b : Bool). NoSooner t
    (if b then Some (answers_at (asked t h) tack lag z + lat) else None)) (sym (waits_more t h.waiting few))
    (some_no_sooner t (answers_at (asked t h) tack lag z + lat) (go (length h.waiting == 0) refl))
  where
    go : (q : Bool) → (length h.waiting == 0) ≡ q → t ≤ answers_at (asked t h) tack lag z + lat
    go true none = let w = oldest_new t h.waiting few none in omega arith
    go false some =
        let w = oldest_stays t h.waiting few some in
        let u : t ≤ answers_at h tack lag z + lat = of_no_sooner t (answers_at h tack lag z + lat)
        (subst (λ (b : Bool). NoSooner t (if not b then Some (answers_at h tack lag z + lat) else None)) some f) in
        omega arith

pub req_pulses_in : (s : ScenarioValue) (p : List Row) (n : Connection) (ack atn : Bool) (y t lat0 : ℕ)
    → latency_of s n.target ≡ Some lat0
    → t ≡ max (max ((handshakes p).last_req + (times_here p).period) ((line_times p).req + (times_here p).negation))
    (max (room_by (offset_here p) (handshakes p))
    ((handshakes p).last_req + (times_here p).hold + lat0 + (times_here p).set_up)) + lat0
    → nat_lt (handshakes p).requests (run_count s p n) ≡ true
    → nat_lt (length (handshakes p).waiting) (offset_here p) ≡ true → implies (is_owed (duty p)) false ≡ true
    → PulseHere s p (target_row t n (ends false ack atn 0 false false true true y)) n true false ack atn 0 y
    → NextPulsing s p (target_row t n (ends false ack atn 0 false false true true y)) n true true ack atn 0 y
req_pulses_in s p n ack atn y t lat0 there0 at follows room owed h =
    let e : EndLines = ends false ack atn 0 false false true false y in
    let f : EndLines = ends false ack atn 0 false false true true y in
    let row : Row = target_row t n f in
    let q : List Row = row ∷ p in
    let hp = h.pulsing in
    let hs : Handshakes = handshakes p in
    let c : Change = change_to (connected_bus e) (connected_bus f) (target_side e) (target_side f) in
    let m = target_moves p n e false false true true y t hp.linked in
    let r = target_in_phase p n e true y t hp.linked in
    let dr = data_row p row n true false ack atn 0 y true ack atn 0 y
    (target_side e) (target_side f) s h.always hp.linked.target_below hp.linked m in
    let eh : handshakes q ≡ asked t hs = r.handshakes_are
    ∙ ap (λ (b : Bool). answered_if b t (asked t hs)) (no_rise ack) in
    let ea : (line_times q).ack ≡ (line_times p).ack = r.ack_is ∙ same_line ack (line_times p).ack t in
    let en : (line_times q).atn ≡ (line_times p).atn = r.atn_is ∙ same_line atn (line_times p).atn t in
    let eo : (own_of q n.initiator).ack ≡ (own_of p n.initiator).ack = own_ack_other
    p row n.initiator hp.linked.apart in
    let eg = r.agreement_is refl refl in
    let order = h.order in
    let few = ltb-true (length hs.waiting) (offset_here p) room in
    let byte = hp.byte_offset in
    let count = hp.facts.counts in
    let settled = hp.settled in
    let pu : pulses p ≡ pulses_of hs = hp.pulses_are in
    let driven0 = hp.driven lat0 there0 in
    record {
      order = order;
      obeys = obeys_linked p row n e c hp.linked m.change refl h.books
          (req_pulse_in (around p n.target n c) n ack atn y t (record {
            asks = record {
              apart = hp.linked.apart;
              order = order;
              settled = omega arith;
              began =
                  let u = hp.phase.began in
                  omega arith;
              known = refl;
              duty = owed;
            };
            offset = hp.offset;
            period = ap (λ (k : Pulses). is_after k.last_req (times_here p).period t) pu ∙ le-leb _ t (omega arith);
            negation = ap
                (λ (k : Pulses). not (is_some k.last_req) || nat_le ((line_times p).req + (times_here p).negation) t) pu
                ∙ le-leb _ t (omega arith);
            room = ap (λ (k : Pulses). offset_here p == 255 || nat_lt k.req (k.ack + offset_here p)) pu
                ∙ ap (λ (b : Bool). offset_here p == 255 || b)
                (lt-ltb hs.requests (hs.answers + offset_here p) (omega arith))
                ∙ or_true (offset_here p == 255);
          }) (turn_test (turned p) ((line_times p).io + TURN_DELAY) t (λ w. let u = hp.turned w refl in omega arith))
          (omega arith));
      pulsing = pulsing_goes s p q n true false ack atn 0 y true ack atn 0 y t (asked t hs) t (line_times p).ack
          (own_of p n.initiator).ack hp m.linked r refl order hp.phase.asks refl (r.pulses_are ∙ (λ i. record {
            req = counted_on (pu i).req;
            ack = count_after (no_rise ack i) (pu i).ack;
            last_req = Some t;
            last_ack = when (no_rise ack i) t (pu i).last_ack;
          })) eh r.req_is ea eo (req_rises_facts hs (line_times p).req (line_times p).ack
          (own_of p n.initiator).ack (times_here p).assertion (offset_here p)
          (last_time p) t ack hp.facts few byte (more_asked hs.requests (run_count s p n) follows h.short) order)
          (λ lat there. let u = data_by s p row h.always order in
          let v1 : (handshakes q).last_req ≡ t = ap (λ (k : Handshakes). k.last_req) eh in omega arith)
          (λ d. receives_if true (receiver q) n.initiator d r.receiver_is) (λ a b. absurd cc);
      ahead = record {
        target = λ lat there. subst (NoSooner t) (sym
            (target_next_is s p row n c true true ack y lat (asked t hs) t (line_times p).ack dr eh r.req_is ea eg))
            (some_no_sooner t (t + (times_here p).assertion + lat) (omega arith));
        initiator = λ lat there. subst (NoSooner t) (sym (initiator_next_is s p row n true ack atn 0 lat (asked t hs)
            (line_times p).ack (line_times p).atn (own_of p n.initiator).ack (given_here s q) eh ea en eo refl eg))
            (asked_in hs ack atn t (line_times p).ack (line_times p).atn (times_here p) (lag_by (host_of s n.initiator))
            (own_of p n.initiator).ack (given_here s p) (given_here s q) lat (omega arith)
            (later_initiator_in s p row n false ack atn y h lat there));
      };
    }

-- ---- the byte changes

pub byte_changes_in : (s : ScenarioValue) (p : List Row) (n : Connection) (ack atn : Bool) (y t lat0 : ℕ)
    → latency_of s n.target ≡ Some lat0 → t ≡ (handshakes p).last_req + (times_here p).hold + lat0
    → (y == next_bits s p n) ≡ false → PulseHere s p
    (target_row t n (ends false ack atn 0 false false true false (next_bits s p n))) n true false ack atn 0 y
    → NextPulsing s p (target_row t n (ends false ack atn 0 false false true false (next_bits s p n))) n true false ack
    atn 0 (next_bits s p n)
byte_changes_in s p n ack atn y t lat0 there0 at other h =
    let z : ℕ = next_bits s p n in
    let e : EndLines = ends false ack atn 0 false false true false y in
    let f : EndLines = ends false ack atn 0 false false true false z in
    let row : Row = target_row t n f in
    let q : List Row = row ∷ p in
    let hp = h.pulsing in
    let hs : Handshakes = handshakes p in
    let c : Change = change_to (connected_bus e) (connected_bus f) (target_side e) (target_side f) in
    let m = target_moves p n e false false true false z t hp.linked in
    let r = target_in_phase p n e false z t hp.linked in
    let dr = data_row p row n true false ack atn 0 y false ack atn 0 z
    (target_side e) (target_side f) s h.always hp.linked.target_below hp.linked m in
    let eh : handshakes q ≡ hs = r.handshakes_are ∙ ap (λ (b : Bool). answered_if b t hs) (no_rise ack) in
    let ea : (line_times q).ack ≡ (line_times p).ack = r.ack_is ∙ same_line ack (line_times p).ack t in
    let en : (line_times q).atn ≡ (line_times p).atn = r.atn_is ∙ same_line atn (line_times p).atn t in
    let eo : (own_of q n.initiator).ack ≡ (own_of p n.initiator).ack = own_ack_other
    p row n.initiator hp.linked.apart in
    let eg = r.agreement_is refl refl in
    let order = h.order in
    let pu : pulses p ≡ pulses_of hs = hp.pulses_are in
    record {
      order = order;
      obeys = obeys_linked p row n e c hp.linked m.change refl h.books
          (byte_change_obeys (around p n.target n c) n ack atn y z t hp.linked.apart order hp.offset other
          (ap (λ (k : Pulses). is_after k.last_req (times_here p).hold t) pu ∙ le-leb _ t (omega arith))
          (turn_test (turned p) ((line_times p).io + TURN_DELAY) t (λ w. let u = hp.turned w refl in omega arith)));
      pulsing = pulsing_goes s p q n true false ack atn 0 y false ack atn 0 z t hs (line_times p).req (line_times p).ack
          (own_of p n.initiator).ack hp m.linked r refl order hp.phase.asks refl (r.pulses_are ∙ (λ i. record {
            req = (pu i).req;
            ack = count_after (no_rise ack i) (pu i).ack;
            last_req = (pu i).last_req;
            last_ack = when (no_rise ack i) t (pu i).last_ack;
          })) eh r.req_is ea eo (still_facts hs (line_times p).req (line_times p).ack (own_of p n.initiator).ack
          (times_here p).assertion (offset_here p) (last_time p) t false ack hp.facts order)
          (λ lat there. let same = same_latency s n.target lat lat0 there there0 in
          let u = data_by s p row h.always order in let v1 = ap (λ (k : Handshakes). k.last_req) eh in
          let v2 = ap (λ (k : Agreement). (times_of k.period).hold) eg in omega arith)
          (λ d. receives_if false (receiver q) n.initiator d r.receiver_is) (λ a b. absurd cc);
      ahead = record {
        target = λ lat there.
            let same = same_latency s n.target lat lat0 there there0 in
            subst (NoSooner t) (sym (target_next_is s p row n c true false ack z lat hs
            (line_times p).req (line_times p).ack dr eh r.req_is ea eg))
            (fresh_next true ack z hs (line_times p).req (line_times p).ack (times_here p) (offset_here p)
            (run_count s p n) z lat t (λ w. omega arith) (omega arith) (λ w. omega arith));
        initiator = λ lat there. subst (NoSooner t) (sym (initiator_next_is s p row n true ack atn 0 lat hs
            (line_times p).ack (line_times p).atn (own_of p n.initiator).ack (given_here s q) eh ea en eo refl eg))
            (later_initiator_in s p row n false ack atn y h lat there);
      };
    }

-- ---- ACK rises

pub last_ack_test : (h : Handshakes) (delay t : ℕ) → ((h.answers == 0) ≡ false → h.last_ack + delay ≤ t)
    → is_after (if h.answers == 0 then None else Some h.last_ack) delay t ≡ true
last_ack_test h delay t f =
    elim (cases_Bool (h.answers == 0)) [ inl e ↦ rw e | inr e ↦ rw e (le-leb _ t ((rw e at f) refl)) ]

pub negation_test : (h : Handshakes) (a t : ℕ) → ((h.answers == 0) ≡ false → a ≤ t)
    → (not (is_some (if h.answers == 0 then None else Some h.last_ack)) || nat_le a t) ≡ true
negation_test h a t f =
    elim (cases_Bool (h.answers == 0)) [ inl e ↦ rw e | inr e ↦ rw e (le-leb a t ((rw e at f) refl)) ]

-- An answer comes no sooner than a period after the last, and a negation period after its end.
pub answer_late : (h : Handshakes) (tack lag : ℕ) (z : TransferTimes) → (h.answers == 0) ≡ false
    → (h.last_ack + z.period ≤ answers_at h tack lag z) × (tack + z.negation ≤ answers_at h tack lag z)
answer_late h tack lag z some = subst (λ (b : Bool). (h.last_ack + z.period
    ≤ max (time_of (first_of h.waiting) + lag) (if b then 0 else max (h.last_ack + z.period) (tack + z.negation)))
    × (tack + z.negation
    ≤ max (time_of (first_of h.waiting) + lag) (if b then 0 else max (h.last_ack + z.period) (tack + z.negation))))
    (sym some) (omega arith, omega arith)

pub may_answer : (p : List Row) (dev : ℕ) (n : Connection) (c : Change) (t lag : ℕ)
    → pulses p ≡ pulses_of (handshakes p) → nat_lt 0 (offset_here p) ≡ true
    → last_time p ≤ t → answers_at (handshakes p) (line_times p).ack lag (times_here p) ≤ t
    → (handshakes p).requests ≡ (handshakes p).answers + length (handshakes p).waiting
    → (length (handshakes p).waiting == 0) ≡ false → MayAnswer (around p dev n c) t
may_answer p dev n c t lag pu off order late count some = record {
  order = order;
  offset = off;
  period = ap (λ (x : Pulses). is_after x.last_ack (times_here p).period t) pu
      ∙ last_ack_test (handshakes p) (times_here p).period t
      (λ w. let u = (answer_late (handshakes p) (line_times p).ack lag (times_here p) w).0 in omega arith);
  negation = ap (λ (x : Pulses). not (is_some x.last_ack) || nat_le ((line_times p).ack + (times_here p).negation) t) pu
      ∙ negation_test (handshakes p) ((line_times p).ack + (times_here p).negation) t
      (λ w. let u = (answer_late (handshakes p) (line_times p).ack lag (times_here p) w).1 in omega arith);
  waits = ap (λ (x : Pulses). nat_lt x.ack x.req) pu ∙ lt-ltb (handshakes p).answers (handshakes p).requests
      (let u = one_less (handshakes p).waiting some in omega arith);
}

pub or_held : (q : Bool) → (q || true) ≡ false → ⊥
or_held q e = let w = sym (or_true q) ∙ e in cc

-- What is due of the target after an answer: room, and the phase is held while ACK is true.
pub answered_target : (io req : Bool) (y : ℕ) (h : Handshakes) (tr ta : ℕ) (z : TransferTimes) (off run bits lat t : ℕ)
    → Reached h.relieved (length h.waiting) h.reach → h.reach ≤ off
    → NoSooner t (target_next io req false y h tr ta z off run bits lat)
    → NoSooner t (target_next io req true y (answered t h) tr t z off run bits lat)
answered_target io req y h tr ta z off run bits lat t reached few f =
    let set : ℕ = if io then h.last_req + z.hold + lat + z.set_up else 0 in
    let base : ℕ = max (h.last_req + z.period) (tr + z.negation) in
    target_after req (io && not (y == bits)) (nat_lt h.requests run) (nat_lt (length h.waiting) off)
    (nat_lt (length (drop 1 h.waiting)) off) (not (length h.waiting == 0) || false)
    (not (length (drop 1 h.waiting) == 0) || true) (tr + z.assertion + lat) (h.last_req + z.hold + lat)
    (max base (max (room_by off h) set) + lat) (max base (max (room_by off (answered t h)) set) + lat)
    (max ta ((if io then h.last_req else h.last_ack) + z.hold) + lat)
    (max t ((if io then h.last_req else t) + z.hold) + lat) t f (λ e. go (nat_lt (length h.waiting) off) refl)
    (λ e. absurd (or_held (not (length (drop 1 h.waiting) == 0)) e))
  where
    go : (q : Bool) → nat_lt (length h.waiting) off ≡ q
        → ((q ≡ true) × (max (max (h.last_req + z.period) (tr + z.negation)) (max (room_by off (answered t h))
        (if io then h.last_req + z.hold + lat + z.set_up else 0)) + lat ≡ max (max (h.last_req + z.period)
        (tr + z.negation)) (max (room_by off h) (if io then h.last_req + z.hold + lat + z.set_up else 0)) + lat))
        ⊎ (t ≤ max (max (h.last_req + z.period) (tr + z.negation))
        (max (room_by off (answered t h)) (if io then h.last_req + z.hold + lat + z.set_up else 0)) + lat)
    go true e = inl (
      refl,
      ap (λ (m : ℕ). max (max (h.last_req + z.period) (tr + z.negation))
          (max m (if io then h.last_req + z.hold + lat + z.set_up else 0)) + lat)
          (room_same h off (ltb-true (length h.waiting) off e) reached t),
    )
    go false e = inr (let w = room_now h off t e reached few in omega arith)

pub answers_pulse_in : (s : ScenarioValue) (p : List Row) (n : Connection) (req atn atn' : Bool) (y t lat0 : ℕ)
    → t ≡ answers_at (handshakes p) (line_times p).ack (lag_by (host_of s n.initiator)) (times_here p) + lat0
    → (length (handshakes p).waiting == 0) ≡ false
    → PulseHere s p (initiator_row t n (ends false true atn' 0 false false true req y)) n true req false atn 0 y
    → NextPulsing s p (initiator_row t n (ends false true atn' 0 false false true req y)) n true req true atn' 0 y
answers_pulse_in s p n req atn atn' y t lat0 at some h =
    let e : EndLines = ends false false atn 0 false false true req y in
    let f : EndLines = ends false true atn' 0 false false true req y in
    let row : Row = initiator_row t n f in
    let q : List Row = row ∷ p in
    let hp = h.pulsing in
    let hs : Handshakes = handshakes p in
    let c : Change = change_to (connected_bus e) (connected_bus f) (initiator_side e) (initiator_side f) in
    let m = initiator_moves p n e false true atn' 0 t hp.linked in
    let r = initiator_in_phase p n e false true atn' 0 t hp.linked in
    let dr = data_row p row n true req false atn 0 y req true atn' 0 y (initiator_side e)
    (initiator_side f) s h.always hp.linked.initiator_below hp.linked m in
    let eh : handshakes q ≡ answered t hs = r.handshakes_are
    ∙ ap (λ (b : Bool). answered t (asked_if b t hs)) (no_rise req) in
    let er : (line_times q).req ≡ (line_times p).req = r.req_is ∙ same_line req (line_times p).req t in
    let eo : (own_of q n.initiator).ack ≡ t = own_ack_own p t n.initiator
    (initiator_side f) (initiator_side e) hp.linked.initiator in
    let eg = r.agreement_is refl refl in
    let order = h.order in
    let pu : pulses p ≡ pulses_of hs = hp.pulses_are in
    let facts = ack_rises_facts hs (line_times p).req (line_times p).ack (own_of p n.initiator).ack
    (times_here p).assertion (offset_here p) (last_time p) t req hp.facts some order in
    record {
      order = order;
      obeys = obeys_linked p row n e c hp.linked m.change refl h.books
          (ack_pulse_in (around p n.initiator n c) n req atn atn' y t hp.linked.apart (may_answer p n.initiator n c t
          (lag_by (host_of s n.initiator)) pu hp.offset order (omega arith) hp.facts.counts some));
      pulsing = pulsing_goes s p q n true req false atn 0 y req true atn' 0 y t (answered t hs)
          (line_times p).req t t hp m.linked r refl order (or_asks atn') refl (r.pulses_are ∙ (λ i. record {
            req = count_after (no_rise req i) (pu i).req;
            ack = counted_on (pu i).ack;
            last_req = when (no_rise req i) t (pu i).last_req;
            last_ack = Some t;
          }) ∙ (λ i. record {
            req = hs.requests;
            ack = counted_on hs.answers;
            last_req = Some hs.last_req;
            last_ack =
                if sym (facts.ack_first refl) i then None else Some t;
          })) eh er r.ack_is eo facts (λ lat there. let u = hp.driven lat there in
          let w = data_stands p row y r.data_is in let v1 = ap (λ (k : Handshakes). k.last_req) eh in
          let v2 = ap (λ (k : Agreement). (times_of k.period).hold) eg in omega arith)
          (λ d. receives_if false (receiver q) n.initiator d
          (r.receiver_is ∙ ap (λ (b : Bool). if b then Some n.initiator else None) (no_rise req))) (λ a b. absurd cc);
      ahead = record {
        target = λ lat there. subst (NoSooner t) (sym
            (target_next_is s p row n c true req true y lat (answered t hs) (line_times p).req t dr eh er r.ack_is eg))
            (answered_target true req y hs (line_times p).req (line_times p).ack (times_here p)
            (offset_here p) (run_count s p n) (next_bits s p n) lat t hp.facts.reached hp.facts.few
            (later_target_in s p row n req false atn y h lat there));
        initiator =
            λ lat there. subst (NoSooner t) (sym (initiator_next_is s p row n true true atn' 0 lat (answered t hs) t
            (line_times q).atn t (given_here s q) eh r.ack_is refl eo refl eg)) (some_no_sooner t _ (omega arith));
      };
    }

-- ---- ACK falls

pub pulse_end_late : (q : Bool) (a b lat t : ℕ) → t ≡ a + (if q then max 90 b else b) + lat → a + b ≤ t
pulse_end_late true a b lat t e = omega arith
pulse_end_late false a b lat t e = omega arith

fresh_in : (w : Bool) (b t : ℕ) → t ≤ b → NoSooner t (if w then Some b else None)
fresh_in true b t f = some_no_sooner t b f
fresh_in false b t f = none_no_sooner t

-- What is due of the target as ACK falls: it may leave the phase then.
pub released_target : (io req : Bool) (y : ℕ) (h : Handshakes) (tr ta : ℕ) (z : TransferTimes) (off run bits lat t : ℕ)
    → NoSooner t (target_next io req true y h tr ta z off run bits lat)
    → NoSooner t (target_next io req false y h tr t z off run bits lat)
released_target io req y h tr ta z off run bits lat t f =
    let c : ℕ = max (max (h.last_req + z.period) (tr + z.negation))
    (max (room_by off h) (if io then h.last_req + z.hold + lat + z.set_up else 0)) + lat in
    target_after req (io && not (y == bits)) (nat_lt h.requests run) (nat_lt (length h.waiting) off)
    (nat_lt (length h.waiting) off) (not (length h.waiting == 0) || true)
    (not (length h.waiting == 0) || false) (tr + z.assertion + lat) (h.last_req + z.hold + lat) c c
    (max ta ((if io then h.last_req else h.last_ack) + z.hold) + lat)
    (max t ((if io then h.last_req else h.last_ack) + z.hold) + lat) t f (λ e. inl (e, refl)) (λ e. inr (omega arith))

pub ends_pulse_in : (s : ScenarioValue) (p : List Row) (n : Connection) (req atn : Bool) (y t lat0 : ℕ)
    → t ≡ (line_times p).ack + (if atn && (line_times p).atn == (line_times p).ack then max 90 (times_here p).assertion
    else (times_here p).assertion) + lat0
    → PulseHere s p (initiator_row t n (ends false false atn 0 false false true req y)) n true req true atn 0 y
    → NextPulsing s p (initiator_row t n (ends false false atn 0 false false true req y)) n true req false atn 0 y
ends_pulse_in s p n req atn y t lat0 at h =
    let e : EndLines = ends false true atn 0 false false true req y in
    let f : EndLines = ends false false atn 0 false false true req y in
    let row : Row = initiator_row t n f in
    let q : List Row = row ∷ p in
    let hp = h.pulsing in
    let hs : Handshakes = handshakes p in
    let c : Change = change_to (connected_bus e) (connected_bus f) (initiator_side e) (initiator_side f) in
    let m = initiator_moves p n e false false atn 0 t hp.linked in
    let r = initiator_in_phase p n e false false atn 0 t hp.linked in
    let dr = data_row p row n true req true atn 0 y req false atn 0 y (initiator_side e)
    (initiator_side f) s h.always hp.linked.initiator_below hp.linked m in
    let eh : handshakes q ≡ hs = r.handshakes_are ∙ ap (λ (b : Bool). asked_if b t hs) (no_rise req) in
    let er : (line_times q).req ≡ (line_times p).req = r.req_is ∙ same_line req (line_times p).req t in
    let eo : (own_of q n.initiator).ack ≡ (own_of p n.initiator).ack = own_ack_own p t n.initiator
    (initiator_side f) (initiator_side e) hp.linked.initiator in
    let eg = r.agreement_is refl refl in
    let order = h.order in
    let pu : pulses p ≡ pulses_of hs = hp.pulses_are in
    let held = pulse_end_late (atn && (line_times p).atn == (line_times p).ack)
    (line_times p).ack (times_here p).assertion lat0 t at in
    record {
      order = order;
      obeys = obeys_linked p row n e c hp.linked m.change refl h.books
          (ack_end_in (around p n.initiator n c) n req atn y t hp.linked.apart order hp.offset held);
      pulsing = pulsing_goes s p q n true req true atn 0 y req false atn 0 y t hs (line_times p).req t
          (own_of p n.initiator).ack hp m.linked r refl order (or_asks atn) refl (r.pulses_are ∙ (λ i. record {
            req = count_after (no_rise req i) (pu i).req;
            ack = (pu i).ack;
            last_req = when (no_rise req i) t (pu i).last_req;
            last_ack = (pu i).last_ack;
          })) eh er r.ack_is eo (ack_falls_facts hs (line_times p).req (line_times p).ack (own_of p n.initiator).ack
          (times_here p).assertion (offset_here p) (last_time p) t req hp.facts held order)
          (λ lat there. let u = hp.driven lat there in let w = data_stands p row y r.data_is in
          let v1 = ap (λ (k : Handshakes). k.last_req) eh in
          let v2 = ap (λ (k : Agreement). (times_of k.period).hold) eg in omega arith)
          (λ d. receives_if false (receiver q) n.initiator d
          (r.receiver_is ∙ ap (λ (b : Bool). if b then Some n.initiator else None) (no_rise req))) (λ a b. absurd cc);
      ahead = record {
        target = λ lat there. subst (NoSooner t)
            (sym (target_next_is s p row n c true req false y lat hs (line_times p).req t dr eh er r.ack_is eg))
            (released_target true req y hs (line_times p).req (line_times p).ack (times_here p) (offset_here p)
            (run_count s p n) (next_bits s p n) lat t (later_target_in s p row n req true atn y h lat there));
        initiator = λ lat there. subst (NoSooner t) (sym (initiator_next_is s p row n true false atn 0 lat hs t
            (line_times q).atn (own_of p n.initiator).ack (given_here s q) eh r.ack_is refl eo refl eg)) (fresh_in
            (not (length hs.waiting == 0)) (answers_at hs t (lag_by (host_of s n.initiator)) (times_here p) + lat) t
            (let w = (answer_late hs t (lag_by (host_of s n.initiator)) (times_here p) (hp.facts.ack_first refl)).1 in
            omega arith));
      };
    }

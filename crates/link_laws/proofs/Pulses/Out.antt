-- The rows of a data phase by pulses to the target (6.1.5.2).
use Rattle.link_laws.proofs
use proofs.Names.{◌⊎◌, inl, inr, ℕ, ◌≡◌, ◌≤◌, ◌<◌, ◌+◌, Bool, true, false, not, ◌&&◌, ◌||◌, ◌==◌, ◌∙◌, List, [], ◌∷◌}
use proofs.Names.{length, drop, Option, Some, None, refl, sym, ap, subst, arith, lt-ltb, ltb-true, le-leb, and_right}
use proofs.Names.{cases_Bool, nat_tests, bit_or, if◌then◌else◌, max, nat_le, nat_lt, is_some, slice_index_or, or_true}
use proofs.Names.{zero_of, counted_on, times_of, implies, LineSet, data_of, receiver, receiver_in, when, last_time}
use proofs.Names.{since, line_times, Row, TransferTimes, Change, Connection, Handshakes, handshakes, asked, answered}
use proofs.Names.{answered_if, asked_if, opened, first_of, time_of, room_by, Request, dialogue, pulses, count_after}
use proofs.Names.{duty, Pulses, is_owed, is_after, ScenarioValue, latency_of, byte_bits, lag_by, Sending, byte_to_send}
use proofs.Names.{host_of, own_of, run_state, sending_of, EndLines, initiator_side, target_side, connected_bus, Linked}
use proofs.Names.{row_of_lines, change_to, ends, drives_by, times_here, offset_here, pulses_of, HasDrivenPulsed}
use proofs.Names.{run_count, next_bits, given_here, initiator_next, answers_at, drives_at, NoSooner}
use proofs.Lines.{Data.{DataRow, data_still, sending_stays}, Rows.{initiator_moves, target_moves, initiator_in_phase}}
use proofs.Lines.{Rows.{target_in_phase, same_line, no_rise}, Seen.{around, obeys_linked}}
use proofs.{Phases.{Crossings.{target_row, initiator_row}, Stays.{receives_if, data_by}}, Pulses.In.{waits_more}}
use proofs.Pulses.In.{oldest_stays, oldest_new, last_ack_test, answer_late, may_answer, answered_target}
use proofs.Pulses.{In.{released_target, pulse_end_late}, Obeys.{req_end_out, req_pulse_out, ack_pulse_out, ack_end_out}}
use proofs.Pulses.{Obeys.{byte_driven_obeys}, Rows.{NextPulsing, PulseHere, later_target_out, later_initiator_out}}
use proofs.Pulses.Rows.{data_row, target_next_is, initiator_next_is, own_ack_other, own_ack_own, pulsing_goes}
use proofs.Pulses.{Rows.{fresh_next, same_latency, data_stands}, Steps.{more_asked, req_falls_facts, req_rises_facts}}
use proofs.Pulses.Steps.{ack_rises_facts, ack_falls_facts, still_facts, assertion_short, none_no_sooner, some_no_sooner}

-- ---- what the initiator gives stays while no byte crosses

given_stays : (s : ScenarioValue) (p : List Row) (n : Connection) (req ack atn : Bool) (x : ℕ)
    (req' ack' atn' : Bool) (x' t d : ℕ) (o l : LineSet) → Linked p n (ends false ack atn x false false false req 0)
    → Linked (row_of_lines t d l ∷ p) n (ends false ack' atn' x' false false false req' 0)
    → DataRow p (row_of_lines t d l) n (change_to (connected_bus (ends false ack atn x false false false req 0))
    (connected_bus (ends false ack' atn' x' false false false req' 0)) o l)
    → receiver_in n (change_to (connected_bus (ends false ack atn x false false false req 0))
    (connected_bus (ends false ack' atn' x' false false false req' 0)) o l) ≡ None
    → given_here s (row_of_lines t d l ∷ p) ≡ given_here s p
given_stays s p n req ack atn x req' ack' atn' x' t d o l h e dr none =
    let q : List Row = row_of_lines t d l ∷ p in
    let still = data_still s p (row_of_lines t d l) n _ dr refl refl none in
    (λ i. byte_bits (byte_to_send (e.stands.bus_is i) (run_state s q).exchange.speech (sending_of s (run_state s q))))
    ∙ ap (λ (v : Sending). byte_bits (slice_index_or v.sent v.moved 0)) (sending_stays s p (row_of_lines t d l) still)
    ∙ sym
    (λ i. byte_bits (byte_to_send (h.stands.bus_is i) (run_state s p).exchange.speech (sending_of s (run_state s p))))

driven_same : (s : ScenarioValue) (p q : List Row) (n : Connection) (x : ℕ)
    → HasDrivenPulsed s p n false x → since data_of q ≡ since data_of p → handshakes q ≡ handshakes p
    → (dialogue q).heard.now.agreement ≡ (dialogue p).heard.now.agreement
    → (own_of q n.initiator).ack ≡ (own_of p n.initiator).ack → HasDrivenPulsed s q n false x
driven_same s p q n x h es eh eg eo = λ some lat there. subst
    (λ k. k ≤ drives_by (handshakes q) (times_here q).hold (own_of q n.initiator).ack lat) (sym es)
    (subst (λ k. since data_of p ≤ k) (λ i. drives_by (sym eh i) (times_of (sym eg i).period).hold (sym eo i) lat)
    (h ((λ i. (sym eh i).answers == 0 && x == 0) ∙ some) lat there))

pub no_attention : (q : Bool) → implies q (false || false) ≡ true → q ≡ false
no_attention true e = sym e
no_attention false e = refl

-- ---- REQ falls

pub req_ends_out : (s : ScenarioValue) (p : List Row) (n : Connection) (ack atn : Bool) (x t lat0 : ℕ)
    → latency_of s n.target ≡ Some lat0 → t ≡ (line_times p).req + (times_here p).assertion + lat0
    → PulseHere s p (target_row t n (ends false ack atn x false false false false 0)) n false true ack atn x 0
    → NextPulsing s p (target_row t n (ends false ack atn x false false false false 0)) n false false ack atn x 0
req_ends_out s p n ack atn x t lat0 there0 at h =
    let e : EndLines = ends false ack atn x false false false true 0 in
    let f : EndLines = ends false ack atn x false false false false 0 in
    let row : Row = target_row t n f in
    let q : List Row = row ∷ p in
    let hp = h.pulsing in
    let hs : Handshakes = handshakes p in
    let c : Change = change_to (connected_bus e) (connected_bus f) (target_side e) (target_side f) in
    let m = target_moves p n e false false false false 0 t hp.linked in
    let r = target_in_phase p n e false 0 t hp.linked in
    let dr = data_row p row n false true ack atn x 0 false ack atn x 0
    (target_side e) (target_side f) s h.always hp.linked.target_below hp.linked m in
    let eh : handshakes q ≡ hs = r.handshakes_are ∙ ap (λ (b : Bool). answered_if b t hs) (no_rise ack) in
    let ea : (line_times q).ack ≡ (line_times p).ack = r.ack_is ∙ same_line ack (line_times p).ack t in
    let en : (line_times q).atn ≡ (line_times p).atn = r.atn_is ∙ same_line atn (line_times p).atn t in
    let eo : (own_of q n.initiator).ack ≡ (own_of p n.initiator).ack = own_ack_other
    p row n.initiator hp.linked.apart in
    let eg = r.agreement_is refl refl in
    let none : receiver_in n c ≡ None = ap (λ (b : Bool). if b then Some n.target else None) (no_rise ack) in
    let ev = given_stays s p n true ack atn x false ack atn x t n.target
    (target_side e) (target_side f) hp.linked m.linked dr none in
    let held : (line_times p).req + (times_here p).assertion ≤ t = omega arith in
    let order = h.order in
    let stands = hp.facts.req_stands in
    let short = assertion_short (dialogue p).heard.now.agreement.period in
    let pu : pulses p ≡ pulses_of hs = hp.pulses_are in
    record {
      order = order;
      obeys = obeys_linked p row n e c hp.linked m.change refl h.books
          (req_end_out (around p n.target n c) n ack atn x t hp.linked.apart order hp.offset held);
      pulsing = pulsing_goes s p q n false true ack atn x 0 false ack atn x 0 t hs t (line_times p).ack
          (own_of p n.initiator).ack hp m.linked r refl order hp.phase.asks refl (r.pulses_are ∙ (λ i. record {
            req = (pu i).req;
            ack = count_after (no_rise ack i) (pu i).ack;
            last_req = (pu i).last_req;
            last_ack = when (no_rise ack i) t (pu i).last_ack;
          })) eh r.req_is ea eo (req_falls_facts hs (line_times p).req (line_times p).ack (own_of p n.initiator).ack
          (times_here p).assertion (offset_here p) (last_time p) t ack hp.facts held order)
          (driven_same s p q n x hp.driven (data_stands p row (bit_or x 0) r.data_is) eh eg eo)
          (λ d. receives_if false (receiver q) n.target d (r.receiver_is ∙ none))
          (λ a b. let w = sym (ap (λ (o : Option ℕ). is_some o) (r.receiver_is ∙ none)) ∙ b in absurd cc);
      ahead = record {
        target = λ lat there.
            let same = same_latency s n.target lat lat0 there there0 in
            subst (NoSooner t)
            (sym (target_next_is s p row n c false false ack 0 lat hs t (line_times p).ack dr eh r.req_is ea eg))
            (fresh_next false ack 0 hs t (line_times p).ack (times_here p) (offset_here p)
            (run_count s p n) (next_bits s p n) lat t (λ z. absurd cc) (omega arith)
            (λ z. let w = hp.facts.all_answered (none_wait (length hs.waiting) ack z) in omega arith));
        initiator = λ lat there. subst (NoSooner t) (sym (initiator_next_is s p row n false ack atn x lat hs
            (line_times p).ack (line_times p).atn (own_of p n.initiator).ack (given_here s p) eh ea en eo ev eg))
            (later_initiator_out s p row n true ack atn x h lat there);
      };
    }
  where
    none_wait : (a : ℕ) (q : Bool) → (not (a == 0) || q) ≡ false → a ≡ 0
    none_wait a q e = grind (arith, nat_tests)

-- ---- REQ rises again

asked_out : (h : Handshakes) (ack atn : Bool) (x t tack tatn : ℕ) (z : TransferTimes) (lag raised g lat : ℕ)
    → length h.waiting < 255 → NoSooner t (initiator_next false ack atn x h tack tatn z lag raised g lat)
    → NoSooner t (initiator_next false ack atn x (asked t h) tack tatn z lag raised g lat)
asked_out h true atn x t tack tatn z lag raised g lat few f = f
asked_out h false atn x t tack tatn z lag raised g lat few f = subst (λ (b : Bool). NoSooner t
    (if b then (if x == g then Some c else Some d) else if x == 0 then None else Some (raised + z.hold + lat)))
    (sym (waits_more t h.waiting few)) (go (length h.waiting == 0) refl (x == g) refl)
  where
    c : ℕ
    c = max (answers_at (asked t h) tack lag z) (drives_at (asked t h) z raised lat + z.set_up) + lat

    d : ℕ
    d = drives_at (asked t h) z raised lat

    later : (b : Bool) (v : ℕ) → v ≡ t → t ≤ (if b then v + lat else max (v + lat) (raised + z.hold + lat))
    later true v e = omega arith
    later false v e = omega arith

    go : (q : Bool) → (length h.waiting == 0) ≡ q → (r : Bool) → (x == g) ≡ r
        → NoSooner t (if r then Some c else Some d)
    go true none r e =
        let w = oldest_new t h.waiting few none in
        let u : t ≤ d = later (h.answers == 0) (time_of (first_of (opened t h.waiting))) w in
        (elim (cases_Bool r) [ inl f ↦ rw f (some_no_sooner t c (omega arith)) | inr f ↦ rw f (some_no_sooner t d u) ])
    go false some r e =
        let w = oldest_stays t h.waiting few some in
        let was : NoSooner t (if r then Some (max (answers_at h tack lag z) (drives_at h z raised lat + z.set_up) + lat)
        else Some (drives_at h z raised lat)) = subst (λ (k : Bool). NoSooner t
        (if k then Some (max (answers_at h tack lag z) (drives_at h z raised lat + z.set_up) + lat)
        else Some (drives_at h z raised lat))) e (subst (λ (k : Bool). NoSooner t
        (if not k then (if x == g then Some (max (answers_at h tack lag z) (drives_at h z raised lat + z.set_up) + lat)
        else Some (drives_at h z raised lat)) else if x == 0 then None else Some (raised + z.hold + lat))) some f) in
        subst (λ (k : ℕ). NoSooner t (if r
        then Some (max (max (k + lag) (if h.answers == 0 then 0 else max (h.last_ack + z.period) (tack + z.negation)))
        ((if h.answers == 0 then k + lat else max (k + lat) (raised + z.hold + lat)) + z.set_up) + lat)
        else Some (if h.answers == 0 then k + lat else max (k + lat) (raised + z.hold + lat)))) (sym w) was

-- A byte that was driven by then was driven by now, where a request more waits.
driven_more : (h : Handshakes) (hold raised lat t : ℕ) → length h.waiting < 255
    → h.requests ≡ h.answers + length h.waiting → (h.requests == 0) ≡ false
    → drives_by h hold raised lat ≤ drives_by (asked t h) hold raised lat
driven_more h hold raised lat t few count some = go (length h.waiting == 0) refl
  where
    unequal : (a b : ℕ) → a ≡ b → (a == 0) ≡ false → (b == 0) ≡ false
    unequal a b e f = grind (arith, nat_tests)

    go : (q : Bool) → (length h.waiting == 0) ≡ q → drives_by h hold raised lat ≤ drives_by (asked t h) hold raised lat
    go true none =
        let w = first_none h.waiting none in
        let answered_some : (h.answers == 0) ≡ false = unequal h.requests h.answers
        (let u = zero_of (length h.waiting) none in omega arith) some in
        subst (λ (b : Bool). (if b then time_of (first_of h.waiting) + lat
        else max (time_of (first_of h.waiting) + lat) (raised + hold + lat))
        ≤ (if b then time_of (first_of (opened t h.waiting)) + lat
        else max (time_of (first_of (opened t h.waiting)) + lat) (raised + hold + lat))) (sym answered_some)
        (omega arith)
      where
        first_none : (w : List Request) → (length w == 0) ≡ true → time_of (first_of w) ≡ 0
        first_none [] e = refl
        first_none (r ∷ w) e = let u = zero_of (length (r ∷ w)) e in absurd (omega arith)
    go false some =
        let w = oldest_stays t h.waiting few some in
        subst (λ (m : ℕ). drives_by h hold raised lat
        ≤ (if h.answers == 0 then m + lat else max (m + lat) (raised + hold + lat))) (sym w) (omega arith)

pub req_pulses_out : (s : ScenarioValue) (p : List Row) (n : Connection) (ack atn : Bool) (x t lat0 : ℕ)
    → latency_of s n.target ≡ Some lat0
    → t ≡ max (max ((handshakes p).last_req + (times_here p).period) ((line_times p).req + (times_here p).negation))
    (max (room_by (offset_here p) (handshakes p)) 0) + lat0 → nat_lt (handshakes p).requests (run_count s p n) ≡ true
    → nat_lt (length (handshakes p).waiting) (offset_here p) ≡ true → implies (is_owed (duty p)) false ≡ true
    → PulseHere s p (target_row t n (ends false ack atn x false false false true 0)) n false false ack atn x 0
    → NextPulsing s p (target_row t n (ends false ack atn x false false false true 0)) n false true ack atn x 0
req_pulses_out s p n ack atn x t lat0 there0 at follows room owed h =
    let e : EndLines = ends false ack atn x false false false false 0 in
    let f : EndLines = ends false ack atn x false false false true 0 in
    let row : Row = target_row t n f in
    let q : List Row = row ∷ p in
    let hp = h.pulsing in
    let hs : Handshakes = handshakes p in
    let c : Change = change_to (connected_bus e) (connected_bus f) (target_side e) (target_side f) in
    let m = target_moves p n e false false false true 0 t hp.linked in
    let r = target_in_phase p n e true 0 t hp.linked in
    let dr = data_row p row n false false ack atn x 0 true ack atn x 0
    (target_side e) (target_side f) s h.always hp.linked.target_below hp.linked m in
    let eh : handshakes q ≡ asked t hs = r.handshakes_are
    ∙ ap (λ (b : Bool). answered_if b t (asked t hs)) (no_rise ack) in
    let ea : (line_times q).ack ≡ (line_times p).ack = r.ack_is ∙ same_line ack (line_times p).ack t in
    let en : (line_times q).atn ≡ (line_times p).atn = r.atn_is ∙ same_line atn (line_times p).atn t in
    let eo : (own_of q n.initiator).ack ≡ (own_of p n.initiator).ack = own_ack_other
    p row n.initiator hp.linked.apart in
    let eg = r.agreement_is refl refl in
    let none : receiver_in n c ≡ None = ap (λ (b : Bool). if b then Some n.target else None) (no_rise ack) in
    let ev = given_stays s p n false ack atn x true ack atn x t n.target
    (target_side e) (target_side f) hp.linked m.linked dr none in
    let order = h.order in
    let few = ltb-true (length hs.waiting) (offset_here p) room in
    let byte = hp.byte_offset in
    let count = hp.facts.counts in
    let settled = hp.settled in
    let pu : pulses p ≡ pulses_of hs = hp.pulses_are in
    let same_data = data_stands p row (bit_or x 0) r.data_is in
    record {
      order = order;
      obeys = obeys_linked p row n e c hp.linked m.change refl h.books
          (req_pulse_out (around p n.target n c) n ack atn x t (record {
            asks = record {
              apart = hp.linked.apart;
              order = order;
              settled = omega arith;
              began =
                  let u = hp.phase.began in
                  omega arith;
              known = refl;
              duty = owed;
            };
            offset = hp.offset;
            period = ap (λ (k : Pulses). is_after k.last_req (times_here p).period t) pu ∙ le-leb _ t (omega arith);
            negation = ap
                (λ (k : Pulses). not (is_some k.last_req) || nat_le ((line_times p).req + (times_here p).negation) t) pu
                ∙ le-leb _ t (omega arith);
            room = ap (λ (k : Pulses). offset_here p == 255 || nat_lt k.req (k.ack + offset_here p)) pu
                ∙ ap (λ (b : Bool). offset_here p == 255 || b)
                (lt-ltb hs.requests (hs.answers + offset_here p) (omega arith))
                ∙ or_true (offset_here p == 255);
          }));
      pulsing = pulsing_goes s p q n false false ack atn x 0 true ack atn x 0 t (asked t hs) t (line_times p).ack
          (own_of p n.initiator).ack hp m.linked r refl order hp.phase.asks refl (r.pulses_are ∙ (λ i. record {
            req = counted_on (pu i).req;
            ack = count_after (no_rise ack i) (pu i).ack;
            last_req = Some t;
            last_ack = when (no_rise ack i) t (pu i).last_ack;
          })) eh r.req_is ea eo (req_rises_facts hs (line_times p).req (line_times p).ack
          (own_of p n.initiator).ack (times_here p).assertion (offset_here p) (last_time p) t ack hp.facts few byte
          (more_asked hs.requests (run_count s p n) follows h.short) order) (λ some lat there. subst
          (λ k. k ≤ drives_by (handshakes q) (times_here q).hold (own_of q n.initiator).ack lat) (sym same_data)
          (subst (λ k. since data_of p ≤ k) (λ i. drives_by (sym eh i) (times_of (sym eg i).period).hold (sym eo i) lat)
          (let u = hp.driven ((λ i. (sym eh i).answers == 0 && x == 0) ∙ some) lat there in let w = driven_more hs
          (times_here p).hold (own_of p n.initiator).ack lat t (omega arith) count hp.facts.asked in omega arith)))
          (λ d. receives_if false (receiver q) n.target d (r.receiver_is ∙ none))
          (λ a b. let w = sym (ap (λ (k : Option ℕ). is_some k) (r.receiver_is ∙ none)) ∙ b in absurd cc);
      ahead = record {
        target = λ lat there. subst (NoSooner t) (sym
            (target_next_is s p row n c false true ack 0 lat (asked t hs) t (line_times p).ack dr eh r.req_is ea eg))
            (some_no_sooner t (t + (times_here p).assertion + lat) (omega arith));
        initiator = λ lat there. subst (NoSooner t) (sym (initiator_next_is s p row n false ack atn x lat (asked t hs)
            (line_times p).ack (line_times p).atn (own_of p n.initiator).ack (given_here s p) eh ea en eo ev eg))
            (asked_out hs ack atn x t (line_times p).ack (line_times p).atn (times_here p)
            (lag_by (host_of s n.initiator)) (own_of p n.initiator).ack (given_here s p) lat (omega arith)
            (later_initiator_out s p row n false ack atn x h lat there));
      };
    }

-- ---- ACK rises with the byte

pub answers_pulse_out : (s : ScenarioValue) (p : List Row) (n : Connection) (req atn : Bool) (x t lat0 : ℕ)
    → latency_of s n.initiator ≡ Some lat0
    → t ≡ max (answers_at (handshakes p) (line_times p).ack (lag_by (host_of s n.initiator)) (times_here p))
    (drives_at (handshakes p) (times_here p) (own_of p n.initiator).ack lat0 + (times_here p).set_up) + lat0
    → (length (handshakes p).waiting == 0) ≡ false → (x == 0) ≡ false
    → PulseHere s p (initiator_row t n (ends false true atn x false false false req 0)) n false req false atn x 0
    → NextPulsing s p (initiator_row t n (ends false true atn x false false false req 0)) n false req true atn x 0
answers_pulse_out s p n req atn x t lat0 there0 at some given h =
    let e : EndLines = ends false false atn x false false false req 0 in
    let f : EndLines = ends false true atn x false false false req 0 in
    let row : Row = initiator_row t n f in
    let q : List Row = row ∷ p in
    let hp = h.pulsing in
    let hs : Handshakes = handshakes p in
    let c : Change = change_to (connected_bus e) (connected_bus f) (initiator_side e) (initiator_side f) in
    let m = initiator_moves p n e false true atn x t hp.linked in
    let r = initiator_in_phase p n e false true atn x t hp.linked in
    let dr = data_row p row n false req false atn x 0 req true atn x 0 (initiator_side e)
    (initiator_side f) s h.always hp.linked.initiator_below hp.linked m in
    let eh : handshakes q ≡ answered t hs = r.handshakes_are
    ∙ ap (λ (b : Bool). answered t (asked_if b t hs)) (no_rise req) in
    let er : (line_times q).req ≡ (line_times p).req = r.req_is ∙ same_line req (line_times p).req t in
    let eo : (own_of q n.initiator).ack ≡ t = own_ack_own p t n.initiator
    (initiator_side f) (initiator_side e) hp.linked.initiator in
    let eg = r.agreement_is refl refl in
    let order = h.order in
    let pu : pulses p ≡ pulses_of hs = hp.pulses_are in
    let facts = ack_rises_facts hs (line_times p).req (line_times p).ack (own_of p n.initiator).ack
    (times_here p).assertion (offset_here p) (last_time p) t req hp.facts some order in
    let driven0 = hp.driven (and_right (hs.answers == 0) (x == 0) given) lat0 there0 in
    let first = facts.ack_first refl in
    record {
      order = order;
      obeys = obeys_linked p row n e c hp.linked m.change refl h.books
          (ack_pulse_out (around p n.initiator n c) n req atn x t hp.linked.apart (may_answer p n.initiator n c t
          (lag_by (host_of s n.initiator)) pu hp.offset order (omega arith) hp.facts.counts some) (set_up_by
          (since data_of p) (drives_at hs (times_here p) (own_of p n.initiator).ack lat0) _ _ lat0 t driven0 at));
      pulsing = pulsing_goes s p q n false req false atn x 0 req true atn x 0 t (answered t hs)
          (line_times p).req t t hp m.linked r refl order hp.phase.asks refl (r.pulses_are ∙ (λ i. record {
            req = count_after (no_rise req i) (pu i).req;
            ack = counted_on (pu i).ack;
            last_req = when (no_rise req i) t (pu i).last_req;
            last_ack = Some t;
          }) ∙ (λ i. record {
            req = hs.requests;
            ack = counted_on hs.answers;
            last_req = Some hs.last_req;
            last_ack =
                if sym first i then None else Some t;
          })) eh er r.ack_is eo facts (λ z lat there. let u = data_by s p row h.always order in
          subst (λ k. since data_of q ≤ k) (λ i. drives_by (sym eh i) (times_of (sym eg i).period).hold (sym eo i) lat)
          (subst (λ (b : Bool). since data_of q ≤ (if b then time_of (first_of (drop 1 hs.waiting)) + lat
          else max (time_of (first_of (drop 1 hs.waiting)) + lat) (t + (times_here p).hold + lat))) (sym first)
          (omega arith))) (λ d. receives_if true (receiver q) n.target d r.receiver_is) (λ a b. refl);
      ahead = record {
        target = λ lat there. subst (NoSooner t) (sym
            (target_next_is s p row n c false req true 0 lat (answered t hs) (line_times p).req t dr eh er r.ack_is eg))
            (answered_target false req 0 hs (line_times p).req (line_times p).ack (times_here p)
            (offset_here p) (run_count s p n) (next_bits s p n) lat t hp.facts.reached hp.facts.few
            (later_target_out s p row n req false atn x h lat there));
        initiator =
            λ lat there. subst (NoSooner t) (sym (initiator_next_is s p row n false true atn x lat (answered t hs) t
            (line_times q).atn t (given_here s q) eh r.ack_is refl eo refl eg)) (some_no_sooner t _ (omega arith));
      };
    }
  where
    set_up_by : (a d v set lat t : ℕ) → a ≤ d → t ≡ max v (d + set) + lat → a + set ≤ t
    set_up_by a d v set lat t e f = omega arith

-- ---- ACK falls

fresh_out : (w u v : Bool) (c d e t : ℕ) → (w ≡ true → t ≤ c) → (w ≡ true → t ≤ d) → t ≤ e
    → NoSooner t (if w then (if u then Some c else Some d) else if v then None else Some e)
fresh_out true true v c d e t f g h = some_no_sooner t c (f refl)
fresh_out true false v c d e t f g h = some_no_sooner t d (g refl)
fresh_out false u true c d e t f g h = none_no_sooner t
fresh_out false u false c d e t f g h = some_no_sooner t e h

-- A byte is driven no sooner than the end of the hold time of the one before it.
drives_late : (h : Handshakes) (z : TransferTimes) (raised lat : ℕ) → (h.answers == 0) ≡ false
    → raised + z.hold + lat ≤ drives_at h z raised lat
drives_late h z raised lat some =
    subst (λ (b : Bool). raised + z.hold + lat ≤ (if b then time_of (first_of h.waiting) + lat
    else max (time_of (first_of h.waiting) + lat) (raised + z.hold + lat))) (sym some) (omega arith)

pub ends_pulse_out : (s : ScenarioValue) (p : List Row) (n : Connection) (req atn : Bool) (x t lat0 : ℕ)
    → latency_of s n.initiator ≡ Some lat0
    → t ≡ (line_times p).ack + (if atn && (line_times p).atn == (line_times p).ack then max 90 (times_here p).assertion
    else (times_here p).assertion) + lat0
    → PulseHere s p (initiator_row t n (ends false false atn x false false false req 0)) n false req true atn x 0
    → NextPulsing s p (initiator_row t n (ends false false atn x false false false req 0)) n false req false atn x 0
ends_pulse_out s p n req atn x t lat0 there0 at h =
    let e : EndLines = ends false true atn x false false false req 0 in
    let f : EndLines = ends false false atn x false false false req 0 in
    let row : Row = initiator_row t n f in
    let q : List Row = row ∷ p in
    let hp = h.pulsing in
    let hs : Handshakes = handshakes p in
    let c : Change = change_to (connected_bus e) (connected_bus f) (initiator_side e) (initiator_side f) in
    let m = initiator_moves p n e false false atn x t hp.linked in
    let r = initiator_in_phase p n e false false atn x t hp.linked in
    let dr = data_row p row n false req true atn x 0 req false atn x 0 (initiator_side e)
    (initiator_side f) s h.always hp.linked.initiator_below hp.linked m in
    let eh : handshakes q ≡ hs = r.handshakes_are ∙ ap (λ (b : Bool). asked_if b t hs) (no_rise req) in
    let er : (line_times q).req ≡ (line_times p).req = r.req_is ∙ same_line req (line_times p).req t in
    let eo : (own_of q n.initiator).ack ≡ (own_of p n.initiator).ack = own_ack_own p t n.initiator
    (initiator_side f) (initiator_side e) hp.linked.initiator in
    let eg = r.agreement_is refl refl in
    let order = h.order in
    let pu : pulses p ≡ pulses_of hs = hp.pulses_are in
    let held = pulse_end_late (atn && (line_times p).atn == (line_times p).ack)
    (line_times p).ack (times_here p).assertion lat0 t at in
    let some = hp.facts.ack_first refl in
    let quiet : t ≡ (line_times p).ack + (times_here p).assertion + lat0 = at ∙ ap (λ (b : Bool). (line_times p).ack
    + (if b && (line_times p).atn == (line_times p).ack then max 90 (times_here p).assertion
    else (times_here p).assertion) + lat0) (no_attention atn hp.phase.asks) in
    let stands = hp.facts.ack_stands some in
    let raised = hp.facts.raised_is some in
    let short = assertion_short (dialogue p).heard.now.agreement.period in
    record {
      order = order;
      obeys = obeys_linked p row n e c hp.linked m.change refl h.books
          (ack_end_out (around p n.initiator n c) n req atn x t hp.linked.apart order hp.offset held);
      pulsing = pulsing_goes s p q n false req true atn x 0 req false atn x 0 t hs (line_times p).req t
          (own_of p n.initiator).ack hp m.linked r refl order hp.phase.asks refl (r.pulses_are ∙ (λ i. record {
            req = count_after (no_rise req i) (pu i).req;
            ack = (pu i).ack;
            last_req = when (no_rise req i) t (pu i).last_req;
            last_ack = (pu i).last_ack;
          })) eh er r.ack_is eo (ack_falls_facts hs (line_times p).req (line_times p).ack (own_of p n.initiator).ack
          (times_here p).assertion (offset_here p) (last_time p) t req hp.facts held order)
          (driven_same s p q n x hp.driven (data_stands p row (bit_or x 0) r.data_is) eh eg eo)
          (λ d. receives_if false (receiver q) n.target d r.receiver_is)
          (λ a b. let w = sym (ap (λ (o : Option ℕ). is_some o) r.receiver_is) ∙ b in absurd cc);
      ahead = record {
        target = λ lat there. subst (NoSooner t)
            (sym (target_next_is s p row n c false req false 0 lat hs (line_times p).req t dr eh er r.ack_is eg))
            (released_target false req 0 hs (line_times p).req (line_times p).ack (times_here p) (offset_here p)
            (run_count s p n) (next_bits s p n) lat t (later_target_out s p row n req true atn x h lat there));
        initiator = λ lat there.
            let same = same_latency s n.initiator lat lat0 there there0 in
            let late = (answer_late hs t (lag_by (host_of s n.initiator)) (times_here p) some).1 in
            let byte = drives_late hs (times_here p) (own_of p n.initiator).ack lat some in
            subst (NoSooner t) (sym (initiator_next_is s p row n false false atn x lat hs t
            (line_times q).atn (own_of p n.initiator).ack (given_here s q) eh r.ack_is refl eo refl eg))
            (fresh_out (not (length hs.waiting == 0)) (x == given_here s q) (x == 0)
            (max (answers_at hs t (lag_by (host_of s n.initiator)) (times_here p))
            (drives_at hs (times_here p) (own_of p n.initiator).ack lat + (times_here p).set_up) + lat)
            (drives_at hs (times_here p) (own_of p n.initiator).ack lat)
            ((own_of p n.initiator).ack + (times_here p).hold + lat) t (λ w. omega arith) (λ w. omega arith)
            (omega arith));
      };
    }

-- ---- the byte changes, or is released

drives_byte : (s : ScenarioValue) (p : List Row) (n : Connection) (req atn : Bool) (x z t lat0 : ℕ)
    → latency_of s n.initiator ≡ Some lat0 → (x == z) ≡ false
    → (((handshakes p).answers == 0) ≡ false → (handshakes p).last_ack + (times_here p).hold ≤ t)
    → (((handshakes p).answers == 0 && z == 0) ≡ false
    → t ≤ drives_by (handshakes p) (times_here p).hold (own_of p n.initiator).ack lat0)
    → (not (length (handshakes p).waiting == 0) ≡ true
    → t ≤ drives_at (handshakes p) (times_here p) (own_of p n.initiator).ack lat0)
    → t ≤ (own_of p n.initiator).ack + (times_here p).hold + lat0
    ⊎ ((z == 0) ≡ true) ⊎ (not (length (handshakes p).waiting == 0) ≡ true)
    → PulseHere s p (initiator_row t n (ends false false atn z false false false req 0)) n false req false atn x 0
    → NextPulsing s p (initiator_row t n (ends false false atn z false false false req 0)) n false req false atn z 0
drives_byte s p n req atn x z t lat0 there0 other held driven waits release h =
    let e : EndLines = ends false false atn x false false false req 0 in
    let f : EndLines = ends false false atn z false false false req 0 in
    let row : Row = initiator_row t n f in
    let q : List Row = row ∷ p in
    let hp = h.pulsing in
    let hs : Handshakes = handshakes p in
    let c : Change = change_to (connected_bus e) (connected_bus f) (initiator_side e) (initiator_side f) in
    let m = initiator_moves p n e false false atn z t hp.linked in
    let r = initiator_in_phase p n e false false atn z t hp.linked in
    let dr = data_row p row n false req false atn x 0 req false atn z 0 (initiator_side e)
    (initiator_side f) s h.always hp.linked.initiator_below hp.linked m in
    let eh : handshakes q ≡ hs = r.handshakes_are ∙ ap (λ (b : Bool). asked_if b t hs) (no_rise req) in
    let er : (line_times q).req ≡ (line_times p).req = r.req_is ∙ same_line req (line_times p).req t in
    let eo : (own_of q n.initiator).ack ≡ (own_of p n.initiator).ack = own_ack_own p t n.initiator
    (initiator_side f) (initiator_side e) hp.linked.initiator in
    let eg = r.agreement_is refl refl in
    let order = h.order in
    let pu : pulses p ≡ pulses_of hs = hp.pulses_are in
    record {
      order = order;
      obeys = obeys_linked p row n e c hp.linked m.change refl h.books
          (byte_driven_obeys (around p n.initiator n c) n req atn x z t hp.linked.apart order hp.offset other
          (ap (λ (k : Pulses). is_after k.last_ack (times_here p).hold t) pu
          ∙ last_ack_test hs (times_here p).hold t held));
      pulsing = pulsing_goes s p q n false req false atn x 0 req false atn z 0 t hs (line_times p).req
          (line_times p).ack (own_of p n.initiator).ack hp m.linked r refl order hp.phase.asks refl
          (r.pulses_are ∙ (λ i. record {
            req = count_after (no_rise req i) (pu i).req;
            ack = (pu i).ack;
            last_req = when (no_rise req i) t (pu i).last_req;
            last_ack = (pu i).last_ack;
          })) eh er r.ack_is eo (still_facts hs (line_times p).req (line_times p).ack (own_of p n.initiator).ack
          (times_here p).assertion (offset_here p) (last_time p) t req false hp.facts order)
          (λ some lat there. let same = same_latency s n.initiator lat lat0 there there0 in
          let u = data_by s p row h.always order in let w = driven ((λ i. (sym eh i).answers == 0 && z == 0) ∙ some) in
          subst (λ k. since data_of q ≤ k) (λ i. drives_by (sym eh i) (times_of (sym eg i).period).hold (sym eo i) lat)
          (subst (λ k. since data_of q ≤ drives_by hs (times_here p).hold (own_of p n.initiator).ack k)
          (sym same) (omega arith))) (λ d. receives_if false (receiver q) n.target d r.receiver_is)
          (λ a b. let w = sym (ap (λ (k : Option ℕ). is_some k) r.receiver_is) ∙ b in absurd cc);
      ahead = record {
        target =
            λ lat there. subst (NoSooner t) (sym (target_next_is s p row n c false req false 0 lat hs (line_times p).req
            (line_times p).ack dr eh er r.ack_is eg)) (later_target_out s p row n req false atn x h lat there);
        initiator = λ lat there.
            let same = same_latency s n.initiator lat lat0 there there0 in
            subst (NoSooner t) (sym (initiator_next_is s p row n false false atn z lat hs (line_times p).ack
            (line_times q).atn (own_of p n.initiator).ack (given_here s q) eh r.ack_is refl eo refl eg))
            (subst (λ k. NoSooner t (if not (length hs.waiting == 0)
            then (if z == given_here s q then Some (max (answers_at hs (line_times p).ack
            (lag_by (host_of s n.initiator)) (times_here p)) (drives_at hs (times_here p) (own_of p n.initiator).ack k
            + (times_here p).set_up) + k) else Some (drives_at hs (times_here p) (own_of p n.initiator).ack k))
            else if z == 0 then None else Some ((own_of p n.initiator).ack + (times_here p).hold + k))) (sym same)
            (go (not (length hs.waiting == 0)) refl (z == given_here s q) (z == 0) refl));
      };
    }
  where
    v : ℕ
    v = answers_at (handshakes p) (line_times p).ack (lag_by (host_of s n.initiator)) (times_here p)

    d : ℕ
    d = drives_at (handshakes p) (times_here p) (own_of p n.initiator).ack lat0

    go : (w : Bool) → not (length (handshakes p).waiting == 0) ≡ w → (u : Bool) (g : Bool) → (z == 0) ≡ g
        → NoSooner t (if w then (if u then Some (max v (d + (times_here p).set_up) + lat0) else Some d)
        else if g then None else Some ((own_of p n.initiator).ack + (times_here p).hold + lat0))
    go true a true g b = let k = waits a in some_no_sooner t _ (omega arith)
    go true a false g b = some_no_sooner t d (waits a)
    go false a u true b = none_no_sooner t
    go false a u false b =
        elim release [
          | inl k ↦ some_no_sooner t _ k
          | inr k ↦ elim k [
            | inl y ↦ let k = sym b ∙ y in absurd cc
            | inr y ↦ let k = sym a ∙ y in absurd cc
          ]
        ]

pub gives_pulsed_byte : (s : ScenarioValue) (p : List Row) (n : Connection) (req atn : Bool) (x z t lat0 : ℕ)
    → latency_of s n.initiator ≡ Some lat0 → t ≡ drives_at (handshakes p) (times_here p) (own_of p n.initiator).ack lat0
    → (length (handshakes p).waiting == 0) ≡ false → (x == z) ≡ false
    → PulseHere s p (initiator_row t n (ends false false atn z false false false req 0)) n false req false atn x 0
    → NextPulsing s p (initiator_row t n (ends false false atn z false false false req 0)) n false req false atn z 0
gives_pulsed_byte s p n req atn x z t lat0 there0 at some other h = drives_byte s p n req atn x z t lat0 there0 other
    (λ w. let u = drives_late (handshakes p) (times_here p) (own_of p n.initiator).ack lat0 w in
    let k = h.pulsing.facts.raised_is w in omega arith) (λ w. omega arith) (λ w. omega arith)
    (inr (inr (ap not some))) h

pub releases_pulsed_byte : (s : ScenarioValue) (p : List Row) (n : Connection) (req atn : Bool) (x t lat0 : ℕ)
    → latency_of s n.initiator ≡ Some lat0 → t ≡ (own_of p n.initiator).ack + (times_here p).hold + lat0
    → (length (handshakes p).waiting == 0) ≡ true → (x == 0) ≡ false
    → PulseHere s p (initiator_row t n (ends false false atn 0 false false false req 0)) n false req false atn x 0
    → NextPulsing s p (initiator_row t n (ends false false atn 0 false false false req 0)) n false req false atn 0 0
releases_pulsed_byte s p n req atn x t lat0 there0 at none some h = drives_byte s p n req atn x 0 t lat0 there0 some
    (λ w. let k = h.pulsing.facts.raised_is w in omega arith) (λ w. let u = drives_late (handshakes p)
    (times_here p) (own_of p n.initiator).ack lat0 (first_of_two ((handshakes p).answers == 0) w) in omega arith)
    (λ w. let k = sym w ∙ ap not none in absurd cc) (inl (omega arith)) h
  where
    first_of_two : (a : Bool) → (a && true) ≡ false → a ≡ false
    first_of_two true e = e
    first_of_two false e = refl

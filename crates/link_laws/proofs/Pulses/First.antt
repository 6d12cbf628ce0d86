-- The first REQ of a data phase by pulses (6.1.5.2).
use Rattle.link_laws.proofs
use proofs.Names.{ℕ, ◌≡◌, ◌≤◌, ◌<◌, ◌+◌, Bool, true, false, not, ◌&&◌, ◌||◌, ◌==◌, ◌∙◌, List, ◌∷◌, Option, Some, None}
use proofs.Names.{refl, sym, ap, subst, arith, nat_tests, if◌then◌else◌, max, nat_le, nat_lt, is_some, or_true}
use proofs.Names.{counted_on, times_of, times_or_slow, fast_times, slow_times, receiver, last_time, line_times, Row}
use proofs.Names.{Agreement, Change, Connection, TURN_DELAY, Handshakes, handshakes, no_handshakes, asked, dialogue}
use proofs.Names.{pulses, no_pulses, turned, Pulses, is_after, ScenarioValue, lag_by, host_of, own_of, EndLines}
use proofs.Names.{target_side, connected_bus, change_to, KeepsBooksIn, when_pulsing, ends, times_here, offset_here}
use proofs.Names.{pulses_of, PulseFacts, initiator_next, answers_at, drives_at, given_here, NoSooner}
use proofs.{Lines.{Rows.{target_moves, target_in_phase}, Seen.{around, obeys_linked}}, Phases.Asks.{Asking, may_ask_by}}
use proofs.Phases.{Crossings.{target_row}, Stays.{NextLinked, phase_goes, turn_test, receives_if, data_by}}
use proofs.Pulses.{Obeys.{MayPulse, req_pulse_in, req_pulse_out}, Steps.{pulse_first, some_no_sooner}}

set_up_short : (period : ℕ) → (times_of period).set_up ≤ 55
set_up_short period = go (nat_lt period 25) (nat_lt period 50)
  where
    go : (a b : Bool) → (times_or_slow period
        (if a then None else if b then Some (fast_times period) else Some (slow_times period))).set_up ≤ 55
    go true b = omega arith
    go false true = omega arith
    go false false = omega arith

may_pulse : (s : ScenarioValue) (p : List Row) (n : Connection) (atn io : Bool) (y t dev : ℕ) (c : Change)
    → Asking s p n atn false false io y t → nat_lt 0 (offset_here p) ≡ true → pulses p ≡ no_pulses
    → MayPulse (around p dev n c) n io t
may_pulse s p n atn io y t dev c h off pu = record {
  asks = may_ask_by s p n atn false false io y t dev c h;
  offset = off;
  period = ap (λ (x : Pulses). is_after x.last_req (times_here p).period t) pu;
  negation =
      ap (λ (x : Pulses). not (is_some x.last_req) || nat_le ((line_times p).req + (times_here p).negation) t) pu;
  room = ap (λ (x : Pulses). offset_here p == 255 || nat_lt x.req (x.ack + offset_here p)) pu
      ∙ ap (λ (b : Bool). offset_here p == 255 || b) (some_room (offset_here p) off) ∙ or_true (offset_here p == 255);
}
  where
    some_room : (o : ℕ) → nat_lt 0 o ≡ true → nat_lt 0 (0 + o) ≡ true
    some_room o e = grind (arith, nat_tests)

first_facts : (p q : List Row) (n : Connection) (t : ℕ) → last_time q ≡ t
    → nat_lt 0 (offset_here q) ≡ true → handshakes q ≡ asked t no_handshakes → (line_times q).req ≡ t
    → PulseFacts (handshakes q) (line_times q).req (line_times q).ack (own_of q n.initiator).ack
    (times_here q).assertion (offset_here q) (last_time q) true false
first_facts p q n t now off eh er = subst (λ k. PulseFacts k (line_times q).req (line_times q).ack
    (own_of q n.initiator).ack (times_here q).assertion (offset_here q) (last_time q) true false) (sym eh)
    (subst (λ k. PulseFacts (asked t no_handshakes) k (line_times q).ack (own_of q n.initiator).ack
    (times_here q).assertion (offset_here q) (last_time q) true false) (sym er) (pulse_first t (last_time q)
    (times_here q).assertion (offset_here q) (line_times q).ack (own_of q n.initiator).ack off now))

pub starts_in : (s : ScenarioValue) (p : List Row) (n : Connection) (atn : Bool) (y t : ℕ)
    → Asking s p n atn false false true y t → nat_lt 0 (offset_here p) ≡ true
    → offset_here p < 256 → handshakes p ≡ no_handshakes → pulses p ≡ no_pulses
    → KeepsBooksIn p (target_row t n (ends false false atn 0 false false true true y))
    → NextLinked s p (target_row t n (ends false false atn 0 false false true true y)) n
starts_in s p n atn y t h off byte quiet none books =
    let e : EndLines = ends false false atn 0 false false true false y in
    let f : EndLines = ends false false atn 0 false false true true y in
    let row : Row = target_row t n f in
    let q : List Row = row ∷ p in
    let c : Change = change_to (connected_bus e) (connected_bus f) (target_side e) (target_side f) in
    let m = target_moves p n e false false true true y t h.linked in
    let r = target_in_phase p n e true y t h.linked in
    let eh : handshakes q ≡ asked t no_handshakes = r.handshakes_are ∙ ap (asked t) quiet in
    let eg = r.agreement_is refl refl in
    let short = set_up_short (dialogue p).heard.now.agreement.period in
    let long = h.set_up refl in
    let off' : nat_lt 0 (offset_here q) ≡ true = ap (λ (a : Agreement). nat_lt 0 a.offset) eg ∙ off in
    record {
      order = h.order;
      obeys = obeys_linked p row n e c h.linked m.change refl books
          (req_pulse_in (around p n.target n c) n false atn y t (may_pulse s p n atn true y t n.target c h off none)
          (turn_test (turned p) ((line_times p).io + TURN_DELAY) t (λ w. h.turn w refl)) (omega arith));
      stage = when_pulsing true true false atn 0 y (record {
        linked = m.linked;
        phase = phase_goes p q n e false false atn 0 true y t r h.phase h.phase.asks;
        offset = off';
        byte_offset = let w = ap (λ (a : Agreement). a.offset) eg in omega arith;
        settled = let u = h.settled in let w = r.phase_is in omega arith;
        side = refl;
        turned = λ a b. let u = h.turn (sym r.turned_is ∙ a) b in let w = r.io_is in omega arith;
        pulses_are = r.pulses_are ∙ (λ i. record {
          req = counted_on (none i).req;
          ack = (none i).ack;
          last_req = Some t;
          last_ack = (none i).last_ack;
        }) ∙ ap pulses_of (sym eh);
        facts = first_facts p q n t refl off' eh r.req_is;
        driven = λ lat there.
            let u = data_by s p row h.always h.order in
            let w : (handshakes q).last_req ≡ t = ap (λ (x : Handshakes). x.last_req) eh in
            omega arith;
        receives = λ d. receives_if true (receiver q) n.initiator d r.receiver_is;
        received = λ a b. absurd cc;
      }) (record {
        target = λ lat there. some_no_sooner t _ (let w = r.req_is in omega arith);
        initiator = λ lat there. subst
            (λ x. NoSooner t (initiator_next true false atn 0 x (line_times q).ack (line_times q).atn (times_here q)
            (lag_by (host_of s n.initiator)) (own_of q n.initiator).ack (given_here s q) lat)) (sym eh)
            (some_no_sooner t _ (omega arith));
      });
    }

pub starts_out : (s : ScenarioValue) (p : List Row) (n : Connection) (atn : Bool) (t : ℕ)
    → Asking s p n atn false false false 0 t → nat_lt 0 (offset_here p) ≡ true
    → offset_here p < 256 → handshakes p ≡ no_handshakes → pulses p ≡ no_pulses
    → KeepsBooksIn p (target_row t n (ends false false atn 0 false false false true 0))
    → NextLinked s p (target_row t n (ends false false atn 0 false false false true 0)) n
starts_out s p n atn t h off byte quiet none books =
    let e : EndLines = ends false false atn 0 false false false false 0 in
    let f : EndLines = ends false false atn 0 false false false true 0 in
    let row : Row = target_row t n f in
    let q : List Row = row ∷ p in
    let c : Change = change_to (connected_bus e) (connected_bus f) (target_side e) (target_side f) in
    let m = target_moves p n e false false false true 0 t h.linked in
    let r = target_in_phase p n e true 0 t h.linked in
    let eh : handshakes q ≡ asked t no_handshakes = r.handshakes_are ∙ ap (asked t) quiet in
    let eg = r.agreement_is refl refl in
    let off' : nat_lt 0 (offset_here q) ≡ true = ap (λ (a : Agreement). nat_lt 0 a.offset) eg ∙ off in
    record {
      order = h.order;
      obeys = obeys_linked p row n e c h.linked m.change refl books
          (req_pulse_out (around p n.target n c) n false atn 0 t (may_pulse s p n atn false 0 t n.target c h off none));
      stage = when_pulsing false true false atn 0 0 (record {
        linked = m.linked;
        phase = phase_goes p q n e false false atn 0 true 0 t r h.phase h.phase.asks;
        offset = off';
        byte_offset = let w = ap (λ (a : Agreement). a.offset) eg in omega arith;
        settled = let u = h.settled in let w = r.phase_is in omega arith;
        side = refl;
        turned = λ a b. absurd cc;
        pulses_are = r.pulses_are ∙ (λ i. record {
          req = counted_on (none i).req;
          ack = (none i).ack;
          last_req = Some t;
          last_ack = (none i).last_ack;
        }) ∙ ap pulses_of (sym eh);
        facts = first_facts p q n t refl off' eh r.req_is;
        driven = λ some lat there. let w = (λ i. (sym eh i).answers == 0 && 0 == 0) ∙ some in absurd cc;
        receives = λ d. receives_if false (receiver q) n.target d r.receiver_is;
        received = λ a b. let w = sym (ap (λ (o : Option ℕ). is_some o) r.receiver_is) ∙ b in absurd cc;
      }) (record {
        target = λ lat there. some_no_sooner t _ (let w = r.req_is in omega arith);
        initiator = λ lat there. subst
            (λ o. NoSooner t (initiator_next false false atn 0 o (line_times q).ack (line_times q).atn
            (times_here q) (lag_by (host_of s n.initiator)) (own_of q n.initiator).ack (given_here s q) lat))
            (sym eh) (go (0 == given_here s q)
            (max (answers_at (asked t no_handshakes) (line_times q).ack (lag_by (host_of s n.initiator)) (times_here q))
            (drives_at (asked t no_handshakes) (times_here q) (own_of q n.initiator).ack lat + (times_here q).set_up)
            + lat) (t + lat) (omega arith) (omega arith));
      });
    }
  where
    go : (b : Bool) (u v : ℕ) → t ≤ u → t ≤ v → NoSooner t (if b then Some u else Some v)
    go true u v f g = some_no_sooner t u f
    go false u v f g = some_no_sooner t v g

-- The rows up to the first REQ of a phase, and those with which REQ rises.
use Rattle.link_laws.proofs
use proofs.Names.{ℕ, ◌≡◌, ◌≤◌, ◌+◌, Bool, true, false, not, ◌&&◌, ◌||◌, ◌==◌, ◌∙◌, List, ◌∷◌, Some, None, refl, sym, ap}
use proofs.Names.{arith, eqb-true, nat_tests, if◌then◌else◌, nat_lt, counted_on, times_of, times_or_slow, fast_times}
use proofs.Names.{slow_times, implies, data_of, last_time, since, line_times, phase_time, Row, Change, Connection}
use proofs.Names.{BUS_SETTLE_DELAY, DATA_RELEASE_DELAY, TURN_DELAY, Handshakes, handshakes, dialogue, duty, turned}
use proofs.Names.{Duty, is_owed, ScenarioValue, is_pulsed_phase, own_time_own, EndLines, initiator_side, target_side}
use proofs.Names.{connected_bus, Linked, change_to, CalmStanding, KeepsBooksIn, when_turning, when_offering}
use proofs.{Names.{when_shaking, ends, is_owed_out, InPhase, Turning}, Lines.Obeys.{MayAsk, req_rises_in}}
use proofs.Lines.{Obeys.{req_rises_out, first_byte_obeys, byte_release_obeys}, Rows.{initiator_moves, target_moves}}
use proofs.Lines.{Rows.{initiator_in_phase, target_in_phase}, Seen.{around, obeys_linked}}
use proofs.Phases.{Crossings.{target_row, initiator_row}, First.{no_fall}, Stays.{NextLinked, phase_goes}}
use proofs.Phases.Stays.{unpulsed_goes, turn_test, receives_if, data_by}

-- ---- a byte of a data phase that was left

-- A hold time is at most 100 ns.
pub hold_short : (period : ℕ) → (times_of period).hold ≤ 100
hold_short period = go (nat_lt period 25) (nat_lt period 50)
  where
    go : (a b : Bool) → (times_or_slow period
        (if a then None else if b then Some (fast_times period) else Some (slow_times period))).hold ≤ 100
    go true b = omega arith
    go false true = omega arith
    go false false = omega arith

pub releases_byte : (s : ScenarioValue) (p : List Row) (n : Connection) (atn : Bool) (x : ℕ) (msg cd : Bool) (t : ℕ)
    → last_time p ≤ t → t ≤ (line_times p).io + DATA_RELEASE_DELAY → (x == 0) ≡ false → (not msg && not cd) ≡ false
    → Turning s p n atn x msg cd → KeepsBooksIn p (initiator_row t n (ends false false atn 0 msg cd true false 0))
    → NextLinked s p (initiator_row t n (ends false false atn 0 msg cd true false 0)) n
releases_byte s p n atn x msg cd t order soon some other h books =
    let e : EndLines = ends false false atn x msg cd true false 0 in
    let f : EndLines = ends false false atn 0 msg cd true false 0 in
    let row : Row = initiator_row t n f in
    let q : List Row = row ∷ p in
    let c : Change = change_to (connected_bus e) (connected_bus f) (initiator_side e) (initiator_side f) in
    let m = initiator_moves p n e false false atn 0 t h.linked in
    let r = initiator_in_phase p n e false false atn 0 t h.linked in
    record {
      order = order;
      obeys = obeys_linked p row n e c h.linked m.change refl books
          (byte_release_obeys (around p n.initiator n c) n atn msg cd x t h.linked.apart order some soon other);
      stage = when_turning atn 0 msg cd (record {
        linked = m.linked;
        phase = phase_goes p q n e false false atn 0 false 0 t r h.phase h.phase.asks;
        quiet = r.handshakes_are ∙ h.quiet;
        pulses_are = r.pulses_are ∙ h.pulses_are;
        receiver_is = r.receiver_is;
        turned = (λ i. r.io_is i == r.phase_is i) ∙ h.turned;
        duty_is = ap (λ (d : Duty). is_owed_out d true)
            (r.duty_is.1 ∙ ap (λ (b : Bool). if b || false then Duty.Nothing else duty p) (no_fall atn))
            ∙ h.duty_is;
        fresh =
            let w = r.phase_is in
            let u = eqb-true (line_times p).io (phase_time (line_times p)) h.turned in
            omega arith;
        owed = λ b. absurd cc;
      });
    }

-- ---- the first byte after the turn

pub offers_byte : (s : ScenarioValue) (p : List Row) (n : Connection) (atn msg cd : Bool) (y t : ℕ)
    → CalmStanding s p → last_time p ≤ t → phase_time (line_times p) + TURN_DELAY ≤ t → (y == 0) ≡ false
    → Turning s p n atn 0 msg cd → KeepsBooksIn p (target_row t n (ends false false atn 0 msg cd true false y))
    → NextLinked s p (target_row t n (ends false false atn 0 msg cd true false y)) n
offers_byte s p n atn msg cd y t always order waited some h books =
    let e : EndLines = ends false false atn 0 msg cd true false 0 in
    let f : EndLines = ends false false atn 0 msg cd true false y in
    let row : Row = target_row t n f in
    let q : List Row = row ∷ p in
    let c : Change = change_to (connected_bus e) (connected_bus f) (target_side e) (target_side f) in
    let m = target_moves p n e msg cd true false y t h.linked in
    let r = target_in_phase p n e false y t h.linked in
    let at_phase = eqb-true (line_times p).io (phase_time (line_times p)) h.turned in
    record {
      order = order;
      obeys = obeys_linked p row n e c h.linked m.change refl books (first_byte_obeys
          (around p n.target n c) n atn msg cd y t h.linked.apart h.pulses_are order (omega arith) some);
      stage = when_offering atn msg cd y (record {
        linked = m.linked;
        phase = phase_goes p q n e false false atn 0 false y t r h.phase h.phase.asks;
        quiet = r.handshakes_are ∙ h.quiet;
        pulses_are = r.pulses_are ∙ h.pulses_are;
        receiver_is = r.receiver_is;
        turned = (λ i. r.io_is i == r.phase_is i) ∙ h.turned;
        some = some;
        duty_is = ap (λ (d : Duty). is_owed_out d true)
            (r.duty_is.1 ∙ ap (λ (b : Bool). if b || false then Duty.Nothing else duty p) (no_fall atn))
            ∙ h.duty_is;
        waited = let w = r.io_is in omega arith;
        driven =
            let u = data_by s p row always order in
            let w = own_time_own p t n.target (target_side f) in
            omega arith;
        fresh = let w = own_time_own p t n.target (target_side f) in omega arith;
      });
    }

-- ---- REQ rises

pub counted_some : (r : ℕ) → (counted_on r == 0) ≡ false
counted_some r = grind (arith, nat_tests)

-- What holds as it may.
pub record Asking (s : ScenarioValue) (p : List Row) (n : Connection) (atn msg cd io : Bool) (y t : ℕ) : Type 0 where
  pub always : CalmStanding s p
  pub order : last_time p ≤ t
  pub linked : Linked p n (ends false false atn 0 msg cd io false y)
  pub phase : InPhase p n (ends false false atn 0 msg cd io false y)
  pub settled : phase_time (line_times p) + BUS_SETTLE_DELAY ≤ t
  pub duty_is : implies (is_owed (duty p)) (msg && cd && not io) ≡ true
  pub turn : turned p ≡ true → io ≡ true → (line_times p).io + TURN_DELAY ≤ t
  pub set_up : io ≡ true → since data_of p + 55 ≤ t

pub may_ask_by : (s : ScenarioValue) (p : List Row) (n : Connection) (atn msg cd io : Bool) (y t dev : ℕ) (c : Change)
    → Asking s p n atn msg cd io y t → MayAsk (around p dev n c) n msg cd io t
may_ask_by s p n atn msg cd io y t dev c h = record {
  apart = h.linked.apart;
  order = h.order;
  settled = h.settled;
  began = let u = h.phase.began in let w = h.settled in omega arith;
  known = h.phase.known;
  duty = h.duty_is;
}

pub asks_in :
    (s : ScenarioValue) (p : List Row) (n : Connection) (atn msg cd : Bool) (y t : ℕ) → Asking s p n atn msg cd true y t
    → is_pulsed_phase true (connected_bus (ends false false atn 0 msg cd true false y)) (dialogue p).heard.now.agreement
    ≡ false → KeepsBooksIn p (target_row t n (ends false false atn 0 msg cd true true y))
    → NextLinked s p (target_row t n (ends false false atn 0 msg cd true true y)) n
asks_in s p n atn msg cd y t h slow books =
    let e : EndLines = ends false false atn 0 msg cd true false y in
    let f : EndLines = ends false false atn 0 msg cd true true y in
    let row : Row = target_row t n f in
    let q : List Row = row ∷ p in
    let c : Change = change_to (connected_bus e) (connected_bus f) (target_side e) (target_side f) in
    let m = target_moves p n e msg cd true true y t h.linked in
    let r = target_in_phase p n e true y t h.linked in
    record {
      order = h.order;
      obeys = obeys_linked p row n e c h.linked m.change refl books
          (req_rises_in (around p n.target n c) n atn msg cd y t (may_ask_by s p n atn msg cd true y t n.target c h)
          (turn_test (turned p) ((line_times p).io + TURN_DELAY) t (λ w. h.turn w refl)) (h.set_up refl) slow);
      stage = when_shaking msg cd true true false atn 0 y (record {
        linked = m.linked;
        phase = phase_goes p q n e false false atn 0 true y t r h.phase h.phase.asks;
        asked = ap (λ (b : Handshakes). b.requests == 0) r.handshakes_are ∙ counted_some (handshakes p).requests;
        unpulsed = unpulsed_goes p q n e false false atn 0 true y t r slow;
        settled = let u = h.settled in let w = r.phase_is in omega arith;
        side = refl;
        turned = λ a b. let u = h.turn (sym r.turned_is ∙ a) b in let w = r.io_is in omega arith;
        driven =
            let u = data_by s p row h.always h.order in
            let w = own_time_own p t n.target (target_side f) in
            omega arith;
        fresh = let w = r.req_is in omega arith;
        receives = λ d. receives_if true _ n.initiator d r.receiver_is;
      });
    }

pub asks_out : (s : ScenarioValue) (p : List Row) (n : Connection) (atn msg cd : Bool) (t : ℕ)
    → Asking s p n atn msg cd false 0 t → is_pulsed_phase true
    (connected_bus (ends false false atn 0 msg cd false false 0)) (dialogue p).heard.now.agreement ≡ false
    → KeepsBooksIn p (target_row t n (ends false false atn 0 msg cd false true 0))
    → NextLinked s p (target_row t n (ends false false atn 0 msg cd false true 0)) n
asks_out s p n atn msg cd t h slow books =
    let e : EndLines = ends false false atn 0 msg cd false false 0 in
    let f : EndLines = ends false false atn 0 msg cd false true 0 in
    let row : Row = target_row t n f in
    let q : List Row = row ∷ p in
    let c : Change = change_to (connected_bus e) (connected_bus f) (target_side e) (target_side f) in
    let m = target_moves p n e msg cd false true 0 t h.linked in
    let r = target_in_phase p n e true 0 t h.linked in
    record {
      order = h.order;
      obeys = obeys_linked p row n e c h.linked m.change refl books (req_rises_out
          (around p n.target n c) n atn msg cd t (may_ask_by s p n atn msg cd false 0 t n.target c h) slow);
      stage = when_shaking msg cd false true false atn 0 0 (record {
        linked = m.linked;
        phase = phase_goes p q n e false false atn 0 true 0 t r h.phase h.phase.asks;
        asked = ap (λ (b : Handshakes). b.requests == 0) r.handshakes_are ∙ counted_some (handshakes p).requests;
        unpulsed = unpulsed_goes p q n e false false atn 0 true 0 t r slow;
        settled = let u = h.settled in let w = r.phase_is in omega arith;
        side = refl;
        turned = λ a b. absurd cc;
        driven = λ z. absurd cc;
        fresh = let w = r.req_is in omega arith;
        receives = λ d. receives_if false _ n.target d r.receiver_is;
      });
    }

-- Byte by byte: the rows with which REQ and ACK rise and fall (6.1.5.1).
use Rattle.link_laws.proofs
use proofs.Names.{ℕ, ◌≡◌, ◌≤◌, ◌+◌, Bool, true, false, ◌&&◌, ◌==◌, ◌∙◌, List, ◌∷◌, refl, sym, ap, subst, arith}
use proofs.Names.{if◌then◌else◌, nat_le, eq_self, implies, LineSet, data_of, last_time, since, line_times, Row}
use proofs.Names.{Connection, TURN_DELAY, Handshakes, turned, ScenarioValue, own_time_own, own_time_other, EndLines}
use proofs.Names.{initiator_side, target_side, connected_bus, own_time, row_of_lines, change_to, CalmStanding}
use proofs.{Names.{KeepsBooksIn, when_shaking, ends, Shaking}, Lines.Obeys.{req_falls_in, req_falls_out, ack_falls_in}}
use proofs.Lines.{Obeys.{ack_falls_out, ack_rises_in, byte_obeys, ack_rises_out}, Rows.{initiator_moves, target_moves}}
use proofs.{Lines.{Rows.{initiator_in_phase, target_in_phase}, Seen.{around, obeys_linked}}, Phases.Stays.{NextLinked}}
use proofs.Phases.Stays.{phase_goes, unpulsed_goes, turn_goes, turn_test, receives_if, data_by}

abbrev pub target_row : ℕ → Connection → EndLines → Row
target_row t n f = row_of_lines t n.target (target_side f)

abbrev pub initiator_row : ℕ → Connection → EndLines → Row
initiator_row t n f = row_of_lines t n.initiator (initiator_side f)

-- ---- REQ falls on ACK

pub takes_req_in : (s : ScenarioValue) (p : List Row) (n : Connection) (atn msg cd : Bool) (y z t : ℕ)
    → CalmStanding s p → last_time p ≤ t → Shaking p n msg cd true true true atn 0 y
    → KeepsBooksIn p (target_row t n (ends false true atn 0 msg cd true false z))
    → NextLinked s p (target_row t n (ends false true atn 0 msg cd true false z)) n
takes_req_in s p n atn msg cd y z t always order h books =
    let e : EndLines = ends false true atn 0 msg cd true true y in
    let f : EndLines = ends false true atn 0 msg cd true false z in
    let row : Row = target_row t n f in
    let q : List Row = row ∷ p in
    let m = target_moves p n e msg cd true false z t h.linked in
    let r = target_in_phase p n e false z t h.linked in
    let turn = turn_test (turned p) ((line_times p).io + TURN_DELAY) t (λ w. let u = h.turned w refl in omega arith) in
    record {
      order = order;
      obeys = obeys_linked p row n e (change_to (connected_bus e) (connected_bus f) (target_side e) (target_side f))
          h.linked m.change refl books (req_falls_in
          (around p n.target n (change_to (connected_bus e) (connected_bus f) (target_side e) (target_side f))) n atn
          msg cd y z t h.linked.apart order turn h.unpulsed);
      stage = when_shaking msg cd true false true atn 0 z (record {
        linked = m.linked;
        phase = phase_goes p q n e false true atn 0 false z t r h.phase h.phase.asks;
        asked = ap (λ (b : Handshakes). b.requests == 0) r.handshakes_are ∙ h.asked;
        unpulsed = unpulsed_goes p q n e false true atn 0 false z t r h.unpulsed;
        settled = let u = h.settled in let w = r.phase_is in omega arith;
        side = refl;
        turned = turn_goes p q n e f true t r order refl h.turned;
        driven =
            let u = data_by s p row always order in
            let w = own_time_own p t n.target (target_side f) in
            omega arith;
        fresh = let w = r.req_is in omega arith;
        receives = λ d. receives_if false _ n.initiator d r.receiver_is;
      });
    }

pub takes_req_out : (s : ScenarioValue) (p : List Row) (n : Connection) (atn msg cd : Bool) (x t : ℕ)
    → CalmStanding s p → last_time p ≤ t → Shaking p n msg cd false true true atn x 0
    → KeepsBooksIn p (target_row t n (ends false true atn x msg cd false false 0))
    → NextLinked s p (target_row t n (ends false true atn x msg cd false false 0)) n
takes_req_out s p n atn msg cd x t always order h books =
    let e : EndLines = ends false true atn x msg cd false true 0 in
    let f : EndLines = ends false true atn x msg cd false false 0 in
    let row : Row = target_row t n f in
    let q : List Row = row ∷ p in
    let m = target_moves p n e msg cd false false 0 t h.linked in
    let r = target_in_phase p n e false 0 t h.linked in
    record {
      order = order;
      obeys = obeys_linked p row n e (change_to (connected_bus e) (connected_bus f) (target_side e) (target_side f))
          h.linked m.change refl books (req_falls_out
          (around p n.target n (change_to (connected_bus e) (connected_bus f) (target_side e) (target_side f))) n atn
          msg cd x t h.linked.apart order h.unpulsed);
      stage = when_shaking msg cd false false true atn x 0 (record {
        linked = m.linked;
        phase = phase_goes p q n e false true atn x false 0 t r h.phase h.phase.asks;
        asked = ap (λ (b : Handshakes). b.requests == 0) r.handshakes_are ∙ h.asked;
        unpulsed = unpulsed_goes p q n e false true atn x false 0 t r h.unpulsed;
        settled = let u = h.settled in let w = r.phase_is in omega arith;
        side = refl;
        turned = turn_goes p q n e f false t r order refl h.turned;
        driven = tt;
        fresh = let w = r.req_is in omega arith;
        receives = λ d. receives_if false _ n.target d r.receiver_is;
      });
    }

-- ---- ACK falls

data_stands : (p : List Row) (t d : ℕ) (l : LineSet) (y : ℕ)
    → since data_of (row_of_lines t d l ∷ p) ≡ (if y == y then since data_of p else t)
    → since data_of (row_of_lines t d l ∷ p) ≡ since data_of p
data_stands p t d l y e = e ∙ ap (λ (q : Bool). if q then since data_of p else t) (eq_self y)

pub ends_ack_in : (s : ScenarioValue) (p : List Row) (n : Connection) (atn msg cd : Bool) (y t : ℕ)
    → last_time p ≤ t → Shaking p n msg cd true false true atn 0 y
    → KeepsBooksIn p (initiator_row t n (ends false false atn 0 msg cd true false y))
    → NextLinked s p (initiator_row t n (ends false false atn 0 msg cd true false y)) n
ends_ack_in s p n atn msg cd y t order h books =
    let e : EndLines = ends false true atn 0 msg cd true false y in
    let f : EndLines = ends false false atn 0 msg cd true false y in
    let row : Row = initiator_row t n f in
    let q : List Row = row ∷ p in
    let m = initiator_moves p n e false false atn 0 t h.linked in
    let r = initiator_in_phase p n e false false atn 0 t h.linked in
    record {
      order = order;
      obeys = obeys_linked p row n e (change_to (connected_bus e) (connected_bus f)
          (initiator_side e) (initiator_side f)) h.linked m.change refl books (ack_falls_in
          (around p n.initiator n (change_to (connected_bus e) (connected_bus f) (initiator_side e) (initiator_side f)))
          n atn msg cd y t h.linked.apart order h.unpulsed);
      stage = when_shaking msg cd true false false atn 0 y (record {
        linked = m.linked;
        phase = phase_goes p q n e false false atn 0 false y t r h.phase h.phase.asks;
        asked = ap (λ (b : Handshakes). b.requests == 0) r.handshakes_are ∙ h.asked;
        unpulsed = unpulsed_goes p q n e false false atn 0 false y t r h.unpulsed;
        settled = let u = h.settled in let w = r.phase_is in omega arith;
        side = refl;
        turned = turn_goes p q n e f true t r order refl h.turned;
        driven =
            let u = h.driven in
            let w = own_time_other p t n.initiator (initiator_side f) n.target (λ z. h.linked.apart (sym z)) in
            let v = data_stands p t n.initiator (initiator_side f) y r.data_is in
            omega arith;
        fresh = let w = r.ack_is in omega arith;
        receives = λ d. receives_if false _ n.initiator d r.receiver_is;
      });
    }

pub ends_ack_out : (s : ScenarioValue) (p : List Row) (n : Connection) (atn msg cd : Bool) (x t : ℕ)
    → last_time p ≤ t → Shaking p n msg cd false false true atn x 0
    → KeepsBooksIn p (initiator_row t n (ends false false atn 0 msg cd false false 0))
    → NextLinked s p (initiator_row t n (ends false false atn 0 msg cd false false 0)) n
ends_ack_out s p n atn msg cd x t order h books =
    let e : EndLines = ends false true atn x msg cd false false 0 in
    let f : EndLines = ends false false atn 0 msg cd false false 0 in
    let row : Row = initiator_row t n f in
    let q : List Row = row ∷ p in
    let m = initiator_moves p n e false false atn 0 t h.linked in
    let r = initiator_in_phase p n e false false atn 0 t h.linked in
    record {
      order = order;
      obeys = obeys_linked p row n e (change_to (connected_bus e) (connected_bus f)
          (initiator_side e) (initiator_side f)) h.linked m.change refl books (ack_falls_out
          (around p n.initiator n (change_to (connected_bus e) (connected_bus f) (initiator_side e) (initiator_side f)))
          n atn msg cd x t h.linked.apart order h.unpulsed);
      stage = when_shaking msg cd false false false atn 0 0 (record {
        linked = m.linked;
        phase = phase_goes p q n e false false atn 0 false 0 t r h.phase h.phase.asks;
        asked = ap (λ (b : Handshakes). b.requests == 0) r.handshakes_are ∙ h.asked;
        unpulsed = unpulsed_goes p q n e false false atn 0 false 0 t r h.unpulsed;
        settled = let u = h.settled in let w = r.phase_is in omega arith;
        side = refl;
        turned = turn_goes p q n e f false t r order refl h.turned;
        driven = refl;
        fresh = let w = r.ack_is in omega arith;
        receives = λ d. receives_if false _ n.target d r.receiver_is;
      });
    }

-- ---- ACK rises; in phases to the target the byte comes first

pub or_asks : (q : Bool) → implies q true ≡ true
or_asks true = refl
or_asks false = refl

pub answers_in : (s : ScenarioValue) (p : List Row) (n : Connection) (atn msg cd atn' : Bool) (y t : ℕ)
    → last_time p ≤ t → Shaking p n msg cd true true false atn 0 y
    → KeepsBooksIn p (initiator_row t n (ends false true atn' 0 msg cd true true y))
    → NextLinked s p (initiator_row t n (ends false true atn' 0 msg cd true true y)) n
answers_in s p n atn msg cd atn' y t order h books =
    let e : EndLines = ends false false atn 0 msg cd true true y in
    let f : EndLines = ends false true atn' 0 msg cd true true y in
    let row : Row = initiator_row t n f in
    let q : List Row = row ∷ p in
    let m = initiator_moves p n e false true atn' 0 t h.linked in
    let r = initiator_in_phase p n e false true atn' 0 t h.linked in
    record {
      order = order;
      obeys = obeys_linked p row n e (change_to (connected_bus e) (connected_bus f)
          (initiator_side e) (initiator_side f)) h.linked m.change refl books (ack_rises_in
          (around p n.initiator n (change_to (connected_bus e) (connected_bus f) (initiator_side e) (initiator_side f)))
          n atn msg cd atn' y t h.linked.apart order h.unpulsed);
      stage = when_shaking msg cd true true true atn' 0 y (record {
        linked = m.linked;
        phase = phase_goes p q n e false true atn' 0 true y t r h.phase (or_asks atn');
        asked = ap (λ (b : Handshakes). b.requests == 0) r.handshakes_are ∙ h.asked;
        unpulsed = unpulsed_goes p q n e false true atn' 0 true y t r h.unpulsed;
        settled = let u = h.settled in let w = r.phase_is in omega arith;
        side = refl;
        turned = turn_goes p q n e f true t r order refl h.turned;
        driven =
            let u = h.driven in
            let w = own_time_other p t n.initiator (initiator_side f) n.target (λ z. h.linked.apart (sym z)) in
            let v = data_stands p t n.initiator (initiator_side f) y r.data_is in
            omega arith;
        fresh = let w = r.ack_is in omega arith;
        receives = λ d. receives_if false _ n.initiator d r.receiver_is;
      });
    }

pub gives_byte : (s : ScenarioValue) (p : List Row) (n : Connection) (atn msg cd atn' : Bool) (x t : ℕ)
    → CalmStanding s p → last_time p ≤ t → (x == 0) ≡ false
    → implies atn' msg ≡ true → Shaking p n msg cd false true false atn 0 0
    → KeepsBooksIn p (initiator_row t n (ends false false atn' x msg cd false true 0))
    → NextLinked s p (initiator_row t n (ends false false atn' x msg cd false true 0)) n
gives_byte s p n atn msg cd atn' x t always order some asks h books =
    let e : EndLines = ends false false atn 0 msg cd false true 0 in
    let f : EndLines = ends false false atn' x msg cd false true 0 in
    let row : Row = initiator_row t n f in
    let q : List Row = row ∷ p in
    let m = initiator_moves p n e false false atn' x t h.linked in
    let r = initiator_in_phase p n e false false atn' x t h.linked in
    record {
      order = order;
      obeys = obeys_linked p row n e (change_to (connected_bus e) (connected_bus f)
          (initiator_side e) (initiator_side f)) h.linked m.change refl books (byte_obeys
          (around p n.initiator n (change_to (connected_bus e) (connected_bus f) (initiator_side e) (initiator_side f)))
          n atn msg cd atn' x t h.linked.apart order some h.unpulsed);
      stage = when_shaking msg cd false true false atn' x 0 (record {
        linked = m.linked;
        phase = phase_goes p q n e false false atn' x true 0 t r h.phase asks;
        asked = ap (λ (b : Handshakes). b.requests == 0) r.handshakes_are ∙ h.asked;
        unpulsed = unpulsed_goes p q n e false false atn' x true 0 t r h.unpulsed;
        settled = let u = h.settled in let w = r.phase_is in omega arith;
        side = refl;
        turned = turn_goes p q n e f false t r order refl h.turned;
        driven = λ z.
            let u = data_by s p row always order in
            let w = own_time_own p t n.initiator (initiator_side f) in
            omega arith;
        fresh = subst (λ b. t ≤ (if b then (line_times q).req else own_time q n.initiator)) (sym some)
            (let w = own_time_own p t n.initiator (initiator_side f) in omega arith);
        receives = λ d. receives_if false _ n.target d r.receiver_is;
      });
    }

pub answers_out : (s : ScenarioValue) (p : List Row) (n : Connection) (atn msg cd : Bool) (x t : ℕ)
    → last_time p ≤ t → since data_of p + 55 ≤ t → implies (msg && cd) (nat_le ((line_times p).atn + 90) t) ≡ true
    → Shaking p n msg cd false true false atn x 0
    → KeepsBooksIn p (initiator_row t n (ends false true atn x msg cd false true 0))
    → NextLinked s p (initiator_row t n (ends false true atn x msg cd false true 0)) n
answers_out s p n atn msg cd x t order set_up negated h books =
    let e : EndLines = ends false false atn x msg cd false true 0 in
    let f : EndLines = ends false true atn x msg cd false true 0 in
    let row : Row = initiator_row t n f in
    let q : List Row = row ∷ p in
    let m = initiator_moves p n e false true atn x t h.linked in
    let r = initiator_in_phase p n e false true atn x t h.linked in
    record {
      order = order;
      obeys = obeys_linked p row n e (change_to (connected_bus e) (connected_bus f)
          (initiator_side e) (initiator_side f)) h.linked m.change refl books (ack_rises_out
          (around p n.initiator n (change_to (connected_bus e) (connected_bus f) (initiator_side e) (initiator_side f)))
          n atn msg cd x t h.linked.apart order set_up negated h.unpulsed);
      stage = when_shaking msg cd false true true atn x 0 (record {
        linked = m.linked;
        phase = phase_goes p q n e false true atn x true 0 t r h.phase h.phase.asks;
        asked = ap (λ (b : Handshakes). b.requests == 0) r.handshakes_are ∙ h.asked;
        unpulsed = unpulsed_goes p q n e false true atn x true 0 t r h.unpulsed;
        settled = let u = h.settled in let w = r.phase_is in omega arith;
        side = refl;
        turned = turn_goes p q n e f false t r order refl h.turned;
        driven = tt;
        fresh = let w = r.ack_is in omega arith;
        receives = λ d. receives_if true _ n.target d r.receiver_is;
      });
    }

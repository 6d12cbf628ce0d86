-- The rows of a data phase by pulses (6.1.5.2).
use Rattle.link_laws.proofs
use proofs.Names.{ℕ, ◌≡◌, ◌≢◌, ◌≤◌, ◌<◌, ◌+◌, ◌^◌, Bool, true, false, not, ◌&&◌, ◌||◌, ◌==◌, ◌∙◌, List, ◌∷◌, length}
use proofs.Names.{Option, Some, None, refl, sym, ap, subst, arith, nat_tests, if◌then◌else◌, max, nat_lt, is_some}
use proofs.Names.{eq_self, times_of, change_of, rises, implies, LineSet, data_of, receiver, when, drives, last_time}
use proofs.Names.{since, line_times, Row, Agreement, TransferTimes, Change, Connection, TURN_DELAY, Handshakes}
use proofs.Names.{handshakes, answered, answered_if, or_now, or_zero, room_by, dialogue, pulses, count_after, turned}
use proofs.Names.{is_of_device, broken_rule, ScenarioValue, latency_of, bits_if, lag_by, host_of, IsLeast, Own, own_of}
use proofs.Names.{own_after, own_other, EndLines, target_side, connected_bus, Linked, unreset_due, row_of_lines}
use proofs.Names.{change_to, CalmStanding, KeepsBooksIn, ends, OneSide, times_here, offset_here, pulses_of, Reached}
use proofs.Names.{HasDrivenPulsed, PulseFacts, Pulsing, run_count, byte_in_run, next_bits, given_here, target_time}
use proofs.Names.{target_next, initiator_next, target_next_at, initiator_next_at, NoSooner, EndsAhead}
use proofs.Lines.{Data.{DataRow, count_stays, bytes_stay}, Rows.{InPhaseRow, target_moves, target_in_phase, phase_same}}
use proofs.{Lines.{Rows.{same_line, no_rise, Moves}, Seen.{around, obeys_linked}}, Phases.Crossings.{target_row}}
use proofs.Phases.{First.{below_differs}, Stays.{phase_goes, turn_goes, turn_test, receives_if}}
use proofs.Pulses.Ahead.{ByPulses, target_due_in, target_due_out, initiator_due_in, initiator_due_out, row_by_target}
use proofs.Pulses.{Ahead.{row_by_initiator}, Obeys.{req_end_in}, Steps.{req_falls_facts, assertion_short}}
use proofs.Pulses.Steps.{none_no_sooner, some_no_sooner}

-- What a row does with which the pulses go on.
pub record NextPulsing (s : ScenarioValue) (p : List Row) (row : Row) (n : Connection) (io req ack atn : Bool)
    (x y : ℕ) : Type 0 where
  pub order : last_time p ≤ row.time
  pub obeys : broken_rule p row ≡ None
  pub pulsing : Pulsing s (row ∷ p) n io req ack atn x y
  pub ahead : EndsAhead s (row ∷ p) n io req ack atn x y

-- What holds as the row comes. The run has fewer bytes than would be counted no further.
pub record PulseHere (s : ScenarioValue) (p : List Row) (row : Row) (n : Connection) (io req ack atn : Bool) (x y : ℕ) :
    Type 0 where
  pub always : CalmStanding s p
  pub order : last_time p ≤ row.time
  pub pulsing : Pulsing s p n io req ack atn x y
  pub ahead : EndsAhead s p n io req ack atn x y
  pub short : run_count s p n < 2 ^ 64
  pub least : IsLeast (unreset_due s p) 8 row
  pub books : KeepsBooksIn p row

pub by_pulses : (s : ScenarioValue) (p : List Row) (n : Connection) (io req ack atn : Bool) (x y : ℕ)
    → Pulsing s p n io req ack atn x y → ByPulses p
by_pulses s p n io req ack atn x y h = record { offset = h.offset; asked = h.facts.asked }

-- What is due of either end comes no sooner than the row.
pub later_target_in : (s : ScenarioValue) (p : List Row) (row : Row) (n : Connection) (req ack atn : Bool) (y : ℕ)
    → PulseHere s p row n true req ack atn 0 y → (lat : ℕ) → latency_of s n.target ≡ Some lat
    → NoSooner row.time (target_next_at s p n true req ack y lat)
later_target_in s p row n req ack atn y h lat there u e =
    row_by_target s p row n _ lat u h.always.devices h.pulsing.linked h.pulsing.phase.begun_is there (target_due_in s p
    n req ack atn y lat u (by_pulses s p n true req ack atn 0 y h.pulsing) e) (h.ahead.target lat there u e) h.least

pub later_initiator_in : (s : ScenarioValue) (p : List Row) (row : Row) (n : Connection) (req ack atn : Bool) (y : ℕ)
    → PulseHere s p row n true req ack atn 0 y → (lat : ℕ) → latency_of s n.initiator ≡ Some lat
    → NoSooner row.time (initiator_next_at s p n true ack atn 0 lat)
later_initiator_in s p row n req ack atn y h lat there u e = row_by_initiator s p
    row n _ lat u h.always.devices h.pulsing.linked h.pulsing.phase.begun_is there
    (initiator_due_in s p n req ack atn y lat u (by_pulses s p n true req ack atn 0 y h.pulsing) e)
    (h.ahead.initiator lat there u e) h.least

pub later_target_out : (s : ScenarioValue) (p : List Row) (row : Row) (n : Connection) (req ack atn : Bool) (x : ℕ)
    → PulseHere s p row n false req ack atn x 0 → (lat : ℕ) → latency_of s n.target ≡ Some lat
    → NoSooner row.time (target_next_at s p n false req ack 0 lat)
later_target_out s p row n req ack atn x h lat there u e =
    row_by_target s p row n _ lat u h.always.devices h.pulsing.linked h.pulsing.phase.begun_is there (target_due_out s p
    n req ack atn x lat u (by_pulses s p n false req ack atn x 0 h.pulsing) e) (h.ahead.target lat there u e) h.least

pub later_initiator_out : (s : ScenarioValue) (p : List Row) (row : Row) (n : Connection) (req ack atn : Bool) (x : ℕ)
    → PulseHere s p row n false req ack atn x 0 → (lat : ℕ) → latency_of s n.initiator ≡ Some lat
    → NoSooner row.time (initiator_next_at s p n false ack atn x lat)
later_initiator_out s p row n req ack atn x h lat there u e = row_by_initiator s p
    row n _ lat u h.always.devices h.pulsing.linked h.pulsing.phase.begun_is there
    (initiator_due_out s p n req ack atn x lat u h.pulsing.linked (by_pulses s p n false req ack atn x 0 h.pulsing) e)
    (h.ahead.initiator lat there u e) h.least

-- ---- what a row leaves

-- The row of an end in a data phase.
pub data_row : (p : List Row) (row : Row) (n : Connection) (io req ack atn : Bool)
    (x y : ℕ) (req' ack' atn' : Bool) (x' y' : ℕ) (o l : LineSet) (s : ScenarioValue)
    → CalmStanding s p → row.dev < 8 → Linked p n (ends false ack atn x false false io req y)
    → Moves p row n (ends false ack atn x false false io req y) (ends false ack' atn' x' false false io req' y') o l
    → DataRow p row n (change_to (connected_bus (ends false ack atn x false false io req y))
    (connected_bus (ends false ack' atn' x' false false io req' y')) o l)
data_row p row n io req ack atn x y req' ack' atn' x' y' o l s always lt h m = record {
  devices = always.devices;
  below = lt;
  before = h.stands.connection_is;
  after = m.linked.stands.connection_is;
  change = m.change;
  calm = refl;
  phase = phase_same (ends false ack atn x false false io req y) false ack' atn' x' req' y' o l;
  in_data = refl;
}

pub target_next_is : (s : ScenarioValue) (p : List Row) (row : Row) (n : Connection)
    (c : Change) (io req ack : Bool) (y lat : ℕ) (h : Handshakes) (tr ta : ℕ)
    → DataRow p row n c → handshakes (row ∷ p) ≡ h → (line_times (row ∷ p)).req ≡ tr
    → (line_times (row ∷ p)).ack ≡ ta → (dialogue (row ∷ p)).heard.now.agreement ≡ (dialogue p).heard.now.agreement
    → target_next_at s (row ∷ p) n io req ack y lat ≡ target_next io req ack y h tr ta (times_here p) (offset_here p)
    (run_count s p n) (bits_if (nat_lt h.requests (run_count s p n)) (byte_in_run s p n h.requests)) lat
target_next_is s p row n c io req ack y lat h tr ta dr eh er ea eg =
    let ec = count_stays s p row n c dr in
    let bits : next_bits s (row ∷ p) n ≡ bits_if (nat_lt h.requests (run_count s p n)) (byte_in_run s p n h.requests) =
    (λ i. bits_if (nat_lt (eh i).requests (ec i)) (byte_in_run s (row ∷ p) n (eh i).requests))
    ∙ ap (λ (b : ℕ). bits_if (nat_lt h.requests (run_count s p n)) b) (bytes_stay s p row n c h.requests dr) in
    λ i. target_next io req ack y (eh i) (er i) (ea i) (times_of (eg i).period) (eg i).offset (ec i) (bits i) lat

pub initiator_next_is : (s : ScenarioValue) (p : List Row) (row : Row) (n : Connection)
    (io ack atn : Bool) (x lat : ℕ) (h : Handshakes) (ta tn raised given : ℕ) → handshakes (row ∷ p) ≡ h
    → (line_times (row ∷ p)).ack ≡ ta → (line_times (row ∷ p)).atn ≡ tn → (own_of (row ∷ p) n.initiator).ack ≡ raised
    → given_here s (row ∷ p) ≡ given → (dialogue (row ∷ p)).heard.now.agreement ≡ (dialogue p).heard.now.agreement
    → initiator_next_at s (row ∷ p) n io ack atn x lat
    ≡ initiator_next io ack atn x h ta tn (times_here p) (lag_by (host_of s n.initiator)) raised given lat
initiator_next_is s p row n io ack atn x lat h ta tn raised given eh ea en eo ev eg = λ i. initiator_next io ack atn x
    (eh i) (ea i) (en i) (times_of (eg i).period) (lag_by (host_of s n.initiator)) (eo i) (ev i) lat

pub own_ack_other : (p : List Row) (row : Row) (e : ℕ) → e ≢ row.dev → (own_of (row ∷ p) e).ack ≡ (own_of p e).ack
own_ack_other p row e ne = ap (λ (o : Own). o.ack) (own_other p row e ne)

pub own_ack_own : (p : List Row) (t d : ℕ) (l o : LineSet) → drives p d ≡ o
    → (own_of (row_of_lines t d l ∷ p) d).ack ≡ (if rises o.ack l.ack then t else (own_of p d).ack)
own_ack_own p t d l o e =
    (λ i. (if eq_self d i then own_after (own_of p d) (change_of p (row_of_lines t d l)) t else own_of p d).ack)
    ∙ ap (λ (b : LineSet). if rises b.ack l.ack then t else (own_of p d).ack) e

-- All that a row must leave so that the pulses go on.
pub pulsing_goes : (s : ScenarioValue) (p q : List Row) (n : Connection) (io req ack atn : Bool)
    (x y : ℕ) (req' ack' atn' : Bool) (x' y' t : ℕ) (h' : Handshakes) (tr ta raised : ℕ)
    → Pulsing s p n io req ack atn x y → Linked q n (ends false ack' atn' x' false false io req' y')
    → InPhaseRow p q n (ends false ack atn x false false io req y) (ends false ack' atn' x' false false io req' y') t
    → last_time q ≡ t → last_time p ≤ t → implies atn' (io || false) ≡ true → OneSide io x' y' → pulses q ≡ pulses_of h'
    → handshakes q ≡ h' → (line_times q).req ≡ tr → (line_times q).ack ≡ ta → (own_of q n.initiator).ack ≡ raised
    → PulseFacts h' tr ta raised (times_here p).assertion (offset_here p) t req' ack' → HasDrivenPulsed s q n io x'
    → ((d : ℕ) → is_of_device (receiver q) d ≡ true → d ≡ (if io then n.initiator else n.target))
    → (io ≡ false → is_some (receiver q) ≡ true → ack' ≡ true) → Pulsing s q n io req' ack' atn' x' y'
pulsing_goes s p q n io req ack atn x y req' ack' atn' x' y' t h' tr ta raised h l r now order asks side ep eh er ea eo
    facts driven receives received =
    let eg = r.agreement_is refl refl in
    record {
      linked = l;
      phase = phase_goes p q n (ends false ack atn x false false io req y) false ack' atn' x' req' y' t r h.phase asks;
      offset = ap (λ (a : Agreement). nat_lt 0 a.offset) eg ∙ h.offset;
      byte_offset = let w = h.byte_offset in let u = ap (λ (a : Agreement). a.offset) eg in omega arith;
      settled = let u = h.settled in let w = r.phase_is in omega arith;
      side = side;
      turned = turn_goes p q n (ends false ack atn x false false io req y)
          (ends false ack' atn' x' false false io req' y') io t r order now h.turned;
      pulses_are = ep ∙ ap pulses_of (sym eh);
      facts = subst (λ z. PulseFacts z (line_times q).req (line_times q).ack (own_of q n.initiator).ack
          (times_here q).assertion (offset_here q) (last_time q) req' ack') (sym eh)
          (subst (λ z. PulseFacts h' z (line_times q).ack (own_of q n.initiator).ack (times_here q).assertion
          (offset_here q) (last_time q) req' ack') (sym er) (subst (λ z. PulseFacts h' tr z
          (own_of q n.initiator).ack (times_here q).assertion (offset_here q) (last_time q) req' ack') (sym ea) (subst
          (λ z. PulseFacts h' tr ta z (times_here q).assertion (offset_here q) (last_time q) req' ack') (sym eo) (subst
          (λ (z : Agreement). PulseFacts h' tr ta raised (times_of z.period).assertion z.offset (last_time q) req' ack')
          (sym eg) (subst (λ z. PulseFacts h' tr ta raised (times_here p).assertion (offset_here p) z req' ack')
          (sym now) facts)))));
      driven = driven;
      receives = receives;
      received = received;
    }

-- ---- pure facts of times

fresh_target : (changes follows room held : Bool) (a b c d t : ℕ) → (changes ≡ true → t ≤ b) → t ≤ c
    → (held ≡ false → t ≤ d) → NoSooner t (target_time false changes follows room held a b c d)
fresh_target true follows room held a b c d t f g h = some_no_sooner t b (f refl)
fresh_target false true true held a b c d t f g h = some_no_sooner t c g
fresh_target false true false held a b c d t f g h = none_no_sooner t
fresh_target false false room true a b c d t f g h = none_no_sooner t
fresh_target false false room false a b c d t f g h = some_no_sooner t d (h refl)

pub fresh_next : (io ack : Bool) (y : ℕ) (h : Handshakes) (tr ta : ℕ) (z : TransferTimes) (off run bits lat t : ℕ)
    → ((io && not (y == bits)) ≡ true → t ≤ h.last_req + z.hold + lat)
    → t ≤ max (max (h.last_req + z.period) (tr + z.negation))
    (max (room_by off h) (if io then h.last_req + z.hold + lat + z.set_up else 0)) + lat
    → ((not (length h.waiting == 0) || ack) ≡ false
    → t ≤ max ta ((if io then h.last_req else h.last_ack) + z.hold) + lat)
    → NoSooner t (target_next io false ack y h tr ta z off run bits lat)
fresh_next io ack y h tr ta z off run bits lat t f g x = fresh_target (io && not (y == bits))
    (nat_lt h.requests run) (nat_lt (length h.waiting) off) (not (length h.waiting == 0) || ack)
    (tr + z.assertion + lat) (h.last_req + z.hold + lat) (max (max (h.last_req + z.period) (tr + z.negation))
    (max (room_by off h) (if io then h.last_req + z.hold + lat + z.set_up else 0)) + lat)
    (max ta ((if io then h.last_req else h.last_ack) + z.hold) + lat) t f g x

pub same_latency : (s : ScenarioValue) (d a b : ℕ) → latency_of s d ≡ Some a → latency_of s d ≡ Some b → a ≡ b
same_latency s d a b e f = some_same a b (sym e ∙ f)
  where
    some_same : (a b : ℕ) → (let o : Option ℕ = Some a in o) ≡ Some b → a ≡ b
    some_same a b e = cc

pub data_stands : (p : List Row) (row : Row) (a : ℕ)
    → since data_of (row ∷ p) ≡ (if a == a then since data_of p else row.time)
    → since data_of (row ∷ p) ≡ since data_of p
data_stands p row a e = e ∙ ap (λ (q : Bool). if q then since data_of p else row.time) (eq_self a)

-- ---- REQ falls

pub req_ends_in : (s : ScenarioValue) (p : List Row) (n : Connection) (ack atn : Bool) (y t lat0 : ℕ)
    → latency_of s n.target ≡ Some lat0 → t ≡ (line_times p).req + (times_here p).assertion + lat0
    → PulseHere s p (target_row t n (ends false ack atn 0 false false true false y)) n true true ack atn 0 y
    → NextPulsing s p (target_row t n (ends false ack atn 0 false false true false y)) n true false ack atn 0 y
req_ends_in s p n ack atn y t lat0 there0 at h =
    let e : EndLines = ends false ack atn 0 false false true true y in
    let f : EndLines = ends false ack atn 0 false false true false y in
    let row : Row = target_row t n f in
    let q : List Row = row ∷ p in
    let hp = h.pulsing in
    let c : Change = change_to (connected_bus e) (connected_bus f) (target_side e) (target_side f) in
    let m = target_moves p n e false false true false y t hp.linked in
    let r = target_in_phase p n e false y t hp.linked in
    let dr = data_row p row n true true ack atn 0 y false ack atn 0 y
    (target_side e) (target_side f) s h.always hp.linked.target_below hp.linked m in
    let eh : handshakes q ≡ handshakes p = r.handshakes_are
    ∙ ap (λ (b : Bool). answered_if b t (handshakes p)) (no_rise ack) in
    let ea : (line_times q).ack ≡ (line_times p).ack = r.ack_is ∙ same_line ack (line_times p).ack t in
    let en : (line_times q).atn ≡ (line_times p).atn = r.atn_is ∙ same_line atn (line_times p).atn t in
    let eo : (own_of q n.initiator).ack ≡ (own_of p n.initiator).ack = own_ack_other
    p row n.initiator hp.linked.apart in
    let eg = r.agreement_is refl refl in
    let held : (line_times p).req + (times_here p).assertion ≤ t = omega arith in
    let order = h.order in
    let stands = hp.facts.req_stands in
    let short = assertion_short (dialogue p).heard.now.agreement.period in
    record {
      order = order;
      obeys = obeys_linked p row n e c hp.linked m.change refl h.books
          (req_end_in (around p n.target n c) n ack atn y t hp.linked.apart order hp.offset held
          (turn_test (turned p) ((line_times p).io + TURN_DELAY) t (λ w. let u = hp.turned w refl in omega arith)));
      pulsing = pulsing_goes s p q n true true ack atn 0 y false ack atn 0 y t (handshakes p) t (line_times p).ack
          (own_of p n.initiator).ack hp m.linked r refl order hp.phase.asks refl (r.pulses_are ∙ (λ i. record {
            req = (hp.pulses_are i).req;
            ack = count_after (no_rise ack i) (hp.pulses_are i).ack;
            last_req = (hp.pulses_are i).last_req;
            last_ack = when (no_rise ack i) t (hp.pulses_are i).last_ack;
          })) eh r.req_is ea eo (req_falls_facts (handshakes p) (line_times p).req (line_times p).ack
          (own_of p n.initiator).ack (times_here p).assertion (offset_here p) (last_time p) t ack hp.facts held order)
          (λ lat there. let u = hp.driven lat there in let w = data_stands p row y r.data_is in
          let v1 = ap (λ (k : Handshakes). k.last_req) eh in
          let v2 = ap (λ (k : Agreement). (times_of k.period).hold) eg in omega arith)
          (λ d. receives_if false (receiver q) n.initiator d r.receiver_is) (λ a b. absurd cc);
      ahead = record {
        target = λ lat there.
            let same = same_latency s n.target lat lat0 there there0 in
            subst (NoSooner t) (sym
            (target_next_is s p row n c true false ack y lat (handshakes p) t (line_times p).ack dr eh r.req_is ea eg))
            (fresh_next true ack y (handshakes p) t (line_times p).ack (times_here p) (offset_here p) (run_count s p n)
            (next_bits s p n) lat t (λ z. omega arith) (omega arith) (λ z. omega arith));
        initiator = λ lat there. subst (NoSooner t) (sym (initiator_next_is s p row n true ack atn 0 lat (handshakes p)
            (line_times p).ack (line_times p).atn (own_of p n.initiator).ack (given_here s q) eh ea en eo refl eg))
            (later_initiator_in s p row n true ack atn y h lat there);
      };
    }

-- ---- REQ rises again

pub room_same : (h : Handshakes) (off : ℕ) → length h.waiting < off → Reached h.relieved (length h.waiting) h.reach
    → (t : ℕ) → room_by off (answered t h) ≡ room_by off h
room_same h off less reached t = go h.relieved refl reached
  where
    go : (o : Option ℕ) → h.relieved ≡ o → Reached o (length h.waiting) h.reach
        → room_by off (answered t h) ≡ room_by off h
    go None e r =
        let apart : (h.reach == off) ≡ false = below_differs h.reach off (omega arith) in
        (λ i. if apart i then or_zero (or_now h.relieved t) else 0)
        ∙ sym (λ i. if apart i then or_zero h.relieved else 0)
    go (Some w) e r = λ i. if h.reach == off then or_zero (still i) else 0
      where
        still : or_now h.relieved t ≡ h.relieved
        still = (λ i. or_now (e i) t) ∙ sym e

pub room_now : (h : Handshakes) (off t : ℕ) → nat_lt (length h.waiting) off ≡ false
    → Reached h.relieved (length h.waiting) h.reach → h.reach ≤ off → room_by off (answered t h) ≡ t
room_now h off t full reached few = go h.relieved refl reached
  where
    at_least : (a b : ℕ) → nat_lt a b ≡ false → b ≤ a
    at_least a b e = grind (arith, nat_tests)

    equal : (a b : ℕ) → a ≡ b → (a == b) ≡ true
    equal a b e = grind (arith, nat_tests)

    go : (o : Option ℕ) → h.relieved ≡ o → Reached o (length h.waiting) h.reach → room_by off (answered t h) ≡ t
    go None e r =
        let u = at_least (length h.waiting) off full in
        (λ i. if equal h.reach off (omega arith) i then or_zero (or_now h.relieved t) else 0)
        ∙ (λ i. or_zero (or_now (e i) t))
    go (Some w) e r = let u = at_least (length h.waiting) off full in absurd (omega arith)

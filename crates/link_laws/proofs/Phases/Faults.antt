-- A fault row in a connection changes nothing but what its receiver makes of the byte.
use Rattle.link_laws.proofs
use proofs.Names.{ℕ, ◌≡◌, ◌<◌, ◌≤◌, ◌+◌, [], Bool, true, false, not, ◌&&◌, ◌||◌, ◌==◌, ◌∙◌, List, ◌∷◌, Option, Some}
use proofs.Names.{None, refl, sym, ap, subst, arith, if◌then◌else◌, is_some, nat_lt, max, or_false, eq_self}
use proofs.Names.{drives-fault, same_self, times_of, LineSet, data_of, changes_phase, receiver, receiver_in, when}
use proofs.Names.{drives, last_time, since, line_times, phase_time, Row, Agreement, TransferTimes, Change, Connection}
use proofs.Names.{BUS_SETTLE_DELAY, TURN_DELAY, LineTimes, struck_length, struck_same, Handshakes, handshakes}
use proofs.Names.{newest_struck_if, newest_struck, with_last_struck, first_of, time_of, room_by, Request, dialogue}
use proofs.Names.{byte_crosses, phase_begins, duty, duty_left, duty_if_held, turned, is_attention_held, pulses}
use proofs.Names.{no_pulses, count_after, Duty, Dialogue, is_of_device, ScenarioValue, bits_if, is_pulsed_phase, lag_by}
use proofs.Names.{begun, host_of, Own, own_of, AreOfDevices, fault_change, stands_by, own_time_fault, own_fault}
use proofs.Names.{EndLines, initiator_side, target_side, connected_bus, Linked, own_time, row_of_fault, change_to}
use proofs.Names.{CalmStanding, KeepsBooksIn, LinkStage, when_selected, when_settling, when_turning, when_offering}
use proofs.Names.{when_shaking, when_pulsing, ends, fits_duty, InPhase, HasDriven, shaking_time, Shaking, times_here}
use proofs.Names.{offset_here, pulses_of, Reached, PulseFacts, Pulsing, HasDrivenPulsed, drives_by, EndsAhead, NoSooner}
use proofs.{Names.{target_time, target_next, initiator_next, run_count, byte_in_run, given_here}, Lines.Data.{DataRow}}
use proofs.Lines.{Faults.{fault_obeys_in, fault_obeys_out}, Rows.{terms_after, same_line, no_rise}, Seen.{around}}
use proofs.{Lines.Seen.{obeys_linked}, Phases.{First.{no_fall}, Stays.{NextLinked}}, Pulses.Rows.{target_next_is}}
use proofs.Pulses.Rows.{initiator_next_is}

pub linked_fault : (p : List Row) (n : Connection) (e : EndLines) (t d bit : ℕ) → Linked p n e
    → Linked (row_of_fault t d bit ∷ p) n e
linked_fault p n e t d bit h = record {
  stands = stands_by p (row_of_fault t d bit) _ (connected_bus e) None None (Some n) h.stands
      (fault_change p t d bit (connected_bus e) (drives p d) h.stands.bus_is refl);
  initiator_below = h.initiator_below;
  target_below = h.target_below;
  apart = h.apart;
  initiator = drives-fault (row_of_fault t d bit) p bit n.initiator refl ∙ h.initiator;
  target = drives-fault (row_of_fault t d bit) p bit n.target refl ∙ h.target;
  rest = λ k lt n1 n2. drives-fault (row_of_fault t d bit) p bit k refl ∙ h.rest k lt n1 n2;
}

-- All terms stand as they do.
pub record Stays (p q : List Row) (n : Connection) : Type 0 where
  pub times_are : line_times q ≡ line_times p
  pub data_is : since data_of q ≡ since data_of p
  pub begun_is : begun q ≡ begun p
  pub duty_is : duty q ≡ duty p
  pub turned_is : turned q ≡ turned p
  pub requests_are : (handshakes q).requests ≡ (handshakes p).requests
  pub agreements_are : (dialogue q).heard.now.agreement ≡ (dialogue p).heard.now.agreement
  pub own_is : (d : ℕ) → own_time q d ≡ own_time p d
  pub receiver_is : receiver q ≡ None

stays : (p : List Row) (n : Connection) (e : EndLines) (t d bit : ℕ) → Linked p n e
    → Stays p (row_of_fault t d bit ∷ p) n
stays p n e t d bit h =
    let o : LineSet = drives p d in
    let b : LineSet = connected_bus e in
    let c : Change = change_to b b o o in
    let v : LineTimes = line_times p in
    let held : Bool = is_attention_held c v.atn t in
    let w = terms_after p (row_of_fault t d bit) n c (fault_change p t d bit b o h.stands.bus_is refl)
    h.stands.connection_is (linked_fault p n e t d bit h).stands.connection_is in
    let ph : changes_phase c ≡ false = λ i. not (same_self e.msg i && same_self e.cd i && same_self e.io i) in
    let none_received : receiver_in n c ≡ None = (λ i. if e.io then (if no_rise e.req i then Some n.initiator else None)
    else (if no_rise e.ack i then Some n.target else None)) ∙ none_both e.io in
    record {
      times_are = w.times_are ∙ (λ i. record {
        bsy = v.bsy;
        sel = v.sel;
        cd = same_line e.cd v.cd t i;
        io = same_line e.io v.io t i;
        msg = same_line e.msg v.msg t i;
        req = same_line e.req v.req t i;
        ack = same_line e.ack v.ack t i;
        atn = same_line e.atn v.atn t i;
        rst = v.rst;
      });
      data_is = w.data_is ∙ ap (λ (q : Bool). if q then since data_of p else t) (eq_self b.data_bits);
      begun_is = w.begun_is ∙ ap (λ (r : Bool). r || begun p) ph;
      duty_is = w.duty_is ∙ (λ i. if no_fall e.atn i || no_rise e.req i then Duty.Nothing
          else if no_fall e.ack i && held then duty_if_held (duty p) b
          else if ph i then duty_left (duty p) else duty p);
      turned_is = w.turned_is ∙ ap (λ (r : Bool). turned p || r) (no_rise e.io) ∙ or_false (turned p);
      requests_are = ap (λ (k : Handshakes). k.requests) w.handshakes_are ∙ struck e.io;
      agreements_are = ap (λ (k : Dialogue). k.heard.now.agreement) w.dialogue_is
          ∙ (λ i. (if is_some (none_received i) then byte_crosses (dialogue p) c
          else if ph i then phase_begins (dialogue p) else dialogue p).heard.now.agreement);
      own_is = λ k. own_time_fault p t d bit k;
      receiver_is = w.receiver_is ∙ none_received;
    }
  where
    none_both : (q : Bool) → (let o : Option ℕ = None in if q then o else o) ≡ None
    none_both true = refl
    none_both false = refl

    struck : (q : Bool) → (newest_struck_if q (handshakes p)).requests ≡ (handshakes p).requests
    struck true = refl
    struck false = refl

phase_stays : (p q : List Row) (n : Connection) (e : EndLines) → Stays p q n → InPhase p n e → InPhase q n e
phase_stays p q n e w h = record {
  begun_is = w.begun_is ∙ h.begun_is;
  began = subst (λ d. n.began ≤ phase_time d) (sym w.times_are) h.began;
  known = h.known;
  asks = h.asks;
  owes = ap (λ (d : Duty). fits_duty d e.atn e.msg) w.duty_is ∙ h.owes;
}

pub none_device : (o : Option ℕ) (d : ℕ) → o ≡ None → is_of_device o d ≡ true → ⊥
none_device o d e z = let w = sym (ap (λ (x : Option ℕ). is_of_device x d) e) ∙ z in cc

driven_stays : (a b c a' b' c' : ℕ) (req ack io : Bool) (x : ℕ) → a' ≡ a → b' ≡ b → c' ≡ c
    → HasDriven a b c req ack io x → HasDriven a' b' c' req ack io x
driven_stays a b c a' b' c' req ack io x e f g h = subst (λ k. HasDriven k b' c' req ack io x) (sym e)
    (subst (λ k. HasDriven a k c' req ack io x) (sym f) (subst (λ k. HasDriven a b k req ack io x) (sym g) h))

shaking_stays : (p : List Row) (n : Connection) (msg cd io req ack atn : Bool) (x y d bit : ℕ)
    → Shaking p n msg cd io req ack atn x y → Shaking (row_of_fault (last_time p) d bit ∷ p) n msg cd io req ack atn x y
shaking_stays p n msg cd io req ack atn x y d bit h =
    let e : EndLines = ends false ack atn x msg cd io req y in
    let t : ℕ = last_time p in
    let q : List Row = row_of_fault t d bit ∷ p in
    let w = stays p n e t d bit h.linked in
    record {
      linked = linked_fault p n e t d bit h.linked;
      phase = phase_stays p q n e w h.phase;
      asked = ap (λ (k : ℕ). k == 0) w.requests_are ∙ h.asked;
      unpulsed = ap (λ (a : Agreement). is_pulsed_phase true (connected_bus e) a) w.agreements_are ∙ h.unpulsed;
      settled = subst (λ k. phase_time k + BUS_SETTLE_DELAY ≤ t) (sym w.times_are) h.settled;
      side = h.side;
      turned =
          λ a b. subst (λ (k : LineTimes). k.io + TURN_DELAY ≤ t) (sym w.times_are) (h.turned (sym w.turned_is ∙ a) b);
      driven = driven_stays _ _ _ _ _ _ req ack io x w.data_is (w.own_is n.target) (w.own_is n.initiator) h.driven;
      fresh = subst (λ k. t ≤ k) (λ i. shaking_time (sym w.times_are i) (sym (w.own_is n.initiator) i) req ack io x)
          h.fresh;
      receives = λ k z. absurd (none_device (receiver q) k w.receiver_is z);
    }

strikes_in : (s : ScenarioValue) (p : List Row) (n : Connection) (msg cd req ack atn : Bool) (y bit : ℕ)
    → is_of_device (receiver p) n.initiator ≡ true → Shaking p n msg cd true req ack atn 0 y
    → KeepsBooksIn p (row_of_fault (last_time p) n.initiator bit)
    → NextLinked s p (row_of_fault (last_time p) n.initiator bit) n
strikes_in s p n msg cd req ack atn y bit got h books =
    let e : EndLines = ends false ack atn 0 msg cd true req y in
    let c : Change = change_to (connected_bus e) (connected_bus e) (initiator_side e) (initiator_side e) in
    record {
      order = omega arith;
      obeys = obeys_linked p (row_of_fault (last_time p) n.initiator bit) n e c h.linked (fault_change p (last_time p)
          n.initiator bit (connected_bus e) (initiator_side e) h.linked.stands.bus_is h.linked.initiator) refl books
          (fault_obeys_in (around p n.initiator n c) n req ack atn msg cd y bit (last_time p) h.linked.apart refl got);
      stage =
          when_shaking msg cd true req ack atn 0 y (shaking_stays p n msg cd true req ack atn 0 y n.initiator bit h);
    }

strikes_out : (s : ScenarioValue) (p : List Row) (n : Connection) (msg cd req ack atn : Bool) (x bit : ℕ)
    → is_of_device (receiver p) n.target ≡ true → Shaking p n msg cd false req ack atn x 0
    → KeepsBooksIn p (row_of_fault (last_time p) n.target bit)
    → NextLinked s p (row_of_fault (last_time p) n.target bit) n
strikes_out s p n msg cd req ack atn x bit got h books =
    let e : EndLines = ends false ack atn x msg cd false req 0 in
    let c : Change = change_to (connected_bus e) (connected_bus e) (target_side e) (target_side e) in
    record {
      order = omega arith;
      obeys = obeys_linked p (row_of_fault (last_time p) n.target bit) n e c h.linked (fault_change p (last_time p)
          n.target bit (connected_bus e) (target_side e) h.linked.stands.bus_is h.linked.target) refl books
          (fault_obeys_out (around p n.target n c) n req ack atn msg cd x bit (last_time p) h.linked.apart refl got);
      stage = when_shaking msg cd false req ack atn x 0 (shaking_stays p n msg cd false req ack atn x 0 n.target bit h);
    }

-- ---- by pulses

oldest_same : (w : List Request) → time_of (first_of (with_last_struck w)) ≡ time_of (first_of w)
oldest_same [] = refl
oldest_same (r ∷ []) = refl
oldest_same (r ∷ (q ∷ w)) = refl

struck_facts : (h : Handshakes) (a b c d e last : ℕ) (req ack : Bool) → PulseFacts h a b c d e last req ack
    → PulseFacts (newest_struck h) a b c d e last req ack
struck_facts h a b c d e last req ack f =
    let long = struck_length h.waiting in
    let count = f.counts in
    record {
      asked = f.asked;
      counts = omega arith;
      within = f.within;
      reached = subst (λ k. Reached h.relieved k h.reach) (sym long) f.reached;
      few = f.few;
      req_stands = f.req_stands;
      ack_stands = f.ack_stands;
      ack_first = f.ack_first;
      raised_is = f.raised_is;
      req_past = f.req_past;
      ack_past = f.ack_past;
      all_answered = λ z. f.all_answered (sym long ∙ z);
    }

facts_stay : (io : Bool) (h : Handshakes) (a b c d e last : ℕ) (req ack : Bool) → PulseFacts h a b c d e last req ack
    → PulseFacts (newest_struck_if io h) a b c d e last req ack
facts_stay true h a b c d e last req ack f = struck_facts h a b c d e last req ack f
facts_stay false h a b c d e last req ack f = f

pulses_stay : (io : Bool) (h : Handshakes) → pulses_of (newest_struck_if io h) ≡ pulses_of h
pulses_stay true h = refl
pulses_stay false h = refl

handshakes_struck : (p : List Row) (n : Connection) (e : EndLines) (t d bit : ℕ) → Linked p n e
    → handshakes (row_of_fault t d bit ∷ p) ≡ newest_struck_if e.io (handshakes p)
handshakes_struck p n e t d bit h = (terms_after p (row_of_fault t d bit) n _
    (fault_change p t d bit (connected_bus e) (drives p d) h.stands.bus_is refl) h.stands.connection_is
    (linked_fault p n e t d bit h).stands.connection_is).handshakes_are

pulses_struck : (p : List Row) (n : Connection) (e : EndLines) (t d bit : ℕ) → Linked p n e
    → pulses (row_of_fault t d bit ∷ p) ≡ pulses p
pulses_struck p n e t d bit h =
    let b : LineSet = connected_bus e in
    let c : Change = change_to b b (drives p d) (drives p d) in
    let w = terms_after p (row_of_fault t d bit) n c (fault_change p t d bit b (drives p d) h.stands.bus_is refl)
    h.stands.connection_is (linked_fault p n e t d bit h).stands.connection_is in
    let ph : changes_phase c ≡ false = λ i. not (same_self e.msg i && same_self e.cd i && same_self e.io i) in
    w.pulses_are ∙ (λ i. if ph i then no_pulses else record {
      req = count_after (no_rise e.req i) (pulses p).req;
      ack = count_after (no_rise e.ack i) (pulses p).ack;
      last_req = when (no_rise e.req i) t (pulses p).last_req;
      last_ack = when (no_rise e.ack i) t (pulses p).last_ack;
    })

driven_stays_in : (s : ScenarioValue) (p q : List Row) (n : Connection) (io : Bool) (x : ℕ) → Stays p q n
    → handshakes q ≡ newest_struck_if io (handshakes p) → (own_of q n.initiator).ack ≡ (own_of p n.initiator).ack
    → HasDrivenPulsed s p n io x → HasDrivenPulsed s q n io x
driven_stays_in s p q n true x w eh eo h = λ lat there.
    let u = h lat there in
    let a = w.data_is in
    let b : (handshakes q).last_req ≡ (handshakes p).last_req = ap (λ (k : Handshakes). k.last_req) eh in
    let c = ap (λ (k : Agreement). (times_of k.period).hold) w.agreements_are in
    omega arith
driven_stays_in s p q n false x w eh eo h = λ some lat there. subst
    (λ k. k ≤ drives_by (handshakes q) (times_here q).hold (own_of q n.initiator).ack lat)
    (sym w.data_is) (subst (λ k. since data_of p ≤ k)
    (λ i. drives_by (sym eh i) (times_of (sym w.agreements_are i).period).hold (sym eo i) lat)
    (h ((λ i. (sym eh i).answers == 0 && x == 0) ∙ some) lat there))

pulsing_stays : (s : ScenarioValue) (p : List Row) (n : Connection) (io req ack atn : Bool) (x y d bit : ℕ)
    → Pulsing s p n io req ack atn x y → Pulsing s (row_of_fault (last_time p) d bit ∷ p) n io req ack atn x y
pulsing_stays s p n io req ack atn x y d bit h =
    let e : EndLines = ends false ack atn x false false io req y in
    let t : ℕ = last_time p in
    let q : List Row = row_of_fault t d bit ∷ p in
    let w = stays p n e t d bit h.linked in
    let eh = handshakes_struck p n e t d bit h.linked in
    let eo : (own_of q n.initiator).ack ≡ (own_of p n.initiator).ack = ap
    (λ (o : Own). o.ack) (own_fault p t d bit n.initiator) in
    record {
      linked = linked_fault p n e t d bit h.linked;
      phase = phase_stays p q n e w h.phase;
      offset = ap (λ (a : Agreement). nat_lt 0 a.offset) w.agreements_are ∙ h.offset;
      byte_offset = let u = h.byte_offset in let k = ap (λ (a : Agreement). a.offset) w.agreements_are in omega arith;
      settled = subst (λ k. phase_time k + BUS_SETTLE_DELAY ≤ t) (sym w.times_are) h.settled;
      side = h.side;
      turned =
          λ a b. subst (λ (k : LineTimes). k.io + TURN_DELAY ≤ t) (sym w.times_are) (h.turned (sym w.turned_is ∙ a) b);
      pulses_are = pulses_struck p n e t d bit h.linked ∙ h.pulses_are ∙ sym (pulses_stay io (handshakes p))
          ∙ ap pulses_of (sym eh);
      facts = subst (λ k. PulseFacts k (line_times q).req (line_times q).ack
          (own_of q n.initiator).ack (times_here q).assertion (offset_here q) t req ack) (sym eh)
          (subst (λ (k : LineTimes). PulseFacts (newest_struck_if io (handshakes p)) k.req k.ack
          (own_of q n.initiator).ack (times_here q).assertion (offset_here q) t req ack) (sym w.times_are)
          (subst (λ k. PulseFacts (newest_struck_if io (handshakes p)) (line_times p).req
          (line_times p).ack k (times_here q).assertion (offset_here q) t req ack) (sym eo)
          (subst (λ (k : Agreement). PulseFacts (newest_struck_if io (handshakes p)) (line_times p).req
          (line_times p).ack (own_of p n.initiator).ack (times_of k.period).assertion k.offset t req ack)
          (sym w.agreements_are) (facts_stay io (handshakes p) (line_times p).req (line_times p).ack
          (own_of p n.initiator).ack (times_here p).assertion (offset_here p) t req ack h.facts))));
      driven = driven_stays_in s p q n io x w eh eo h.driven;
      receives = λ k z. absurd (none_device (receiver q) k w.receiver_is z);
      received = λ a b. let k = sym (ap (λ (o : Option ℕ). is_some o) w.receiver_is) ∙ b in absurd cc;
    }

struck_row : (p : List Row) (n : Connection) (e : EndLines) (t d bit : ℕ)
    → AreOfDevices p → d < 8 → e.msg ≡ false → Linked p n e
    → DataRow p (row_of_fault t d bit) n (change_to (connected_bus e) (connected_bus e) (drives p d) (drives p d))
struck_row p n e t d bit devices lt low h = record {
  devices = devices;
  below = lt;
  before = h.stands.connection_is;
  after = (linked_fault p n e t d bit h).stands.connection_is;
  change = fault_change p t d bit (connected_bus e) (drives p d) h.stands.bus_is refl;
  calm = refl;
  phase = λ i. not (same_self e.msg i && same_self e.cd i && same_self e.io i);
  in_data = low;
}

target_stays : (io req ack : Bool) (y : ℕ) (h : Handshakes) (a b : ℕ) (z : TransferTimes) (off run bits lat : ℕ)
    → target_next io req ack y (newest_struck_if io h) a b z off run bits lat
    ≡ target_next io req ack y h a b z off run bits lat
target_stays true req ack y h a b z off run bits lat =
    let long = struck_length h.waiting in
    λ i. target_time req (true && not (y == bits)) (nat_lt h.requests run) (nat_lt (long i) off)
    (not (long i == 0) || ack) (a + z.assertion + lat) (h.last_req + z.hold + lat)
    (max (max (h.last_req + z.period) (a + z.negation)) (max (room_by off h) (h.last_req + z.hold + lat + z.set_up))
    + lat) (max b (h.last_req + z.hold) + lat)
target_stays false req ack y h a b z off run bits lat = refl

initiator_stays : (io ack atn : Bool) (x : ℕ) (h : Handshakes) (a b : ℕ) (z : TransferTimes) (lag raised g g' lat : ℕ)
    → (io ≡ false → ack ≡ true) → initiator_next io ack atn x (newest_struck_if io h) a b z lag raised g' lat
    ≡ initiator_next io ack atn x h a b z lag raised g lat
initiator_stays true ack atn x h a b z lag raised g g' lat f =
    let long = struck_length h.waiting in
    let old = oldest_same h.waiting in
    λ i. if ack then Some (a + (if atn && b == a then max 90 z.assertion else z.assertion) + lat)
    else if not (long i == 0)
    then Some (max (old i + lag) (if h.answers == 0 then 0 else max (h.last_ack + z.period) (a + z.negation)) + lat)
    else None
initiator_stays false ack atn x h a b z lag raised g g' lat f =
    let e = f refl in
    ap (λ (q : Bool). initiator_next false q atn x h a b z lag raised g' lat) e
    ∙ sym (ap (λ (q : Bool). initiator_next false q atn x h a b z lag raised g lat) e)

ahead_stays : (s : ScenarioValue) (p : List Row) (n : Connection) (io req ack atn : Bool) (x y d bit : ℕ)
    → CalmStanding s p → d < 8 → (io ≡ false → ack ≡ true) → Pulsing s p n io req ack atn x y
    → EndsAhead s p n io req ack atn x y → EndsAhead s (row_of_fault (last_time p) d bit ∷ p) n io req ack atn x y
ahead_stays s p n io req ack atn x y d bit always lt out h a =
    let e : EndLines = ends false ack atn x false false io req y in
    let t : ℕ = last_time p in
    let row : Row = row_of_fault t d bit in
    let q : List Row = row ∷ p in
    let w = stays p n e t d bit h.linked in
    let eh = handshakes_struck p n e t d bit h.linked in
    let eo : (own_of q n.initiator).ack ≡ (own_of p n.initiator).ack = ap
    (λ (o : Own). o.ack) (own_fault p t d bit n.initiator) in
    let dr = struck_row p n e t d bit always.devices lt refl h.linked in
    let er = ap (λ (k : LineTimes). k.req) w.times_are in
    let ea = ap (λ (k : LineTimes). k.ack) w.times_are in
    let en = ap (λ (k : LineTimes). k.atn) w.times_are in
    record {
      target = λ lat there. subst (NoSooner t)
          (sym (target_next_is s p row n _ io req ack y lat (newest_struck_if io (handshakes p)) (line_times p).req
          (line_times p).ack dr eh er ea w.agreements_are ∙ target_stays io req ack y (handshakes p)
          (line_times p).req (line_times p).ack (times_here p) (offset_here p) (run_count s p n) _ lat
          ∙ ap (λ (k : ℕ). target_next io req ack y (handshakes p) (line_times p).req (line_times p).ack (times_here p)
          (offset_here p) (run_count s p n) (bits_if (nat_lt k (run_count s p n)) (byte_in_run s p n k)) lat)
          (struck_same io (handshakes p)))) (a.target lat there);
      initiator = λ lat there. subst (NoSooner t)
          (sym (initiator_next_is s p row n io ack atn x lat (newest_struck_if io (handshakes p)) (line_times p).ack
          (line_times p).atn (own_of p n.initiator).ack (given_here s q) eh ea en eo refl w.agreements_are
          ∙ initiator_stays io ack atn x (handshakes p) (line_times p).ack (line_times p).atn (times_here p)
          (lag_by (host_of s n.initiator)) (own_of p n.initiator).ack (given_here s p) (given_here s q) lat out))
          (a.initiator lat there);
    }

pub some_device : (o : Option ℕ) (d : ℕ) → is_of_device o d ≡ true → is_some o ≡ true
some_device None d e = absurd cc
some_device (Some m) d e = refl

strikes_pulsed_in : (s : ScenarioValue) (p : List Row) (n : Connection) (req ack atn : Bool) (y bit : ℕ)
    → CalmStanding s p → is_of_device (receiver p) n.initiator ≡ true → Pulsing s p n true req ack atn 0 y
    → EndsAhead s p n true req ack atn 0 y → KeepsBooksIn p (row_of_fault (last_time p) n.initiator bit)
    → NextLinked s p (row_of_fault (last_time p) n.initiator bit) n
strikes_pulsed_in s p n req ack atn y bit always got h a books =
    let e : EndLines = ends false ack atn 0 false false true req y in
    let c : Change = change_to (connected_bus e) (connected_bus e) (initiator_side e) (initiator_side e) in
    record {
      order = omega arith;
      obeys = obeys_linked p (row_of_fault (last_time p) n.initiator bit) n e c h.linked
          (fault_change p (last_time p) n.initiator bit (connected_bus e)
          (initiator_side e) h.linked.stands.bus_is h.linked.initiator) refl books (fault_obeys_in
          (around p n.initiator n c) n req ack atn false false y bit (last_time p) h.linked.apart refl got);
      stage = when_pulsing true req ack atn 0 y (pulsing_stays s p n true req ack atn 0 y n.initiator bit h)
          (ahead_stays s p n true req ack atn 0 y n.initiator bit always h.linked.initiator_below (λ z. absurd cc) h a);
    }

strikes_pulsed_out : (s : ScenarioValue) (p : List Row) (n : Connection) (req ack atn : Bool) (x bit : ℕ)
    → CalmStanding s p → is_of_device (receiver p) n.target ≡ true → Pulsing s p n false req ack atn x 0
    → EndsAhead s p n false req ack atn x 0 → KeepsBooksIn p (row_of_fault (last_time p) n.target bit)
    → NextLinked s p (row_of_fault (last_time p) n.target bit) n
strikes_pulsed_out s p n req ack atn x bit always got h a books =
    let e : EndLines = ends false ack atn x false false false req 0 in
    let c : Change = change_to (connected_bus e) (connected_bus e) (target_side e) (target_side e) in
    record {
      order = omega arith;
      obeys =
          obeys_linked p (row_of_fault (last_time p) n.target bit) n e c h.linked (fault_change p (last_time p) n.target
          bit (connected_bus e) (target_side e) h.linked.stands.bus_is h.linked.target) refl books (fault_obeys_out
          (around p n.target n c) n req ack atn false false x bit (last_time p) h.linked.apart refl got);
      stage = when_pulsing false req ack atn x 0 (pulsing_stays s p n false req ack atn x 0 n.target bit h)
          (ahead_stays s p n false req ack atn x 0 n.target bit always h.linked.target_below
          (λ z. h.received z (some_device (receiver p) n.target got)) h a);
    }

-- ---- any

pub strikes_byte : (s : ScenarioValue) (p : List Row) (n : Connection) (d bit : ℕ) → CalmStanding s p
    → is_of_device (receiver p) d ≡ true → LinkStage s p n → KeepsBooksIn p (row_of_fault (last_time p) d bit)
    → NextLinked s p (row_of_fault (last_time p) d bit) n
strikes_byte s p n d bit always got (when_selected h) books = absurd (none_device (receiver p) d h.receiver_is got)
strikes_byte s p n d bit always got (when_settling bsy atn msg cd io y h) books =
    absurd (none_device (receiver p) d h.receiver_is got)
strikes_byte s p n d bit always got (when_turning atn x msg cd h) books =
    absurd (none_device (receiver p) d h.receiver_is got)
strikes_byte s p n d bit always got (when_offering atn msg cd y h) books =
    absurd (none_device (receiver p) d h.receiver_is got)
strikes_byte s p n d bit always got (when_shaking msg cd true req ack atn x y h) books =
    let same = h.receives d got in
    subst (λ k. NextLinked s p (row_of_fault (last_time p) k bit) n) (sym same)
    (strikes_in s p n msg cd req ack atn y bit (subst (λ k. is_of_device (receiver p) k ≡ true) same got)
    (subst (λ z. Shaking p n msg cd true req ack atn z y) h.side h)
    (subst (λ k. KeepsBooksIn p (row_of_fault (last_time p) k bit)) same books))
strikes_byte s p n d bit always got (when_shaking msg cd false req ack atn x y h) books =
    let same = h.receives d got in
    subst (λ k. NextLinked s p (row_of_fault (last_time p) k bit) n) (sym same)
    (strikes_out s p n msg cd req ack atn x bit (subst (λ k. is_of_device (receiver p) k ≡ true) same got)
    (subst (λ z. Shaking p n msg cd false req ack atn x z) h.side h)
    (subst (λ k. KeepsBooksIn p (row_of_fault (last_time p) k bit)) same books))
strikes_byte s p n d bit always got (when_pulsing true req ack atn x y h a) books =
    let same = h.receives d got in
    let z = subst (λ k. Pulsing s p n true req ack atn k y) h.side h in
    subst (λ k. NextLinked s p (row_of_fault (last_time p) k bit) n) (sym same)
    (strikes_pulsed_in s p n req ack atn y bit always (subst (λ k. is_of_device (receiver p) k ≡ true) same got) z
    (subst (λ k. EndsAhead s p n true req ack atn k y) h.side a)
    (subst (λ k. KeepsBooksIn p (row_of_fault (last_time p) k bit)) same books))
strikes_byte s p n d bit always got (when_pulsing false req ack atn x y h a) books =
    let same = h.receives d got in
    let z = subst (λ k. Pulsing s p n false req ack atn x k) h.side h in
    subst (λ k. NextLinked s p (row_of_fault (last_time p) k bit) n) (sym same)
    (strikes_pulsed_out s p n req ack atn x bit always (subst (λ k. is_of_device (receiver p) k ≡ true) same got) z
    (subst (λ k. EndsAhead s p n false req ack atn x k) h.side a)
    (subst (λ k. KeepsBooksIn p (row_of_fault (last_time p) k bit)) same books))

-- A row of one end of a connection: what it leaves on the bus, and of the terms of the rules.
use Rattle.link_laws.proofs
use proofs.Names.{ℕ, ◌≡◌, ◌≢◌, ◌<◌, ◌%◌, Bool, true, false, not, ◌&&◌, ◌||◌, List, ◌∷◌, ◌∙◌, refl, sym, ap, Some, None}
use proofs.Names.{◌+◌, if◌then◌else◌, max, is_some, nat_le, or_true, or_false, bus_two, same_self, change_of, rises}
use proofs.Names.{falls, LineSet, none, union, data_of, changes_phase, connection, is_fault, receiver, receiver_in}
use proofs.Names.{receiver_of, when, drives, bus, since, newer, newer_line, line_times, times_after, phase_time, Row}
use proofs.Names.{Change, Connection, LineTimes, handshakes, handshakes_after, no_handshakes, answered_if, asked_if}
use proofs.Names.{dialogue, dialogue_after, dialogue_on, agreed, byte_out, byte_in, byte_crosses, phase_begins}
use proofs.Names.{heard_with_command, pulses, pulses_after, pulses_on, no_pulses, count_after, duty, duty_after}
use proofs.Names.{duty_if_held, duty_left, turned, turned_after, is_attention_held, Duty, Dialogue, begun, begun_after}
use proofs.Names.{change_is, stands_after, drives_own, drives_other, EndLines, initiator_side, target_side}
use proofs.Names.{connected_bus, Linked, change_to, row_of_lines, ends}

pub both_sides : (e : EndLines) → union (initiator_side e) (target_side e) ≡ connected_bus e
both_sides e = λ i. record (connected_bus e) { bsy = or_true e.bsy i; ack = or_false e.ack i; atn = or_false e.atn i }

-- The row changes the lines of one end, o to l, and so what the two ends drive, e to f.
pub record Moves (p : List Row) (row : Row) (n : Connection) (e f : EndLines) (o l : LineSet) : Type 0 where
  pub linked : Linked (row ∷ p) n f
  pub change : change_of p row ≡ change_to (connected_bus e) (connected_bus f) o l

pub initiator_moves : (p : List Row) (n : Connection) (e : EndLines) (bsy ack atn : Bool) (x t : ℕ) → Linked p n e
    → Moves p (row_of_lines t n.initiator (initiator_side (ends bsy ack atn x e.msg e.cd e.io e.req e.given))) n e
    (ends bsy ack atn x e.msg e.cd e.io e.req e.given) (initiator_side e)
    (initiator_side (ends bsy ack atn x e.msg e.cd e.io e.req e.given))
initiator_moves p n e bsy ack atn x t h =
    let f : EndLines = ends bsy ack atn x e.msg e.cd e.io e.req e.given in
    let l : LineSet = initiator_side f in
    let q : List Row = row_of_lines t n.initiator l ∷ p in
    let own : drives q n.initiator ≡ l = drives_own p t n.initiator l in
    let holds : drives q n.target ≡ target_side f = drives_other p t n.initiator l n.target (λ z. h.apart (sym z))
    ∙ h.target in
    let rest : (d : ℕ) → d < 8 → d ≢ n.initiator → d ≢ n.target → drives q d ≡ none =
    λ d lt n1 n2. drives_other p t n.initiator l d n1 ∙ h.rest d lt n1 n2 in
    let after : bus q ≡ connected_bus f = bus_two q n.initiator n.target h.apart h.initiator_below h.target_below rest
    ∙ (λ i. union (own i) (holds i)) ∙ both_sides f in
    record {
      linked = record {
        stands = stands_after p t n.initiator l l (connected_bus e) (connected_bus f) (initiator_side e) None None
            (Some n) h.stands refl after h.initiator;
        initiator_below = h.initiator_below;
        target_below = h.target_below;
        apart = h.apart;
        initiator = own;
        target = holds;
        rest = rest;
      };
      change = change_is p t n.initiator l l (connected_bus e) (connected_bus f)
          (initiator_side e) refl h.stands.bus_is after h.initiator;
    }

pub target_moves : (p : List Row) (n : Connection) (e : EndLines) (msg cd io req : Bool) (y t : ℕ) → Linked p n e
    → Moves p (row_of_lines t n.target (target_side (ends e.bsy e.ack e.atn e.sent msg cd io req y))) n e
    (ends e.bsy e.ack e.atn e.sent msg cd io req y) (target_side e)
    (target_side (ends e.bsy e.ack e.atn e.sent msg cd io req y))
target_moves p n e msg cd io req y t h =
    let f : EndLines = ends e.bsy e.ack e.atn e.sent msg cd io req y in
    let l : LineSet = target_side f in
    let q : List Row = row_of_lines t n.target l ∷ p in
    let own : drives q n.target ≡ l = drives_own p t n.target l in
    let holds : drives q n.initiator ≡ initiator_side f = drives_other p t n.target l n.initiator h.apart
    ∙ h.initiator in
    let rest : (d : ℕ) → d < 8 → d ≢ n.initiator → d ≢ n.target → drives q d ≡ none =
    λ d lt n1 n2. drives_other p t n.target l d n2 ∙ h.rest d lt n1 n2 in
    let after : bus q ≡ connected_bus f = bus_two q n.initiator n.target h.apart h.initiator_below h.target_below rest
    ∙ (λ i. union (holds i) (own i)) ∙ both_sides f in
    record {
      linked = record {
        stands = stands_after p t n.target l l (connected_bus e) (connected_bus f) (target_side e) None None
            (Some n) h.stands refl after h.target;
        initiator_below = h.initiator_below;
        target_below = h.target_below;
        apart = h.apart;
        initiator = holds;
        target = own;
        rest = rest;
      };
      change = change_is p t n.target l l (connected_bus e) (connected_bus f)
          (target_side e) refl h.stands.bus_is after h.target;
    }

-- ---- the terms after a row, while the connection stands

pub record TermsAfter (p : List Row) (row : Row) (n : Connection) (c : Change) : Type 0 where
  pub times_are : line_times (row ∷ p) ≡ times_after (line_times p) c.before c.after row.time
  pub data_is : since data_of (row ∷ p) ≡ newer data_of c.before c.after (since data_of p) row.time
  pub duty_is : duty (row ∷ p) ≡ duty_after (duty p) (Some n) c (is_attention_held c (line_times p).atn row.time)
  pub turned_is : turned (row ∷ p) ≡ turned_after (turned p) (Some n) c
  pub handshakes_are : handshakes (row ∷ p) ≡ handshakes_after (is_fault row.kind) (Some n) c row.time (handshakes p)
  pub begun_is : begun (row ∷ p) ≡ begun_after (begun p) (Some n) (Some n) c
  pub dialogue_is : dialogue (row ∷ p) ≡ dialogue_on (dialogue p) (Some n) c
  pub pulses_are : pulses (row ∷ p) ≡ pulses_after (pulses p) (Some n) c row.time
  pub receiver_is : receiver (row ∷ p) ≡ receiver_in n c

pub terms_after : (p : List Row) (row : Row) (n : Connection) (c : Change) → change_of p row ≡ c → connection p ≡ Some n
    → connection (row ∷ p) ≡ Some n → TermsAfter p row n c
terms_after p row n c e en em = record {
  times_are = λ i. times_after (line_times p) (e i).before (e i).after row.time;
  data_is = λ i. newer data_of (e i).before (e i).after (since data_of p) row.time;
  duty_is = λ i. duty_after (duty p) (em i) (e i) (is_attention_held (e i) (line_times p).atn row.time);
  turned_is = λ i. turned_after (turned p) (en i) (e i);
  handshakes_are = λ i. handshakes_after (is_fault row.kind) (em i) (e i) row.time (handshakes p);
  begun_is = λ i. begun_after (begun p) (en i) (em i) (e i);
  dialogue_is = λ i. dialogue_after (dialogue p) (en i) (em i) (agreed p) (e i);
  pulses_are = λ i. pulses_after (pulses p) (em i) (e i) row.time;
  receiver_is = λ i. receiver_of (en i) (e i);
}

pub terms_of : (p : List Row) (row : Row) (n : Connection) (e f : EndLines) (o l : LineSet) → Linked p n e
    → Moves p row n e f o l → TermsAfter p row n (change_to (connected_bus e) (connected_bus f) o l)
terms_of p row n e f o l h m = terms_after p row n
    (change_to (connected_bus e) (connected_bus f) o l) m.change h.stands.connection_is m.linked.stands.connection_is

-- ---- a row that leaves the phase lines as they are

pub same_line : (q : Bool) (was t : ℕ) → newer_line q q was t ≡ was
same_line true was t = refl
same_line false was t = refl

pub no_rise : (q : Bool) → rises q q ≡ false
no_rise true = refl
no_rise false = refl

pub phase_same : (e : EndLines) (bsy ack atn : Bool) (x : ℕ) (req : Bool) (y : ℕ) (o l : LineSet)
    → changes_phase (change_to (connected_bus e) (connected_bus (ends bsy ack atn x e.msg e.cd e.io req y)) o l) ≡ false
phase_same e bsy ack atn x req y o l = λ i. not (same_self e.msg i && same_self e.cd i && same_self e.io i)

-- The agreement holds as long as a data phase lasts.
agreement_in_data : (d : Dialogue) (n : Connection) (c : Change) → c.before.msg ≡ false → c.before.cd ≡ false
    → changes_phase c ≡ false → (dialogue_on d (Some n) c).heard.now.agreement ≡ d.heard.now.agreement
agreement_in_data d n c em ec ep = go (is_some (receiver_of (Some n) c))
  where
    go : (q : Bool)
        → (if q then byte_crosses d c else if changes_phase c then phase_begins d else d).heard.now.agreement
        ≡ d.heard.now.agreement
    go true = λ i. (if em i && ec i && not c.before.io then byte_out d (c.after.data_bits % 256) (not c.after.atn)
        else if em i && ec i && c.before.io then byte_in d (c.after.data_bits % 256)
        else if not (em i) && ec i && not c.before.io then record d {
          heard = heard_with_command d.heard (c.after.data_bits % 256);
          begun = true;
        } else record d { begun = true }).heard.now.agreement
    go false = ap (λ (q : Bool). (if q then phase_begins d else d).heard.now.agreement) ep

pub record InPhaseRow (p q : List Row) (n : Connection) (e f : EndLines) (t : ℕ) : Type 0 where
  pub phase_is : phase_time (line_times q) ≡ phase_time (line_times p)
  pub io_is : (line_times q).io ≡ (line_times p).io
  pub sel_is : (line_times q).sel ≡ (line_times p).sel
  pub req_is : (line_times q).req ≡ newer_line e.req f.req (line_times p).req t
  pub ack_is : (line_times q).ack ≡ newer_line e.ack f.ack (line_times p).ack t
  pub atn_is : (line_times q).atn ≡ newer_line e.atn f.atn (line_times p).atn t
  pub data_is : since data_of q ≡ newer data_of (connected_bus e) (connected_bus f) (since data_of p) t
  pub begun_is : begun q ≡ begun p
  pub turned_is : turned q ≡ turned p
  pub handshakes_are : handshakes q ≡ answered_if (rises e.ack f.ack) t (asked_if (rises e.req f.req) t (handshakes p))
  pub duty_is : (held : Bool) × (duty q ≡ (if falls e.atn f.atn || rises e.req f.req then Duty.Nothing
      else if falls e.ack f.ack && (e.atn && f.atn && held) then duty_if_held (duty p) (connected_bus e) else duty p))
  pub pulses_are : pulses q ≡ record {
    req = count_after (rises e.req f.req) (pulses p).req;
    ack = count_after (rises e.ack f.ack) (pulses p).ack;
    last_req = when (rises e.req f.req) t (pulses p).last_req;
    last_ack = when (rises e.ack f.ack) t (pulses p).last_ack;
  }
  pub receiver_is : receiver q ≡ (if e.io then (if rises e.req f.req then Some n.initiator else None)
      else (if rises e.ack f.ack then Some n.target else None))
  pub agreement_is : e.msg ≡ false → e.cd ≡ false → (dialogue q).heard.now.agreement ≡ (dialogue p).heard.now.agreement

in_phase : (p : List Row) (t d : ℕ) (n : Connection) (e : EndLines)
    (bsy ack atn : Bool) (x : ℕ) (req : Bool) (y : ℕ) (o l : LineSet)
    → TermsAfter p (row_of_lines t d l) n
    (change_to (connected_bus e) (connected_bus (ends bsy ack atn x e.msg e.cd e.io req y)) o l)
    → InPhaseRow p (row_of_lines t d l ∷ p) n e (ends bsy ack atn x e.msg e.cd e.io req y) t
in_phase p t d n e bsy ack atn x req y o l z =
    let f : EndLines = ends bsy ack atn x e.msg e.cd e.io req y in
    let c : Change = change_to (connected_bus e) (connected_bus f) o l in
    let w : LineTimes = line_times p in
    let held : Bool = is_attention_held c w.atn t in
    let ph = phase_same e bsy ack atn x req y o l in
    record {
      phase_is = ap phase_time z.times_are
          ∙ (λ i. max (max (same_line e.msg w.msg t i) (same_line e.cd w.cd t i)) (same_line e.io w.io t i));
      io_is = ap (λ (v : LineTimes). v.io) z.times_are ∙ same_line e.io w.io t;
      sel_is = ap (λ (v : LineTimes). v.sel) z.times_are;
      req_is = ap (λ (v : LineTimes). v.req) z.times_are;
      ack_is = ap (λ (v : LineTimes). v.ack) z.times_are;
      atn_is = ap (λ (v : LineTimes). v.atn) z.times_are;
      data_is = z.data_is;
      begun_is = z.begun_is ∙ ap (λ (r : Bool). r || begun p) ph;
      turned_is = z.turned_is ∙ ap (λ (r : Bool). turned p || r) (no_rise e.io) ∙ or_false (turned p);
      handshakes_are = z.handshakes_are ∙ ap (λ (r : Bool). if r then no_handshakes
          else answered_if (rises e.ack ack) t (asked_if (rises e.req req) t (handshakes p))) ph;
      duty_is = (
        nat_le (w.atn + 90) t,
        z.duty_is ∙ ap (λ (r : Bool). if falls e.atn atn || rises e.req req then Duty.Nothing
            else if falls e.ack ack && held then duty_if_held (duty p) (connected_bus e)
            else if r then duty_left (duty p) else duty p) ph,
      );
      pulses_are = z.pulses_are ∙ ap (λ (r : Bool). if r then no_pulses else pulses_on (pulses p) c t) ph;
      receiver_is = z.receiver_is;
      agreement_is = λ em ec. ap (λ (v : Dialogue). v.heard.now.agreement) z.dialogue_is
          ∙ agreement_in_data (dialogue p) n c em ec ph;
    }

-- The same of a row of the initiator, and of a row of the target that leaves the phase lines as they are.
pub initiator_in_phase : (p : List Row) (n : Connection) (e : EndLines) (bsy ack atn : Bool) (x t : ℕ) → Linked p n e
    → InPhaseRow p (row_of_lines t n.initiator (initiator_side (ends bsy ack atn x e.msg e.cd e.io e.req e.given)) ∷ p)
    n e (ends bsy ack atn x e.msg e.cd e.io e.req e.given) t
initiator_in_phase p n e bsy ack atn x t h = in_phase p t n.initiator n e bsy ack atn x e.req e.given _ _
    (terms_of p _ n e _ _ _ h (initiator_moves p n e bsy ack atn x t h))

pub target_in_phase : (p : List Row) (n : Connection) (e : EndLines) (req : Bool) (y t : ℕ) → Linked p n e
    → InPhaseRow p (row_of_lines t n.target (target_side (ends e.bsy e.ack e.atn e.sent e.msg e.cd e.io req y)) ∷ p) n e
    (ends e.bsy e.ack e.atn e.sent e.msg e.cd e.io req y) t
target_in_phase p n e req y t h = in_phase p t n.target n e e.bsy e.ack e.atn e.sent req y _ _
    (terms_of p _ n e _ _ _ h (target_moves p n e e.msg e.cd e.io req y t h))

-- What a row of a connection does, by what its ends drive: a byte that crosses is the one that is due, and a phase is
-- left where no byte follows.
use Rattle.row_laws.proofs
use proofs.Names.{ℕ, ◌≡◌, ◌<◌, ◌⊎◌, inl, inr, Bool, true, false, not, ◌&&◌, ◌||◌, ◌==◌, ◌%◌, ◌∙◌, List, ◌∷◌, length}
use proofs.Names.{Option, Some, None, refl, sym, ap, subst, or_zero_r, bit_or, count_ones, if◌then◌else◌, is_some}
use proofs.Names.{nat_lt, wrong, wrong', not_first, and_second, byte_odd, byte_back, same_self, change_of, rises}
use proofs.Names.{LineSet, none, has_odd_parity, changes_phase, is_message_out, is_message_in, connection, receiver_in}
use proofs.Names.{bus, drives, last_time, Row, Change, Connection, handshakes, dialogue, ScenarioValue, byte_bits}
use proofs.Names.{bits_if, offering_by, is_pulsed_phase, bytes_of_messages, attends_with, begun, Serving, phase_of}
use proofs.Names.{phase_leaving, leaving_by, lines_by, byte_to_send, Leaving, Phase, run_state_plain, AreOfDevices}
use proofs.Names.{run_state, serving_at, sending_of, leaving, offering_of, answering_of, IsOver, IsRowIn, still}
use proofs.Names.{strikes, crosses, turns, change_plain, fault_change, EndLines, initiator_side, target_side}
use proofs.Names.{connected_bus, Linked, ends_selected, row_of_lines, row_of_fault, change_to, offering_with}
use proofs.Names.{answering_with, same_phases, phase_same, no_rise, leaves_lines, may_leave, ends}
use proofs.{Common.Tests.{none_both}, Lines.Driven.{message_at, message_follows, Driven, no_third}}
use proofs.Lines.{InPhase.{offered_in, follows_in_message}, Kept.{EndRow, turn, row_in, initiator_end, target_end}}
use proofs.Lines.{Rows.{LinkRow, is_pulsed, is_unasked}, Steps.{IsDriven, HasValues}, Turns.{freed_bus}}
use proofs.Lines.Turns.{freed_connection}
use Rattle.book_laws.specs.Reactions.{IsAnswered}
use Rattle.due_model.specs.reaction_model.specs.declared.ends.Offering.{Offering}
use Rattle.row_laws.proofs.Lines.Rows as rows

-- The connection goes on with the row.
pub record Goes (s : ScenarioValue) (p : List Row) (row : Row) (n : Connection) : Type 0 where
  pub change : Change
  pub row_is : IsRowIn (run_state s p) row n change
  pub answered : IsAnswered s (run_state s p) n change
  pub offered : is_message_in change.before ≡ true → is_some (receiver_in n change) ≡ true
      → change.after.data_bits % 256 ≡ message_at s p
  pub follows : is_message_in change.before ≡ true → is_some (receiver_in n change) ≡ true → (is_unasked p ≡ true)
      ⊎ (nat_lt (handshakes p).requests (length (bytes_of_messages (run_state s p).exchange.plan.messages)) ≡ true)
  pub begun_is : is_some (receiver_in n change) ≡ true → begun p ≡ true
  pub first : changes_phase change ≡ true → begun p ≡ false → is_message_out change.after ≡ true
  pub over : changes_phase change ≡ true → begun p ≡ true → IsOver s (run_state s p) n
  pub whereto : changes_phase change ≡ true → begun p ≡ true
      → (leaving s (run_state s p) n.target).to ≡ Some (phase_of change.after)
  pub odd : is_some (receiver_in n change) ≡ true → has_odd_parity change.after ≡ true

-- It ends with the row.
pub record Stops (s : ScenarioValue) (p : List Row) (row : Row) (n : Connection) : Type 0 where
  pub stopped : connection (row ∷ p) ≡ None
  pub begun_is : begun p ≡ true
  pub carries : is_some (receiver_in n (change_of p row)) ≡ false
  pub low : (bus p).req ≡ false
  pub over : IsOver s (run_state s p) n
  pub whereto : (leaving s (run_state s p) n.target).to ≡ None

pub data RowFacts (s : ScenarioValue) (p : List Row) (row : Row) (n : Connection) : Type 0 where
  stays : Goes s p row n → RowFacts s p row n
  ends_here : Stops s p row n → RowFacts s p row n

-- ---- what is known is what the ends go by

pub offering_is : (s : ScenarioValue) (p : List Row) (n : Connection) (e : EndLines) → AreOfDevices p → Linked p n e
    → begun p ≡ true → offering_of s (run_state s p) n.target ≡ offering_with s p n true e
offering_is s p n e dv h b =
    let k = run_state s p in
    let a = run_state_plain s p dv in
    let w = a.bus ∙ h.stands.bus_is in
    let g = a.begun ∙ b in
    λ i. offering_by (serving_at s k n.target (phase_of (w i))) (g i)
    (is_pulsed_phase (g i) (w i) (a.dialogue i).heard.now.agreement) (w i) (a.handshakes i)

pub leaving_is : (s : ScenarioValue) (p : List Row) (n : Connection) (e : EndLines) → AreOfDevices p
    → Linked p n e → begun p ≡ true → leaving s (run_state s p) n.target ≡ phase_leaving
    (serving_at s (run_state s p) n.target (phase_of (connected_bus e))) e.atn (phase_of (connected_bus e))
leaving_is s p n e dv h b =
    let k = run_state s p in
    let a = run_state_plain s p dv in
    let w = a.bus ∙ h.stands.bus_is in
    λ i. leaving_by (serving_at s k n.target (phase_of (w i))) ((a.begun ∙ b) i) (w i)

pub byte_is : (s : ScenarioValue) (p : List Row) (n : Connection) (e : EndLines) → AreOfDevices p → Linked p n e
    → (answering_of s (run_state s p) n.initiator).byte ≡ (answering_with s p n e).byte
byte_is s p n e dv h =
    let k = run_state s p in
    ap (λ (l : LineSet). byte_to_send l k.exchange.speech (sending_of s k))
    ((run_state_plain s p dv).bus ∙ h.stands.bus_is)

message_unpulsed : (m c i r : Bool) → (m && c && not i) ≡ true → (true && (not m && not c) && r) ≡ false
message_unpulsed true c i r e = refl
message_unpulsed false c i r e = wrong' e

-- ---- rows with which no byte crosses

pub no_byte : {A : Type 0} (o : Option ℕ) → o ≡ None → is_some o ≡ true → A
no_byte o e z = wrong' (sym (ap (λ (x : Option ℕ). is_some x) e) ∙ z)

silent : (s : ScenarioValue) (p : List Row) (t d : ℕ) (l : LineSet) (n : Connection) (e f : EndLines) (o : LineSet)
    → EndRow s p t d l n e f o → changes_phase (turn e f o l) ≡ false → receiver_in n (turn e f o l) ≡ None
    → RowFacts s p (row_of_lines t d l) n
silent s p t d l n e f o r ep er = stays (record {
  change = turn e f o l;
  row_is = row_in s p t d l n e f o r (still refl ep er);
  answered = record { byte_is = λ a z. no_byte _ er z; attends_is = λ a z. no_byte _ er z };
  offered = λ a z. no_byte _ er z;
  follows = λ a z. no_byte _ er z;
  begun_is = λ z. no_byte _ er z;
  first = λ z b. wrong' (sym ep ∙ z);
  over = λ z b. wrong' (sym ep ∙ z);
  whereto = λ z b. wrong' (sym ep ∙ z);
  odd = λ z. no_byte _ er z;
})

turning : (s : ScenarioValue) (p : List Row) (t d : ℕ) (l : LineSet) (n : Connection) (e f : EndLines) (o : LineSet)
    → EndRow s p t d l n e f o → changes_phase (turn e f o l) ≡ true → receiver_in n (turn e f o l) ≡ None
    → (begun p ≡ false → is_message_out (connected_bus f) ≡ true) → (begun p ≡ true → IsOver s (run_state s p) n)
    → (begun p ≡ true → (leaving s (run_state s p) n.target).to ≡ Some (phase_of (connected_bus f)))
    → RowFacts s p (row_of_lines t d l) n
turning s p t d l n e f o r ep er first over to = stays (record {
  change = turn e f o l;
  row_is = row_in s p t d l n e f o r (turns refl ep er);
  answered = record { byte_is = λ a z. no_byte _ er z; attends_is = λ a z. no_byte _ er z };
  offered = λ a z. no_byte _ er z;
  follows = λ a z. no_byte _ er z;
  begun_is = λ z. no_byte _ er z;
  first = λ z b. first b;
  over = λ z b. over b;
  whereto = λ z b. to b;
  odd = λ z. no_byte _ er z;
})

fault_facts : (s : ScenarioValue) (p : List Row) (t d bit : ℕ) (n : Connection) (e : EndLines) → AreOfDevices p → d < 8
    → Linked p n e → RowFacts s p (row_of_fault t d bit) n
fault_facts s p t d bit n e dv lt h =
    let b : LineSet = connected_bus e in
    let c : Change = change_to b b (drives p d) (drives p d) in
    let a = run_state_plain s p dv in
    let ep : changes_phase c ≡ false = λ i. not (same_self e.msg i && same_self e.cd i && same_self e.io i) in
    let er : receiver_in n c ≡ None = (λ i. if e.io then (if no_rise e.req i then Some n.initiator else None)
    else (if no_rise e.ack i then Some n.target else None)) ∙ none_both e.io in
    stays (record {
      change = c;
      row_is = record {
        connection_is = a.connection ∙ h.stands.connection_is;
        change_is =
            change_plain s (row_of_fault t d bit) p dv lt ∙ fault_change p t d bit b (drives p d) h.stands.bus_is refl;
        bus_is = a.bus ∙ h.stands.bus_is;
        stands = refl;
        calm = refl;
        kind = strikes refl ep er;
      };
      answered = record { byte_is = λ x z. no_byte _ er z; attends_is = λ x z. no_byte _ er z };
      offered = λ x z. no_byte _ er z;
      follows = λ x z. no_byte _ er z;
      begun_is = λ z. no_byte _ er z;
      first = λ z x. wrong' (sym ep ∙ z);
      over = λ z x. wrong' (sym ep ∙ z);
      whereto = λ z x. wrong' (sym ep ∙ z);
      odd = λ z. no_byte _ er z;
    })

-- ---- a byte crosses to the initiator

crosses_in :
    (s : ScenarioValue) (p : List Row) (t : ℕ) (n : Connection) (bsy ack atn : Bool) (x : ℕ) (msg cd : Bool) (y : ℕ)
    → AreOfDevices p → Linked p n (ends bsy ack atn x msg cd true false y) → x ≡ 0 → begun p ≡ true
    → ((msg && cd && true) ≡ true → y % 256 ≡ message_at s p) → ((msg && cd && true) ≡ true → (is_unasked p ≡ true)
    ⊎ (nat_lt (handshakes p).requests (length (bytes_of_messages (run_state s p).exchange.plan.messages)) ≡ true))
    → (count_ones y % 2 == 1) ≡ true
    → RowFacts s p (row_of_lines t n.target (target_side (ends bsy ack atn x msg cd true true y))) n
crosses_in s p t n bsy ack atn x msg cd y dv h zero b says follows odd =
    let e : EndLines = ends bsy ack atn x msg cd true false y in
    let f : EndLines = ends bsy ack atn x msg cd true true y in
    let bits : (connected_bus f).data_bits ≡ y = ap (λ (w : ℕ). bit_or w y) zero in
    stays (record {
      change = turn e f (target_side e) (target_side f);
      row_is = row_in s p t n.target (target_side f) n e f
          (target_side e) (target_end s p t n e msg cd true true y dv h)
          (crosses n.initiator refl (phase_same e bsy ack atn x true y (target_side e) (target_side f)) refl);
      answered = record { byte_is = λ a z. wrong a; attends_is = λ a z. wrong' (sym (no_out msg cd) ∙ a) };
      offered = λ a z. ap (λ (w : ℕ). w % 256) bits ∙ says a;
      follows = λ a z. follows a;
      begun_is = λ z. b;
      first = λ z w. wrong (sym b ∙ w);
      over = λ z w. wrong' (sym (phase_same e bsy ack atn x true y (target_side e) (target_side f)) ∙ z);
      whereto = λ z w. wrong' (sym (phase_same e bsy ack atn x true y (target_side e) (target_side f)) ∙ z);
      odd = λ z. ap (λ (w : ℕ). count_ones w % 2 == 1) bits ∙ odd;
    })
  where
    no_out : (m c : Bool) → (m && c && false) ≡ false
    no_out true true = refl
    no_out true false = refl
    no_out false c = refl

-- ---- a byte crosses to the target

crosses_out : (s : ScenarioValue) (p : List Row) (t : ℕ) (n : Connection) (atn : Bool) (x : ℕ) (msg cd req : Bool)
    → AreOfDevices p → Linked p n (ends false false atn x msg cd false req 0) → begun p ≡ true
    → (answering_with s p n (ends false false atn x msg cd false req 0)).byte < 256
    → x ≡ byte_bits (answering_with s p n (ends false false atn x msg cd false req 0)).byte
    → ((msg && cd && true) ≡ true → atn ≡ attends_with (run_state s p).exchange.speech)
    → RowFacts s p (row_of_lines t n.initiator (initiator_side (ends false true atn x msg cd false req 0))) n
crosses_out s p t n atn x msg cd req dv h b small byte asks =
    let e : EndLines = ends false false atn x msg cd false req 0 in
    let f : EndLines = ends false true atn x msg cd false req 0 in
    let g = answering_with s p n e in
    let bits : (connected_bus f).data_bits ≡ byte_bits g.byte = or_zero_r x ∙ byte in
    stays (record {
      change = turn e f (initiator_side e) (initiator_side f);
      row_is = row_in s p t n.initiator (initiator_side f) n e f
          (initiator_side e) (initiator_end s p t n e false true atn x dv h)
          (crosses n.target refl (phase_same e false true atn x req 0 (initiator_side e) (initiator_side f)) refl);
      answered = record {
        byte_is = λ a z. ap (λ (w : ℕ). w % 256) bits ∙ byte_back g.byte small ∙ sym (byte_is s p n e dv h);
        attends_is = λ a z. asks a;
      };
      offered = λ a z. wrong' (sym (no_in msg cd) ∙ a);
      follows = λ a z. wrong' (sym (no_in msg cd) ∙ a);
      begun_is = λ z. b;
      first = λ z w. wrong (sym b ∙ w);
      over = λ z w. wrong' (sym (phase_same e false true atn x req 0 (initiator_side e) (initiator_side f)) ∙ z);
      whereto = λ z w. wrong' (sym (phase_same e false true atn x req 0 (initiator_side e) (initiator_side f)) ∙ z);
      odd = λ z. ap (λ (w : ℕ). count_ones w % 2 == 1) bits ∙ byte_odd g.byte small;
    })
  where
    no_in : (m c : Bool) → (m && c && false) ≡ false
    no_in true true = refl
    no_in true false = refl
    no_in false c = refl

-- ---- a phase is left

over_by : (s : ScenarioValue) (p : List Row) (n : Connection) (atn msg cd io : Bool) (x y : ℕ)
    → AreOfDevices p → Linked p n (ends false false atn x msg cd io false y) → begun p ≡ true
    → (is_pulsed p (ends false false atn x msg cd io false y) ≡ false → x ≡ 0)
    → (offering_with s p n true (ends false false atn x msg cd io false y)).follows ≡ false
    → Driven s p n (ends false false atn x msg cd io false y) → IsOver s (run_state s p) n
over_by s p n atn msg cd io x y dv h b zero f d =
    let e : EndLines = ends false false atn x msg cd io false y in
    let a = run_state_plain s p dv in
    let on = a.bus ∙ h.stands.bus_is in
    record {
      follows = ap (λ (g : Offering). g.follows) (offering_is s p n e dv h b) ∙ f;
      attention = λ z.
          let out : is_message_out (connected_bus e) ≡ true = sym (ap is_message_out on) ∙ z in
          let none : x ≡ 0 = zero (message_unpulsed msg cd io (nat_lt 0 (dialogue p).heard.now.agreement.offset) out) in
          ap (λ (l : LineSet). l.atn) on ∙ d.attention out (ap (λ (w : ℕ). w == 0 || false) none)
          ∙ (λ i. not (sym a.dialogue i).is_last);
    }

turns_to : (s : ScenarioValue) (p : List Row) (t : ℕ) (n : Connection)
    (atn msg cd io : Bool) (x y : ℕ) (msg' cd' io' : Bool) (z : ℕ)
    → AreOfDevices p → Linked p n (ends false false atn x msg cd io false y) → begun p ≡ true
    → same_phases msg cd io msg' cd' io' ≡ false → IsOver s (run_state s p) n → (leaving s (run_state s p) n.target).to
    ≡ Some (phase_of (connected_bus (ends false false atn x msg' cd' io' false z)))
    → RowFacts s p (row_of_lines t n.target (target_side (ends false false atn x msg' cd' io' false z))) n
turns_to s p t n atn msg cd io x y msg' cd' io' z dv h b differs over to =
    let e : EndLines = ends false false atn x msg cd io false y in
    let f : EndLines = ends false false atn x msg' cd' io' false z in
    turning s p t n.target (target_side f) n e f (target_side e) (target_end s p t n e msg' cd' io' false z dv h)
    (ap not differs) (none_both io) (λ w. wrong (sym b ∙ w)) (λ w. over) (λ w. to)

stops : (s : ScenarioValue) (p : List Row) (t : ℕ) (n : Connection) (atn msg cd io : Bool) (x y : ℕ)
    → Linked p n (ends false false atn x msg cd io false y) → begun p ≡ true → IsOver s (run_state s p) n
    → (leaving s (run_state s p) n.target).to ≡ None → RowFacts s p (row_of_lines t n.target none) n
stops s p t n atn msg cd io x y h b over to =
    let e : EndLines = ends false false atn x msg cd io false y in
    ends_here (record {
      low = ap (λ (l : LineSet). l.req) h.stands.bus_is;
      stopped = freed_connection p t n e refl h;
      begun_is = b;
      carries = (λ i. is_some
          (receiver_in n (change_to (h.stands.bus_is i) (freed_bus p t n e h i) (drives p n.target) none)))
          ∙ ap (λ (o : Option ℕ). is_some o) (none_both io);
      over = over;
      whereto = to;
    })

leaves_in : (s : ScenarioValue) (p : List Row) (t : ℕ) (n : Connection)
    (atn msg cd : Bool) (x y : ℕ) (v : Serving) (l : Leaving) (o : Option Phase)
    → AreOfDevices p → Linked p n (ends false false atn x msg cd true false y) → begun p ≡ true
    → IsOver s (run_state s p) n → may_leave msg cd true atn o ≡ true → (leaving s (run_state s p) n.target).to ≡ o
    → RowFacts s p (row_of_lines t n.target (lines_by v true l o)) n
leaves_in s p t n atn msg cd x y v l None dv h b over m to = stops s p t n atn msg cd true x y h b over to
leaves_in s p t n atn msg cd x y v l (Some Phase.DataOut) dv h b over m to = turns_to s p t n atn msg cd true x y false
    false false 0 dv h b (not_first (same_phases msg cd true false false false) _ m) over to
leaves_in s p t n atn msg cd x y v l (Some Phase.Command) dv h b over m to = turns_to s p t n atn msg cd true x y false
    true false 0 dv h b (not_first (same_phases msg cd true false true false) _ m) over to
leaves_in s p t n atn msg cd x y v l (Some Phase.MessageOut) dv h b over m to = turns_to s p t n atn msg cd true x y
    true true false 0 dv h b (not_first (same_phases msg cd true true true false) _ m) over to
leaves_in s p t n atn msg cd x y v l (Some Phase.DataIn) dv h b over m to = turns_to s p t n atn msg cd true x y false
    false true _ dv h b (not_first (same_phases msg cd true false false true) _ m) over to
leaves_in s p t n atn msg cd x y v l (Some Phase.Status) dv h b over m to = turns_to s p t n atn msg cd true x y false
    true true _ dv h b (not_first (same_phases msg cd true false true true) _ m) over to
leaves_in s p t n atn msg cd x y v l (Some Phase.MessageIn) dv h b over m to = turns_to s p t n atn msg cd true x y true
    true true _ dv h b (not_first (same_phases msg cd true true true true) _ m) over to

leaves_out : (s : ScenarioValue) (p : List Row) (t : ℕ) (n : Connection)
    (atn msg cd : Bool) (x y : ℕ) (v : Serving) (l : Leaving) (o : Option Phase)
    → AreOfDevices p → Linked p n (ends false false atn x msg cd false false y) → begun p ≡ true
    → IsOver s (run_state s p) n → may_leave msg cd false atn o ≡ true → (leaving s (run_state s p) n.target).to ≡ o
    → RowFacts s p (row_of_lines t n.target (lines_by v false l o)) n
leaves_out s p t n atn msg cd x y v l None dv h b over m to = stops s p t n atn msg cd false x y h b over to
leaves_out s p t n atn msg cd x y v l (Some Phase.DataOut) dv h b over m to = turns_to s p t n atn msg cd false x y
    false false false 0 dv h b (not_first (same_phases msg cd false false false false) _ m) over to
leaves_out s p t n atn msg cd x y v l (Some Phase.Command) dv h b over m to = turns_to s p t n atn msg cd false x y
    false true false 0 dv h b (not_first (same_phases msg cd false false true false) _ m) over to
leaves_out s p t n atn msg cd x y v l (Some Phase.MessageOut) dv h b over m to = turns_to s p t n atn msg cd false x y
    true true false 0 dv h b (not_first (same_phases msg cd false true true false) _ m) over to
leaves_out s p t n atn msg cd x y v l (Some Phase.DataIn) dv h b over m to = turns_to s p t n atn msg cd false x y false
    false true 0 dv h b (not_first (same_phases msg cd false false false true) _ m) over to
leaves_out s p t n atn msg cd x y v l (Some Phase.Status) dv h b over m to = turns_to s p t n atn msg cd false x y false
    true true 0 dv h b (not_first (same_phases msg cd false false true true) _ m) over to
leaves_out s p t n atn msg cd x y v l (Some Phase.MessageIn) dv h b over m to = turns_to s p t n atn msg cd false x y
    true true true 0 dv h b (not_first (same_phases msg cd false true true true) _ m) over to

leaving_facts : (s : ScenarioValue) (p : List Row) (t : ℕ) (n : Connection) (atn msg cd io : Bool) (x y : ℕ)
    → AreOfDevices p → Linked p n (ends false false atn x msg cd io false y)
    → begun p ≡ true → (msg && not cd) ≡ false → IsOver s (run_state s p) n
    → RowFacts s p (row_of_lines t n.target (offering_with s p n true (ends false false atn x msg cd io false y)).to) n
leaving_facts s p t n atn msg cd true x y dv h b known over =
    let e : EndLines = ends false false atn x msg cd true false y in
    let v : Serving = serving_at s (run_state s p) n.target (phase_of (connected_bus e)) in
    let l : Leaving = phase_leaving v atn (phase_of (connected_bus e)) in
    leaves_in s p t n atn msg cd x y v l l.to dv h b over (leaves_lines v msg cd true atn x y known)
    (ap (λ (w : Leaving). w.to) (leaving_is s p n e dv h b))
leaving_facts s p t n atn msg cd false x y dv h b known over =
    let e : EndLines = ends false false atn x msg cd false false y in
    let v : Serving = serving_at s (run_state s p) n.target (phase_of (connected_bus e)) in
    let l : Leaving = phase_leaving v atn (phase_of (connected_bus e)) in
    leaves_out s p t n atn msg cd x y v l l.to dv h b over (leaves_lines v msg cd false atn x y known)
    (ap (λ (w : Leaving). w.to) (leaving_is s p n e dv h b))

-- ---- REQ rises

-- The byte of a message that is offered is a byte.
message_small :
    (s : ScenarioValue) (p : List Row) (n : Connection) (bsy ack atn : Bool) (x : ℕ) (msg cd io req : Bool) (y : ℕ)
    → (offering_with s p n true (ends bsy ack atn x msg cd io req y)).byte < 256 → (msg && cd && io) ≡ true
    → message_at s p < 256
message_small s p n bsy ack atn x msg cd true req y h a =
    subst (λ (w : ℕ). w < 256) (offered_in s p n bsy ack atn x msg cd req y a) h
message_small s p n bsy ack atn x msg cd false req y h a = absurd (no_third msg cd a)

first_asked : (s : ScenarioValue) (p : List Row) (t : ℕ) (n : Connection) (bsy atn msg cd io : Bool) (y : ℕ)
    → AreOfDevices p → Linked p n (ends bsy false atn 0 msg cd io false y)
    → begun p ≡ true → is_unasked p ≡ true → rows.has_first p io y ≡ true
    → ((msg && cd && io) ≡ true → message_at s p < 256) → Driven s p n (ends bsy false atn 0 msg cd io false y)
    → RowFacts s p (row_of_lines t n.target (target_side (ends bsy false atn 0 msg cd io true y))) n
first_asked s p t n bsy atn msg cd true y dv h b un first small d = crosses_in s p t n bsy false atn 0 msg cd y
    dv h refl b (λ a. ap (λ (w : ℕ). w % 256) (d.first_in a refl un first) ∙ byte_back (message_at s p) (small a))
    (λ a. inl un) (d.first_odd refl refl un first)
first_asked s p t n bsy atn msg cd false y dv h b un first small d =
    let e : EndLines = ends bsy false atn 0 msg cd false false y in
    let f : EndLines = ends bsy false atn 0 msg cd false true y in
    silent s p t n.target (target_side f) n e f (target_side e) (target_end s p t n e msg cd false true y dv h)
    (phase_same e bsy false atn 0 true y (target_side e) (target_side f)) refl

next_asked : (s : ScenarioValue) (p : List Row) (t : ℕ) (n : Connection) (atn msg cd io : Bool) (y : ℕ)
    → AreOfDevices p → Linked p n (ends false false atn 0 msg cd io false y) → begun p ≡ true
    → is_unasked p ≡ false → is_pulsed p (ends false false atn 0 msg cd io false y) ≡ false
    → (offering_with s p n true (ends false false atn 0 msg cd io false y)).follows ≡ true
    → ((msg && cd && io) ≡ true → message_at s p < 256) → Driven s p n (ends false false atn 0 msg cd io false y)
    → RowFacts s p (row_of_lines t n.target (target_side (ends false false atn 0 msg cd io true y))) n
next_asked s p t n atn msg cd true y dv h b un pulsed follows small d =
    let goes : (msg && cd && true) ≡ true → message_follows s p atn ≡ true =
    λ a. sym (follows_in_message s p n false false atn 0 msg cd false y a) ∙ follows in
    crosses_in s p t n false false atn 0 msg cd y dv h refl b
    (λ a. ap (λ (w : ℕ). w % 256) (d.next_in a refl un ∙ ap (λ (q : Bool). bits_if q (message_at s p)) (goes a))
    ∙ byte_back (message_at s p) (small a)) (λ a. inr (and_second _ _ (goes a)))
    (d.next_odd refl refl un pulsed follows)
next_asked s p t n atn msg cd false y dv h b un pulsed follows small d =
    let e : EndLines = ends false false atn 0 msg cd false false y in
    let f : EndLines = ends false false atn 0 msg cd false true y in
    silent s p t n.target (target_side f) n e f (target_side e) (target_end s p t n e msg cd false true y dv h)
    (phase_same e false false atn 0 true y (target_side e) (target_side f)) refl

pulse_asked : (s : ScenarioValue) (p : List Row) (t : ℕ) (n : Connection) (io ack atn : Bool) (x y : ℕ)
    → AreOfDevices p → Linked p n (ends false ack atn x false false io false y) → begun p ≡ true → (io ≡ true → x ≡ 0)
    → (io ≡ true → y ≡ byte_bits (offering_with s p n true (ends false ack atn x false false io false y)).byte)
    → (offering_with s p n true (ends false ack atn x false false io false y)).byte < 256
    → RowFacts s p (row_of_lines t n.target (target_side (ends false ack atn x false false io true y))) n
pulse_asked s p t n true ack atn x y dv h b zero byte small = crosses_in s p t n false ack atn x false false y dv h
    (zero refl) b (λ a. wrong' a) (λ a. wrong' a) (ap (λ (w : ℕ). count_ones w % 2 == 1) (byte refl)
    ∙ byte_odd (offering_with s p n true (ends false ack atn x false false true false y)).byte small)
pulse_asked s p t n false ack atn x y dv h b zero byte small =
    let e : EndLines = ends false ack atn x false false false false y in
    let f : EndLines = ends false ack atn x false false false true y in
    silent s p t n.target (target_side f) n e f (target_side e) (target_end s p t n e false false false true y dv h)
    (phase_same e false ack atn x true y (target_side e) (target_side f))
    (ap (λ (q : Bool). if q then Some n.target else None) (no_rise ack))

-- ---- any row

of_initiator : (s : ScenarioValue) (p : List Row) (t : ℕ) (n : Connection) (e : EndLines) (bsy ack atn : Bool) (x : ℕ)
    → AreOfDevices p → Linked p n e → receiver_in n (turn e (ends bsy ack atn x e.msg e.cd e.io e.req e.given)
    (initiator_side e) (initiator_side (ends bsy ack atn x e.msg e.cd e.io e.req e.given))) ≡ None
    → RowFacts s p (row_of_lines t n.initiator (initiator_side (ends bsy ack atn x e.msg e.cd e.io e.req e.given))) n
of_initiator s p t n e bsy ack atn x dv h er = silent s p t n.initiator (initiator_side
    (ends bsy ack atn x e.msg e.cd e.io e.req e.given)) n e (ends bsy ack atn x e.msg e.cd e.io e.req e.given)
    (initiator_side e) (initiator_end s p t n e bsy ack atn x dv h) (phase_same e bsy ack atn x e.req e.given
    (initiator_side e) (initiator_side (ends bsy ack atn x e.msg e.cd e.io e.req e.given))) er

of_target : (s : ScenarioValue) (p : List Row) (t : ℕ) (n : Connection) (e : EndLines) (req : Bool) (y : ℕ)
    → AreOfDevices p → Linked p n e → receiver_in n (turn e (ends e.bsy e.ack e.atn e.sent e.msg e.cd e.io req y)
    (target_side e) (target_side (ends e.bsy e.ack e.atn e.sent e.msg e.cd e.io req y))) ≡ None
    → RowFacts s p (row_of_lines t n.target (target_side (ends e.bsy e.ack e.atn e.sent e.msg e.cd e.io req y))) n
of_target s p t n e req y dv h er = silent s p t n.target (target_side
    (ends e.bsy e.ack e.atn e.sent e.msg e.cd e.io req y)) n e (ends e.bsy e.ack e.atn e.sent e.msg e.cd e.io req y)
    (target_side e) (target_end s p t n e e.msg e.cd e.io req y dv h) (phase_same e e.bsy e.ack e.atn e.sent req y
    (target_side e) (target_side (ends e.bsy e.ack e.atn e.sent e.msg e.cd e.io req y))) er

still_req : (n : Connection) (req : Bool) → (if rises req req then Some n.initiator else None) ≡ None
still_req n req = ap (λ (q : Bool). if q then Some n.initiator else None) (no_rise req)

pub no_pulse : (n : Connection) (io req : Bool)
    → (if io then (if rises req req then Some n.initiator else None) else None) ≡ None
no_pulse n true req = still_req n req
no_pulse n false req = refl

pub no_answer : (n : Connection) (io ack : Bool)
    → (if io then None else (if rises ack ack then Some n.target else None)) ≡ None
no_answer n true ack = refl
no_answer n false ack = ap (λ (q : Bool). if q then Some n.target else None) (no_rise ack)

opened_facts : (s : ScenarioValue) (p : List Row) (t : ℕ) (n : Connection)
    → AreOfDevices p → Linked p n ends_selected → begun p ≡ false
    → RowFacts s p (row_of_lines t n.target (target_side (ends false false true 0 true true false false 0))) n
opened_facts s p t n dv h b =
    let f : EndLines = ends false false true 0 true true false false 0 in
    turning s p t n.target (target_side f) n ends_selected f (target_side ends_selected)
    (target_end s p t n ends_selected true true false false 0 dv h) refl refl (λ z. refl) (λ z. wrong (sym z ∙ b))
    (λ z. wrong (sym z ∙ b))

who_below : (n : Connection) (io : Bool) (d : ℕ) → n.initiator < 8 → n.target < 8
    → d ≡ (if io then n.initiator else n.target) → d < 8
who_below n true d a b e = subst (λ (w : ℕ). w < 8) (sym e) a
who_below n false d a b e = subst (λ (w : ℕ). w < 8) (sym e) b

pub row_facts : (s : ScenarioValue) (p : List Row) (row : Row) (n : Connection) → AreOfDevices p → HasValues s p n
    → IsDriven s p n → LinkRow s p n row → RowFacts s p row n
row_facts s p row n dv v d (rows.opens h b e) =
    subst (λ (w : Row). RowFacts s p w n) (sym e) (opened_facts s p row.time n dv h b)
row_facts s p row n dv v d (rows.strikes f bit h b got who e) = subst (λ (w : Row). RowFacts s p w n) (sym e)
    (fault_facts s p (last_time p) row.dev bit n f dv (who_below n f.io row.dev h.initiator_below h.target_below who) h)
row_facts s p row n dv v d (rows.hands atn msg cd io y h b un e) = subst (λ (w : Row). RowFacts s p w n) (sym e)
    (of_initiator s p row.time n (ends true false atn 0 msg cd io false y) false false atn 0 dv h (none_both io))
row_facts s p row n dv v d (rows.releases atn x msg cd h b un e) = subst (λ (w : Row). RowFacts s p w n) (sym e)
    (of_initiator s p row.time n (ends false false atn x msg cd true false 0) false false atn 0 dv h refl)
row_facts s p row n dv v d (rows.answers atn to msg cd y h b un rose e) = subst (λ (w : Row). RowFacts s p w n) (sym e)
    (of_initiator s p row.time n (ends false false atn 0 msg cd true true y) false true to 0 dv h refl)
row_facts s p row n dv v d (rows.ends_ack_in atn msg cd y h b un z e) = subst (λ (w : Row). RowFacts s p w n) (sym e)
    (of_initiator s p row.time n (ends false true atn 0 msg cd true false y) false false atn 0 dv h refl)
row_facts s p row n dv v d (rows.gives atn msg cd h b z e) = subst (λ (w : Row). RowFacts s p w n) (sym e)
    (of_initiator s p row.time n (ends false false atn 0 msg cd false true 0) false false _ _ dv h refl)
row_facts s p row n dv v d (rows.sends atn msg cd x h b z some e) =
    let f : EndLines = ends false false atn x msg cd false true 0 in
    subst (λ (w : Row). RowFacts s p w n) (sym e) (crosses_out s p row.time n atn x msg cd true dv h b
    (v f h b).answered ((d f h b).said refl refl refl z some) (λ a. (d f h b).attends a refl refl some))
row_facts s p row n dv v d (rows.ends_ack_out atn msg cd x h b e) = subst (λ (w : Row). RowFacts s p w n) (sym e)
    (of_initiator s p row.time n (ends false true atn x msg cd false false 0) false false atn 0 dv h refl)
row_facts s p row n dv v d (rows.answers_pulse req atn to y h b un z rose e) = subst
    (λ (w : Row). RowFacts s p w n) (sym e)
    (of_initiator s p row.time n (ends false false atn 0 false false true req y) false true to 0 dv h (still_req n req))
row_facts s p row n dv v d (rows.ends_ack_pulse io req atn x y h b un z e) =
    subst (λ (w : Row). RowFacts s p w n) (sym e) (of_initiator s p row.time n
    (ends false true atn x false false io req y) false false atn x dv h (no_pulse n io req))
row_facts s p row n dv v d (rows.drives_pulsed req atn x y h b z e) = subst (λ (w : Row). RowFacts s p w n) (sym e)
    (of_initiator s p row.time n (ends false false atn x false false false req 0) false false atn y dv h refl)
row_facts s p row n dv v d (rows.sends_pulse req atn x h b z byte e) =
    subst (λ (w : Row). RowFacts s p w n) (sym e) (crosses_out s p row.time n atn x false false req dv h b
    (v (ends false false atn x false false false req 0) h b).answered byte (λ a. wrong' a))
row_facts s p row n dv v d (rows.offers atn x msg cd h b un e) = subst (λ (w : Row). RowFacts s p w n) (sym e)
    (of_target s p row.time n (ends false false atn x msg cd true false 0) false _ dv h refl)
row_facts s p row n dv v d (rows.asks_first bsy atn msg cd io y h b un first e) =
    subst (λ (w : Row). RowFacts s p w n) (sym e) (first_asked s p row.time n bsy atn msg cd io y dv h b un first
    (message_small s p n bsy false atn 0 msg cd io false y (v _ h b).offered) (d _ h b))
row_facts s p row n dv v d (rows.ends_req atn msg cd io x y h b un z e) = subst (λ (w : Row). RowFacts s p w n) (sym e)
    (of_target s p row.time n (ends false true atn x msg cd io true y) false _ dv h (none_both io))
row_facts s p row n dv v d (rows.asks_next atn msg cd io y h b un z follows e) =
    subst (λ (w : Row). RowFacts s p w n) (sym e) (next_asked s p row.time n atn msg cd io y dv h b un z follows
    (message_small s p n false false atn 0 msg cd io false y (v _ h b).offered) (d _ h b))
row_facts s p row n dv v d (rows.leaves atn msg cd io x y h b known un zero follows e) =
    subst (λ (w : Row). RowFacts s p w n) (sym e) (leaving_facts s p row.time n atn msg cd io x y dv h b known
    (over_by s p n atn msg cd io x y dv h b zero.0 follows (d _ h b)))
row_facts s p row n dv v d (rows.ends_req_pulse io ack atn x y h b un z e) = subst (λ (w : Row). RowFacts s p w n)
    (sym e) (of_target s p row.time n (ends false ack atn x false false io true y) false y dv h (no_answer n io ack))
row_facts s p row n dv v d (rows.changes_pulsed ack atn y z h b un pulsed e) = subst (λ (w : Row). RowFacts s p w n)
    (sym e) (of_target s p row.time n (ends false ack atn 0 false false true false y) false z dv h refl)
row_facts s p row n dv v d (rows.asks_pulse io ack atn x y h b un z zero byte e) =
    subst (λ (w : Row). RowFacts s p w n) (sym e) (pulse_asked s p row.time n io ack atn x y dv h b zero
    (λ i. (byte i).0) (v (ends false ack atn x false false io false y) h b).offered)

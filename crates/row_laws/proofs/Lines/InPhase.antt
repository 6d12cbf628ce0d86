-- A row within a phase: what the two ends drive after it is what they are due to drive.
use Rattle.row_laws.proofs
use proofs.Names.{ℕ, ◌≡◌, ◌<◌, Bool, true, false, not, ◌&&◌, ◌||◌, ◌==◌, ◌%◌, ◌∙◌, List, ◌∷◌, length, refl, sym, ap}
use proofs.Names.{Some, count_ones, if◌then◌else◌, nat_lt, wrong, wrong', or_true, rises, is_message_in, Row, Agreement}
use proofs.Names.{Connection, Handshakes, handshakes, dialogue, byte_out, byte_in, byte_else, Dialogue, ScenarioValue}
use proofs.Names.{attends_by, byte_bits, bits_if, Exchange, attends_with, bytes_of_messages, begun, phase_of}
use proofs.Names.{phase_leaving, phase_byte, one_if, byte_to_send, Phase, AreOfDevices, run_state, serving_at, EndLines}
use proofs.Names.{initiator_side, target_side, connected_bus, Linked, offering_with, answering_with, some_byte}
use proofs.Names.{count_stays, sending_stays, terms_of, initiator_moves, target_moves, initiator_in_phase}
use proofs.Names.{target_in_phase, phase_same, no_rise, target_row, initiator_row, ends, run_count}
use proofs.{Common.Tests.{not_not}, Lines.Driven.{message_at, message_follows, IsOdd, Driven, AfterDriven, goes_on}}
use proofs.Lines.Driven.{odd_byte, driven_asked, driven_in, driven_pulsed_in, driven_pulsed_out, driven_out}
use proofs.Lines.{Driven.{driven_idle, driven_said}, Kept.{turn, dialogue_stays, Quiet, requests_stay, message_stays}}
use proofs.Lines.Kept.{follows_stay, unasked_stays, first_stays, initiator_end, target_end, initiator_quiet}
use proofs.Lines.{Kept.{target_quiet, data_row, still_row}, Rows.{is_pulsed, is_unasked}}

-- The bytes that the two ends are due to drive are bytes.
pub record Values (s : ScenarioValue) (p : List Row) (n : Connection) (e : EndLines) : Type 0 where
  pub offered : (offering_with s p n true e).byte < 256
  pub answered : (answering_with s p n e).byte < 256
  pub entering : (phase : Phase) → (phase_leaving (serving_at s (run_state s p) n.target (phase_of (connected_bus e)))
      e.atn (phase_of (connected_bus e))).to ≡ Some phase
      → phase_byte (serving_at s (run_state s p) n.target (phase_of (connected_bus e))) phase (phase_leaving
      (serving_at s (run_state s p) n.target (phase_of (connected_bus e))) e.atn (phase_of (connected_bus e))).messages
      (one_if (phase_leaving (serving_at s (run_state s p) n.target (phase_of (connected_bus e))) e.atn
      (phase_of (connected_bus e))).done) 0 < 256

-- ---- what is offered

pub offered_in :
    (s : ScenarioValue) (p : List Row) (n : Connection) (bsy ack atn : Bool) (x : ℕ) (msg cd req : Bool) (y : ℕ)
    → (msg && cd && true) ≡ true
    → (offering_with s p n true (ends bsy ack atn x msg cd true req y)).byte ≡ message_at s p
offered_in s p n bsy ack atn x true true req y a = refl
offered_in s p n bsy ack atn x true false req y a = wrong' a
offered_in s p n bsy ack atn x false cd req y a = wrong' a

pub follows_in_message :
    (s : ScenarioValue) (p : List Row) (n : Connection) (bsy ack atn : Bool) (x : ℕ) (msg cd req : Bool) (y : ℕ)
    → (msg && cd && true) ≡ true
    → (offering_with s p n true (ends bsy ack atn x msg cd true req y)).follows ≡ message_follows s p atn
follows_in_message s p n bsy ack atn x true true req y a = refl
follows_in_message s p n bsy ack atn x true false req y a = wrong' a
follows_in_message s p n bsy ack atn x false cd req y a = wrong' a

either : (q r : Bool) → (if q then r else r) ≡ r
either true r = refl
either false r = refl

-- Whether a byte follows stays the same, in phases to the initiator.
follows_same : (s : ScenarioValue) (p q : List Row) (n : Connection)
    (ack atn : Bool) (x : ℕ) (msg cd req : Bool) (y : ℕ) (ack' : Bool) (x' y' : ℕ)
    → Quiet s p q n (ends false ack' atn x' msg cd true false y') → (msg ≡ false → run_count s q n ≡ run_count s p n)
    → (offering_with s q n true (ends false ack' atn x' msg cd true false y')).follows
    ≡ (offering_with s p n true (ends false ack atn x msg cd true req y)).follows
follows_same s p q n ack atn x true cd req y ack' x' y' k count = λ i. (k.requests_are i == 0 || not atn)
    && nat_lt (k.requests_are i) (length (bytes_of_messages (k.exchange_is i).plan.messages))
follows_same s p q n ack atn x false true req y ack' x' y' k count = λ i. k.requests_are i == 0
follows_same s p q n ack atn x false false req y ack' x' y' k count =
    either (nat_lt 0 (dialogue q).heard.now.agreement.offset) (nat_lt (handshakes q).requests (run_count s q n))
    ∙ (λ i. nat_lt (k.requests_are i) (count refl i))
    ∙ sym (either (nat_lt 0 (dialogue p).heard.now.agreement.offset) (nat_lt (handshakes p).requests (run_count s p n)))

-- The target keeps its byte, with REQ false.
keeps_in : (s : ScenarioValue) (p q : List Row) (n : Connection)
    (bsy ack atn : Bool) (x : ℕ) (bsy' ack' : Bool) (x' : ℕ) (msg cd : Bool) (y : ℕ)
    → Quiet s p q n (ends bsy' ack' atn x' msg cd true false y) → Driven s p n (ends bsy ack atn x msg cd true false y)
    → (is_unasked q ≡ false → is_pulsed q (ends bsy' ack' atn x' msg cd true false y) ≡ false
    → (offering_with s q n true (ends bsy' ack' atn x' msg cd true false y)).follows ≡ true → IsOdd y)
    → Driven s q n (ends bsy' ack' atn x' msg cd true false y)
keeps_in s p q n bsy ack atn x bsy' ack' x' msg cd y k d nx =
    let f : EndLines = ends bsy' ack' atn x' msg cd true false y in
    let un = unasked_stays s p q n f k in
    let fi = first_stays s p q n f true y k in
    driven_in s q n bsy' ack' atn x' msg cd y (λ a u z. d.first_in a refl (sym un ∙ u) (sym fi ∙ z)
    ∙ ap byte_bits (sym (message_stays s p q n f k))) (λ a u. d.next_in a refl (sym un ∙ u)
    ∙ (λ i. bits_if (sym (follows_stay s p q n f atn k) i) (sym (message_stays s p q n f k) i)))
    (λ u z. d.first_odd refl refl (sym un ∙ u) (sym fi ∙ z)) nx

-- ---- before the first REQ

pub after_hands : (s : ScenarioValue) (p : List Row) (t : ℕ) (n : Connection) (atn msg cd io : Bool) (y : ℕ)
    → AreOfDevices p → Linked p n (ends true false atn 0 msg cd io false y) → begun p ≡ true
    → is_unasked p ≡ true → Driven s p n (ends true false atn 0 msg cd io false y)
    → AfterDriven s (initiator_row t n (ends false false atn 0 msg cd io false y) ∷ p) n
after_hands s p t n atn msg cd true y dv h b un d =
    let k = initiator_quiet s p t n (ends true false atn 0 msg cd true false y) false false atn 0 dv h refl refl in
    let q : List Row = initiator_row t n (ends false false atn 0 msg cd true false y) ∷ p in
    goes_on (ends false false atn 0 msg cd true false y) k.linked
    (k.begun_is ∙ b) (keeps_in s p q n true false atn 0 false false 0 msg cd y k d
    (λ u z w. wrong (sym (unasked_stays s p q n (ends false false atn 0 msg cd true false y) k ∙ un) ∙ u)))
after_hands s p t n atn msg cd false y dv h b un d =
    let k = initiator_quiet s p t n (ends true false atn 0 msg cd false false y) false false atn 0 dv h refl refl in
    let q : List Row = initiator_row t n (ends false false atn 0 msg cd false false y) ∷ p in
    goes_on (ends false false atn 0 msg cd false false y) k.linked (k.begun_is ∙ b) (driven_out s q n false false atn 0
    msg cd y (λ a z. d.attention a refl ∙ ap (λ (x : Dialogue). not x.is_last) (sym k.last_is)))

pub after_releases : (s : ScenarioValue) (p : List Row) (t : ℕ) (n : Connection) (atn : Bool) (x : ℕ) (msg cd : Bool)
    → AreOfDevices p → Linked p n (ends false false atn x msg cd true false 0) → begun p ≡ true
    → is_unasked p ≡ true → Driven s p n (ends false false atn x msg cd true false 0)
    → AfterDriven s (initiator_row t n (ends false false atn 0 msg cd true false 0) ∷ p) n
after_releases s p t n atn x msg cd dv h b un d =
    let k = initiator_quiet s p t n (ends false false atn x msg cd true false 0) false false atn 0 dv h refl refl in
    let q : List Row = initiator_row t n (ends false false atn 0 msg cd true false 0) ∷ p in
    goes_on (ends false false atn 0 msg cd true false 0) k.linked (k.begun_is ∙ b)
    (keeps_in s p q n false false atn x false false 0 msg cd 0 k d
    (λ u z w. wrong (sym (unasked_stays s p q n (ends false false atn 0 msg cd true false 0) k ∙ un) ∙ u)))

pub after_offers : (s : ScenarioValue) (p : List Row) (t : ℕ) (n : Connection) (atn : Bool) (x : ℕ) (msg cd : Bool)
    → AreOfDevices p → Linked p n (ends false false atn x msg cd true false 0) → begun p ≡ true
    → is_unasked p ≡ true → Values s p n (ends false false atn x msg cd true false 0)
    → AfterDriven s (target_row t n (ends false false atn x msg cd true false
    (byte_bits (offering_with s p n true (ends false false atn x msg cd true false 0)).byte)) ∷ p) n
after_offers s p t n atn x msg cd dv h b un v =
    let byte : ℕ = (offering_with s p n true (ends false false atn x msg cd true false 0)).byte in
    let f : EndLines = ends false false atn x msg cd true false (byte_bits byte) in
    let k = target_quiet s p t n (ends false false atn x msg cd true false 0) false (byte_bits byte) dv h refl refl in
    let q : List Row = target_row t n f ∷ p in
    let first : is_unasked q ≡ true = unasked_stays s p q n f k ∙ un in
    goes_on f k.linked (k.begun_is ∙ b) (driven_in s q n false false atn x msg cd (byte_bits byte)
    (λ a u z. ap byte_bits (offered_in s p n false false atn x msg cd false 0 a ∙ sym (message_stays s p q n f k)))
    (λ a u. wrong (sym first ∙ u)) (λ u z. odd_byte byte v.offered) (λ u z w. wrong (sym first ∙ u)))

-- ---- REQ rises

pub after_asks : (s : ScenarioValue) (p : List Row) (t : ℕ) (n : Connection) (bsy atn msg cd io : Bool) (y : ℕ)
    → AreOfDevices p → Linked p n (ends bsy false atn 0 msg cd io false y)
    → begun p ≡ true → Driven s p n (ends bsy false atn 0 msg cd io false y)
    → AfterDriven s (target_row t n (ends bsy false atn 0 msg cd io true y) ∷ p) n
after_asks s p t n bsy atn msg cd true y dv h b d =
    let e : EndLines = ends bsy false atn 0 msg cd true false y in
    goes_on (ends bsy false atn 0 msg cd true true y) (target_moves p n e msg cd true true y t h).linked
    ((target_in_phase p n e true y t h).begun_is ∙ b) (driven_asked s _ n bsy false atn 0 msg cd y)
after_asks s p t n bsy atn msg cd false y dv h b d =
    let e : EndLines = ends bsy false atn 0 msg cd false false y in
    let f : EndLines = ends bsy false atn 0 msg cd false true y in
    let q : List Row = target_row t n f ∷ p in
    let heard = dialogue_stays s p t n.target (target_side f) n e f
    (target_side e) (target_end s p t n e msg cd false true y dv h)
    (phase_same e bsy false atn 0 true y (target_side e) (target_side f)) refl in
    goes_on f (target_moves p n e msg cd false true y t h).linked
    ((target_in_phase p n e true y t h).begun_is ∙ b) (driven_idle s q n bsy false atn 0 msg cd true y refl
    (λ a. d.attention a refl ∙ ap (λ (x : Dialogue). not x.is_last) (sym heard)))

-- ---- bytes to the initiator

pub after_answers : (s : ScenarioValue) (p : List Row) (t : ℕ) (n : Connection) (atn to msg cd : Bool) (y : ℕ)
    → AreOfDevices p → Linked p n (ends false false atn 0 msg cd true true y) → begun p ≡ true
    → AfterDriven s (initiator_row t n (ends false true to 0 msg cd true true y) ∷ p) n
after_answers s p t n atn to msg cd y dv h b =
    let e : EndLines = ends false false atn 0 msg cd true true y in
    goes_on (ends false true to 0 msg cd true true y) (initiator_moves p n e false true to 0 t h).linked
    ((initiator_in_phase p n e false true to 0 t h).begun_is ∙ b) (driven_asked s _ n false true to 0 msg cd y)

pub after_ends_ack_in : (s : ScenarioValue) (p : List Row) (t : ℕ) (n : Connection) (atn msg cd : Bool) (y : ℕ)
    → AreOfDevices p → Linked p n (ends false true atn 0 msg cd true false y) → begun p ≡ true
    → is_unasked p ≡ false → is_pulsed p (ends false true atn 0 msg cd true false y) ≡ false
    → Driven s p n (ends false true atn 0 msg cd true false y)
    → AfterDriven s (initiator_row t n (ends false false atn 0 msg cd true false y) ∷ p) n
after_ends_ack_in s p t n atn msg cd y dv h b un pulsed d =
    let e : EndLines = ends false true atn 0 msg cd true false y in
    let f : EndLines = ends false false atn 0 msg cd true false y in
    let k = initiator_quiet s p t n e false false atn 0 dv h refl refl in
    let q : List Row = initiator_row t n f ∷ p in
    let count : msg ≡ false → run_count s q n ≡ run_count s p n = λ em. count_stays s p
    (initiator_row t n f) n (turn e f (initiator_side e) (initiator_side f)) (data_row s p t n.initiator
    (initiator_side f) n e f (initiator_side e) (initiator_end s p t n e false false atn 0 dv h)
    (phase_same e false false atn 0 false y (initiator_side e) (initiator_side f)) em) in
    goes_on f k.linked (k.begun_is ∙ b) (keeps_in s p q n false true atn 0 false false 0 msg cd y k d (λ u z w.
    d.next_odd refl refl un pulsed (sym (follows_same s p q n true atn 0 msg cd false y false 0 y k count) ∙ w)))

pub after_ends_req : (s : ScenarioValue) (p : List Row) (t : ℕ) (n : Connection) (atn msg cd io : Bool) (x y : ℕ)
    → AreOfDevices p → Linked p n (ends false true atn x msg cd io true y) → begun p ≡ true
    → is_unasked p ≡ false → is_pulsed p (ends false true atn x msg cd io true y) ≡ false
    → Values s p n (ends false true atn x msg cd io true y) → Driven s p n (ends false true atn x msg cd io true y)
    → AfterDriven s (target_row t n (ends false true atn x msg cd io false
    (bits_if (io && (offering_with s p n true (ends false true atn x msg cd io true y)).follows)
    (offering_with s p n true (ends false true atn x msg cd io true y)).byte)) ∷ p) n
after_ends_req s p t n atn msg cd true x y dv h b un pulsed v d =
    let e : EndLines = ends false true atn x msg cd true true y in
    let g = offering_with s p n true e in
    let z : ℕ = bits_if g.follows g.byte in
    let f : EndLines = ends false true atn x msg cd true false z in
    let k = target_quiet s p t n e false z dv h refl refl in
    let q : List Row = target_row t n f ∷ p in
    let asked : is_unasked q ≡ false = unasked_stays s p q n f k ∙ un in
    let count : msg ≡ false → run_count s q n ≡ run_count s p n = λ em. count_stays s p
    (target_row t n f) n (turn e f (target_side e) (target_side f))
    (data_row s p t n.target (target_side f) n e f (target_side e) (target_end s p t n e msg cd true false z dv h)
    (phase_same e false true atn x false z (target_side e) (target_side f)) em) in
    goes_on f k.linked (k.begun_is ∙ b)
    (driven_in s q n false true atn x msg cd z (λ a u w. wrong (sym u ∙ asked)) (λ a u. (λ i. bits_if
    (follows_in_message s p n false true atn x msg cd true y a i) (offered_in s p n false true atn x msg cd true y a i))
    ∙ (λ i. bits_if (sym (follows_stay s p q n f atn k) i) (sym (message_stays s p q n f k) i))) (λ u w. wrong
    (sym u ∙ asked)) (λ u w r. let goes = sym (follows_same s p q n true atn x msg cd true y true x z k count) ∙ r in
    (λ i. count_ones (bits_if (goes i) g.byte) % 2 == 1) ∙ odd_byte g.byte v.offered))
after_ends_req s p t n atn msg cd false x y dv h b un pulsed v d =
    let e : EndLines = ends false true atn x msg cd false true y in
    let f : EndLines = ends false true atn x msg cd false false 0 in
    let k = target_quiet s p t n e false 0 dv h refl refl in
    goes_on f k.linked (k.begun_is ∙ b) (driven_out s _ n false true atn x msg cd 0
    (λ a z. d.attention a (or_true (x == 0)) ∙ ap (λ (w : Dialogue). not w.is_last) (sym k.last_is)))

-- ---- bytes to the target

pub after_gives : (s : ScenarioValue) (p : List Row) (t : ℕ) (n : Connection) (atn msg cd : Bool)
    → AreOfDevices p → Linked p n (ends false false atn 0 msg cd false true 0) → begun p ≡ true → AfterDriven s
    (initiator_row t n (ends false false (attends_by (connected_bus (ends false false atn 0 msg cd false true 0))
    (answering_with s p n (ends false false atn 0 msg cd false true 0)).attends atn)
    (byte_bits (answering_with s p n (ends false false atn 0 msg cd false true 0)).byte) msg cd false true 0) ∷ p) n
after_gives s p t n atn msg cd dv h b =
    let e : EndLines = ends false false atn 0 msg cd false true 0 in
    let g = answering_with s p n e in
    let to : Bool = attends_by (connected_bus e) g.attends atn in
    let f : EndLines = ends false false to (byte_bits g.byte) msg cd false true 0 in
    let k = initiator_quiet s p t n e false false to (byte_bits g.byte) dv h refl refl in
    let q : List Row = initiator_row t n f ∷ p in
    let still = still_row s p t n.initiator (initiator_side f) n e f (initiator_side e)
    (initiator_end s p t n e false false to (byte_bits g.byte) dv h)
    (phase_same e false false to (byte_bits g.byte) true 0 (initiator_side e) (initiator_side f)) refl refl in
    let same : (answering_with s q n f).byte ≡ g.byte = λ i. byte_to_send (connected_bus f)
    (k.exchange_is i).speech (sending_stays s p (initiator_row t n f) still i) in
    goes_on f k.linked (k.begun_is ∙ b) (driven_said s q n to (byte_bits g.byte) msg cd
    (some_byte g.byte) (ap byte_bits (sym same)) (λ a. ap (λ (r : Bool). if r then g.attends else atn) a
    ∙ ap (λ (w : Exchange). attends_with w.speech) (sym k.exchange_is)))

pub after_sends : (s : ScenarioValue) (p : List Row) (t : ℕ) (n : Connection) (atn msg cd : Bool) (x : ℕ)
    → AreOfDevices p → Linked p n (ends false false atn x msg cd false true 0) → begun p ≡ true
    → AfterDriven s (initiator_row t n (ends false true atn x msg cd false true 0) ∷ p) n
after_sends s p t n atn msg cd x dv h b =
    let e : EndLines = ends false false atn x msg cd false true 0 in
    let f : EndLines = ends false true atn x msg cd false true 0 in
    let q : List Row = initiator_row t n f ∷ p in
    let m = initiator_moves p n e false true atn x t h in
    let byte : ℕ = (connected_bus f).data_bits % 256 in
    let heard : (msg && cd && true) ≡ true → (dialogue q).is_last ≡ not atn = λ a. ap (λ (w : Dialogue). w.is_last)
    (terms_of p (initiator_row t n f) n e f (initiator_side e) (initiator_side f) h m).dialogue_is
    ∙ ap (λ (r : Bool). (if r then byte_out (dialogue p) byte (not atn)
    else if is_message_in (connected_bus e) then byte_in (dialogue p) byte
    else byte_else (dialogue p) (connected_bus e) byte).is_last) a in
    goes_on f m.linked ((initiator_in_phase p n e false true atn x t h).begun_is ∙ b)
    (driven_idle s q n false true atn x msg cd true 0 (or_true (x == 0)) (λ a. sym (ap not (heard a) ∙ not_not atn)))

pub after_ends_ack_out : (s : ScenarioValue) (p : List Row) (t : ℕ) (n : Connection) (atn msg cd : Bool) (x : ℕ)
    → AreOfDevices p → Linked p n (ends false true atn x msg cd false false 0)
    → begun p ≡ true → Driven s p n (ends false true atn x msg cd false false 0)
    → AfterDriven s (initiator_row t n (ends false false atn 0 msg cd false false 0) ∷ p) n
after_ends_ack_out s p t n atn msg cd x dv h b d =
    let e : EndLines = ends false true atn x msg cd false false 0 in
    let f : EndLines = ends false false atn 0 msg cd false false 0 in
    let k = initiator_quiet s p t n e false false atn 0 dv h refl refl in
    goes_on f k.linked (k.begun_is ∙ b) (driven_out s _ n false false atn 0 msg cd 0
    (λ a z. d.attention a (or_true (x == 0)) ∙ ap (λ (w : Dialogue). not w.is_last) (sym k.last_is)))

-- ---- by pulses

pulsed_is : (a b : Agreement) → b ≡ a → nat_lt 0 a.offset ≡ true → nat_lt 0 b.offset ≡ true
pulsed_is a b e z = ap (λ (w : Agreement). nat_lt 0 w.offset) e ∙ z

-- A row of the initiator.
pub after_pulse_of_initiator : (s : ScenarioValue) (p : List Row) (t : ℕ)
    (n : Connection) (io req ack atn : Bool) (x y : ℕ) (ack' atn' : Bool) (x' : ℕ)
    → AreOfDevices p → Linked p n (ends false ack atn x false false io req y) → begun p ≡ true
    → (io ≡ true → is_unasked p ≡ false) → is_pulsed p (ends false ack atn x false false io req y) ≡ true
    → AfterDriven s (initiator_row t n (ends false ack' atn' x' false false io req y) ∷ p) n
after_pulse_of_initiator s p t n io req ack atn x y ack' atn' x' dv h b un z = goes_on
    (ends false ack' atn' x' false false io req y)
    (initiator_moves p n (ends false ack atn x false false io req y) false ack' atn' x' t h).linked
    ((initiator_in_phase p n (ends false ack atn x false false io req y) false ack' atn' x' t h).begun_is ∙ b)
    (by io h un z)
  where
    by : (io : Bool) → Linked p n (ends false ack atn x false false io req y)
        → (io ≡ true → is_unasked p ≡ false) → is_pulsed p (ends false ack atn x false false io req y) ≡ true
        → Driven s (initiator_row t n (ends false ack' atn' x' false false io req y) ∷ p) n
        (ends false ack' atn' x' false false io req y)
    by true h un z =
        let r = initiator_in_phase p n (ends false ack atn x false false true req y) false ack' atn' x' t h in
        driven_pulsed_in s (initiator_row t n (ends false ack' atn' x' false false true req y) ∷ p) n ack' atn' x' req y
        (ap (λ (w : Handshakes). w.requests == 0) r.handshakes_are
        ∙ ap (λ (w : ℕ). w == 0) (requests_stay p (rises ack ack') (rises req req) t (no_rise req)) ∙ un refl)
        (pulsed_is (dialogue p).heard.now.agreement
        (dialogue (initiator_row t n (ends false ack' atn' x' false false true req y) ∷ p)).heard.now.agreement
        (r.agreement_is refl refl) z)
    by false h un z =
        let r = initiator_in_phase p n (ends false ack atn x false false false req y) false ack' atn' x' t h in
        driven_pulsed_out s (initiator_row t n (ends false ack' atn' x' false false false req y) ∷ p)
        n ack' atn' x' req y (pulsed_is (dialogue p).heard.now.agreement
        (dialogue (initiator_row t n (ends false ack' atn' x' false false false req y) ∷ p)).heard.now.agreement
        (r.agreement_is refl refl) z)

-- A row of the target.
pub after_pulse_of_target :
    (s : ScenarioValue) (p : List Row) (t : ℕ) (n : Connection) (io req ack atn : Bool) (x y : ℕ) (req' : Bool) (y' : ℕ)
    → AreOfDevices p → Linked p n (ends false ack atn x false false io req y) → begun p ≡ true
    → is_unasked p ≡ false → is_pulsed p (ends false ack atn x false false io req y) ≡ true
    → AfterDriven s (target_row t n (ends false ack atn x false false io req' y') ∷ p) n
after_pulse_of_target s p t n io req ack atn x y req' y' dv h b un z = goes_on
    (ends false ack atn x false false io req' y')
    (target_moves p n (ends false ack atn x false false io req y) false false io req' y' t h).linked
    ((target_in_phase p n (ends false ack atn x false false io req y) req' y' t h).begun_is ∙ b) (by io req' h z)
  where
    by : (io req' : Bool) → Linked p n (ends false ack atn x false false io req y)
        → is_pulsed p (ends false ack atn x false false io req y) ≡ true
        → Driven s (target_row t n (ends false ack atn x false false io req' y') ∷ p) n
        (ends false ack atn x false false io req' y')
    by true true h z = driven_asked s (target_row t n (ends false ack atn x false false true true y') ∷ p) n false ack
        atn x false false y'
    by true false h z =
        let r = target_in_phase p n (ends false ack atn x false false true req y) false y' t h in
        driven_pulsed_in s (target_row t n (ends false ack atn x false false true false y') ∷ p) n ack atn x false y'
        (ap (λ (w : Handshakes). w.requests == 0) r.handshakes_are
        ∙ ap (λ (w : ℕ). w == 0) (requests_stay p (rises ack ack) (rises req false) t (falls_is req)) ∙ un)
        (pulsed_is (dialogue p).heard.now.agreement
        (dialogue (target_row t n (ends false ack atn x false false true false y') ∷ p)).heard.now.agreement
        (r.agreement_is refl refl) z)
      where
        falls_is : (q : Bool) → rises q false ≡ false
        falls_is true = refl
        falls_is false = refl
    by false req' h z =
        let r = target_in_phase p n (ends false ack atn x false false false req y) req' y' t h in
        driven_pulsed_out s (target_row t n (ends false ack atn x false false false req' y') ∷ p) n ack atn x req' y'
        (pulsed_is (dialogue p).heard.now.agreement
        (dialogue (target_row t n (ends false ack atn x false false false req' y') ∷ p)).heard.now.agreement
        (r.agreement_is refl refl) z)

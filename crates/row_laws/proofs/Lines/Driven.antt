-- What the two ends of a connection drive until the byte crosses is what they are due to drive; and ATN is as the bytes
-- of MESSAGE OUT leave it (6.1.5.1, 6.1.9, 6.2.1).
use Rattle.row_laws.proofs
use proofs.Names.{ℕ, ◌≡◌, ◌<◌, Bool, true, false, not, ◌&&◌, ◌||◌, ◌==◌, ◌%◌, ◌∙◌, List, length, None, sym, ap}
use proofs.Names.{true≢false, count_ones, nat_lt, slice_index_or, wrong, wrong', byte_odd, LineSet, is_message_out}
use proofs.Names.{is_message_in, connection, Row, Connection, handshakes, dialogue, ScenarioValue, byte_bits, bits_if}
use proofs.Names.{attends_with, bytes_of_messages, begun, run_state, EndLines, connected_bus, Linked, offering_with}
use proofs.{Names.{answering_with, ends}, Lines.Rows.{is_pulsed, has_first, is_unasked}}

-- The next byte of MESSAGE IN, and whether one follows.
abbrev pub message_at : ScenarioValue → List Row → ℕ
message_at s p = slice_index_or (bytes_of_messages (run_state s p).exchange.plan.messages) (handshakes p).requests 0

abbrev pub message_follows : ScenarioValue → List Row → Bool → Bool
message_follows s p atn = ((handshakes p).requests == 0 || not atn)
    && nat_lt (handshakes p).requests (length (bytes_of_messages (run_state s p).exchange.plan.messages))

abbrev pub IsOdd : ℕ → Type 0
IsOdd y = (count_ones y % 2 == 1) ≡ true

pub record Driven (s : ScenarioValue) (p : List Row) (n : Connection) (e : EndLines) : Type 0 where
  -- to the initiator, before REQ rises: the first byte of the phase, and the next one
  pub first_in : is_message_in (connected_bus e) ≡ true → e.req ≡ false → is_unasked p ≡ true
      → has_first p e.io e.given ≡ true → e.given ≡ byte_bits (message_at s p)
  pub next_in : is_message_in (connected_bus e) ≡ true → e.req ≡ false → is_unasked p ≡ false
      → e.given ≡ bits_if (message_follows s p e.atn) (message_at s p)
  pub first_odd : e.io ≡ true → e.req ≡ false → is_unasked p ≡ true → has_first p e.io e.given ≡ true → IsOdd e.given
  pub next_odd : e.io ≡ true → e.req ≡ false → is_unasked p ≡ false → is_pulsed p e ≡ false
      → (offering_with s p n true e).follows ≡ true → IsOdd e.given
  -- to the target, byte by byte, before ACK rises; ATN with it
  pub said : e.io ≡ false → e.req ≡ true → e.ack ≡ false → is_pulsed p e ≡ false → (e.sent == 0) ≡ false
      → e.sent ≡ byte_bits (answering_with s p n e).byte
  pub attends : is_message_out (connected_bus e) ≡ true → e.req ≡ true → e.ack ≡ false → (e.sent == 0) ≡ false
      → e.atn ≡ attends_with (run_state s p).exchange.speech
  -- ATN, while no byte is driven or ACK is true
  pub attention : is_message_out (connected_bus e) ≡ true → (e.sent == 0 || e.ack) ≡ true
      → e.atn ≡ not (dialogue p).is_last

-- What stands after a row: the connection, with what its ends drive; or none.
pub data AfterDriven (s : ScenarioValue) (q : List Row) (n : Connection) : Type 0 where
  goes_on : (e : EndLines) → Linked q n e → begun q ≡ true → Driven s q n e → AfterDriven s q n
  frees : connection q ≡ None → AfterDriven s q n

-- ---- the lines of the ends are known by what they drive

pub same_ends : (p : List Row) (n : Connection) (e f : EndLines) → Linked p n e → Linked p n f → e ≡ f
same_ends p n e f h k =
    let i = sym h.initiator ∙ k.initiator in
    let t = sym h.target ∙ k.target in
    λ j. record {
      bsy = ap (λ (l : LineSet). l.bsy) i j;
      ack = ap (λ (l : LineSet). l.ack) i j;
      atn = ap (λ (l : LineSet). l.atn) i j;
      sent = ap (λ (l : LineSet). l.data_bits) i j;
      msg = ap (λ (l : LineSet). l.msg) t j;
      cd = ap (λ (l : LineSet). l.cd) t j;
      io = ap (λ (l : LineSet). l.io) t j;
      req = ap (λ (l : LineSet). l.req) t j;
      given = ap (λ (l : LineSet). l.data_bits) t j;
    }

-- ---- small facts

pub no_third : (m c : Bool) → (m && c && false) ≡ true → ⊥
no_third true true e = true≢false (sym e)
no_third true false e = true≢false (sym e)
no_third false c e = true≢false (sym e)

pub odd_byte : (b : ℕ) → b < 256 → IsOdd (byte_bits b)
odd_byte b h = byte_odd b h

-- ---- by the direction of the phase

-- REQ is true: the byte has crossed.
pub driven_asked :
    (s : ScenarioValue) (q : List Row) (n : Connection) (bsy ack atn : Bool) (x : ℕ) (msg cd : Bool) (y : ℕ)
    → Driven s q n (ends bsy ack atn x msg cd true true y)
driven_asked s q n bsy ack atn x msg cd y = record {
  first_in = λ a b c d. wrong b;
  next_in = λ a b c. wrong b;
  first_odd = λ a b c d. wrong b;
  next_odd = λ a b c d e. wrong b;
  said = λ a b c d e. wrong a;
  attends = λ a b c d. absurd (no_third msg cd a);
  attention = λ a b. absurd (no_third msg cd a);
}

pub driven_in : (s : ScenarioValue) (q : List Row) (n : Connection) (bsy ack atn : Bool) (x : ℕ) (msg cd : Bool) (y : ℕ)
    → ((msg && cd && true) ≡ true → is_unasked q ≡ true → has_first q true y ≡ true → y ≡ byte_bits (message_at s q))
    → ((msg && cd && true) ≡ true → is_unasked q ≡ false → y ≡ bits_if (message_follows s q atn) (message_at s q))
    → (is_unasked q ≡ true → has_first q true y ≡ true → IsOdd y)
    → (is_unasked q ≡ false → is_pulsed q (ends bsy ack atn x msg cd true false y) ≡ false
    → (offering_with s q n true (ends bsy ack atn x msg cd true false y)).follows ≡ true → IsOdd y)
    → Driven s q n (ends bsy ack atn x msg cd true false y)
driven_in s q n bsy ack atn x msg cd y fi ni fo nx = record {
  first_in = λ a b c d. fi a c d;
  next_in = λ a b c. ni a c;
  first_odd = λ a b c d. fo c d;
  next_odd = λ a b c d e. nx c d e;
  said = λ a b c d e. wrong a;
  attends = λ a b c d. absurd (no_third msg cd a);
  attention = λ a b. absurd (no_third msg cd a);
}

-- By pulses the reactions look at the byte themselves.
pub driven_pulsed_in : (s : ScenarioValue) (q : List Row) (n : Connection) (ack atn : Bool) (x : ℕ) (req : Bool) (y : ℕ)
    → is_unasked q ≡ false → is_pulsed q (ends false ack atn x false false true req y) ≡ true
    → Driven s q n (ends false ack atn x false false true req y)
driven_pulsed_in s q n ack atn x req y u z = record {
  first_in = λ a b c d. wrong' a;
  next_in = λ a b c. wrong' a;
  first_odd = λ a b c d. wrong (sym c ∙ u);
  next_odd = λ a b c d e. wrong (sym z ∙ d);
  said = λ a b c d e. wrong a;
  attends = λ a b c d. wrong' a;
  attention = λ a b. wrong' a;
}

pub driven_pulsed_out :
    (s : ScenarioValue) (q : List Row) (n : Connection) (ack atn : Bool) (x : ℕ) (req : Bool) (y : ℕ)
    → is_pulsed q (ends false ack atn x false false false req y) ≡ true
    → Driven s q n (ends false ack atn x false false false req y)
driven_pulsed_out s q n ack atn x req y z = record {
  first_in = λ a b c d. wrong' a;
  next_in = λ a b c. wrong' a;
  first_odd = λ a b c d. wrong' a;
  next_odd = λ a b c d e. wrong' a;
  said = λ a b c d e. wrong (sym z ∙ d);
  attends = λ a b c d. wrong' a;
  attention = λ a b. wrong' a;
}

-- To the target, REQ false.
pub driven_out :
    (s : ScenarioValue) (q : List Row) (n : Connection) (bsy ack atn : Bool) (x : ℕ) (msg cd : Bool) (y : ℕ)
    → ((msg && cd && true) ≡ true → (x == 0 || ack) ≡ true → atn ≡ not (dialogue q).is_last)
    → Driven s q n (ends bsy ack atn x msg cd false false y)
driven_out s q n bsy ack atn x msg cd y asks = record {
  first_in = λ a b c d. absurd (no_third msg cd a);
  next_in = λ a b c. absurd (no_third msg cd a);
  first_odd = λ a b c d. wrong' a;
  next_odd = λ a b c d e. wrong' a;
  said = λ a b c d e. wrong' b;
  attends = λ a b c d. wrong' b;
  attention = asks;
}

-- No byte is driven, or ACK is true.
pub driven_idle :
    (s : ScenarioValue) (q : List Row) (n : Connection) (bsy ack atn : Bool) (x : ℕ) (msg cd req : Bool) (y : ℕ)
    → (x == 0 || ack) ≡ true → ((msg && cd && true) ≡ true → atn ≡ not (dialogue q).is_last)
    → Driven s q n (ends bsy ack atn x msg cd false req y)
driven_idle s q n bsy ack atn x msg cd req y idle asks = record {
  first_in = λ a b c d. absurd (no_third msg cd a);
  next_in = λ a b c. absurd (no_third msg cd a);
  first_odd = λ a b c d. wrong' a;
  next_odd = λ a b c d e. wrong' a;
  said = λ a b c d e. wrong (sym idle ∙ (λ i. e i || c i));
  attends = λ a b c d. wrong (sym idle ∙ (λ i. d i || c i));
  attention = λ a b. asks a;
}

-- It drives its byte, and ACK is false.
pub driven_said : (s : ScenarioValue) (q : List Row) (n : Connection) (atn : Bool) (x : ℕ) (msg cd : Bool)
    → (x == 0) ≡ false → x ≡ byte_bits (answering_with s q n (ends false false atn x msg cd false true 0)).byte
    → ((msg && cd && true) ≡ true → atn ≡ attends_with (run_state s q).exchange.speech)
    → Driven s q n (ends false false atn x msg cd false true 0)
driven_said s q n atn x msg cd some byte asks = record {
  first_in = λ a b c d. wrong b;
  next_in = λ a b c. wrong b;
  first_odd = λ a b c d. wrong b;
  next_odd = λ a b c d e. wrong b;
  said = λ a b c d e. byte;
  attends = λ a b c d. asks a;
  attention = λ a b. wrong (sym b ∙ (λ i. some i || false));
}

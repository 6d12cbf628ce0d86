-- What is asked for is of the phase: so fewer requests are left after it, of MESSAGE IN, STATUS, DATA IN and DATA OUT.
use Rattle.measure_laws.proofs
use proofs.Names.{ℕ, ◌≡◌, ◌≤◌, ◌<◌, ◌∙◌, Bool, true, false, List, [], ◌∷◌, length, refl, sym, ap, subst, arith, Option}
use proofs.Names.{Some, None, ltb-true, ◌+◌, ◌++◌, ◌==◌, ◌^◌, if◌then◌else◌, not, ◌||◌, is_some, nat_lt, wrong'}
use proofs.Names.{and_second, Row, Connection, Handshakes, handshakes, no_handshakes, MsgIn, ScenarioValue, Obeys}
use proofs.Names.{bytes_of_messages, message_bytes, phase_of, follows_in, Messages, Phase, run_state_plain}
use proofs.Names.{AreOfDevices, run_state, serving_at, obeys_fits, Linked, offering_with, runs_are_short, Shaking, ends}
use proofs.{Names.{run_count, Planned}, Phases.Asks.{HasRoomIn}}

-- ---- messages are short

one_short : (m : Option MsgIn) → length (message_bytes m) ≤ 5
one_short None = omega arith
one_short (Some MsgIn.CommandComplete) = omega arith
one_short (Some MsgIn.SavePointer) = omega arith
one_short (Some MsgIn.RestorePointers) = omega arith
one_short (Some MsgIn.Disconnect) = omega arith
one_short (Some (MsgIn.Identify lun)) = omega arith
one_short (Some (MsgIn.SimpleTag tag)) = omega arith
one_short (Some (MsgIn.Sdtr offer)) = omega arith
one_short (Some MsgIn.Reject) = omega arith

one_there : (m : Option MsgIn) → is_some m ≡ true → 1 ≤ length (message_bytes m)
one_there None e = wrong' e
one_there (Some MsgIn.CommandComplete) e = omega arith
one_there (Some MsgIn.SavePointer) e = omega arith
one_there (Some MsgIn.RestorePointers) e = omega arith
one_there (Some MsgIn.Disconnect) e = omega arith
one_there (Some (MsgIn.Identify lun)) e = omega arith
one_there (Some (MsgIn.SimpleTag tag)) e = omega arith
one_there (Some (MsgIn.Sdtr offer)) e = omega arith
one_there (Some MsgIn.Reject) e = omega arith

length_sum : (a b : List ℕ) → length (a ++ b) ≡ length a + length b
length_sum [] b = omega arith
length_sum (x ∷ a) b = let z = length_sum a b in omega (arith, z)

pub messages_short : (m : Messages) → length (bytes_of_messages m) ≤ 2 ^ 43
messages_short m =
    let sum = length_sum (message_bytes m.first) (message_bytes m.second) in
    let one = one_short m.first in
    let two = one_short m.second in
    omega (arith, sum, one, two)

messages_there : (m : Messages) → is_some m.first ≡ true → 0 < length (bytes_of_messages m)
messages_there m e =
    let sum = length_sum (message_bytes m.first) (message_bytes m.second) in
    let one = one_there m.first e in
    omega (arith, sum, one)

-- ---- the first byte

-- DATA IN has a byte.
pub first_room_in : (s : ScenarioValue) (p : List Row) (n : Connection) (bsy atn msg cd : Bool) (y : ℕ) → Obeys s
    → AreOfDevices p → Planned s (run_state s p) → Linked p n (ends bsy false atn 0 msg cd true false y)
    → handshakes p ≡ no_handshakes → (msg ≡ false → cd ≡ false → 1 ≤ run_count s p n) → HasRoomIn msg cd
    (handshakes p).requests (length (bytes_of_messages (run_state s p).exchange.plan.messages)) (run_count s p n)
first_room_in s p n bsy atn true cd y o dv planned h quiet run =
    let k = run_state s p in
    let a = run_state_plain s p dv in
    let there = messages_there k.exchange.plan.messages (planned.message (ap phase_of (a.bus ∙ h.stands.bus_is))) in (
      subst (λ (x : Handshakes). x.requests < length (bytes_of_messages k.exchange.plan.messages)) (sym quiet) there,
      messages_short k.exchange.plan.messages,
    )
first_room_in s p n bsy atn false true y o dv planned h quiet run = ap (λ (x : Handshakes). x.requests) quiet
first_room_in s p n bsy atn false false y o dv planned h quiet run = (
  subst (λ (x : Handshakes). x.requests < run_count s p n) (sym quiet) (run refl refl),
  runs_are_short s (obeys_fits s o) p n,
)

-- ---- the next one

pub next_room_in : (s : ScenarioValue) (p : List Row) (n : Connection) (atn msg cd : Bool) (y : ℕ)
    → Obeys s → Shaking p n msg cd true false false atn 0 y
    → (offering_with s p n true (ends false false atn 0 msg cd true false y)).follows ≡ true
    → HasRoomIn msg cd (handshakes p).requests (length (bytes_of_messages (run_state s p).exchange.plan.messages))
    (run_count s p n)
next_room_in s p n atn true cd y o h follows =
    let m = (run_state s p).exchange.plan.messages in (
      ltb-true (handshakes p).requests (length (bytes_of_messages m))
          (and_second ((handshakes p).requests == 0 || not atn)
          (nat_lt (handshakes p).requests (length (bytes_of_messages m))) follows),
      messages_short m,
    )
next_room_in s p n atn false true y o h follows = wrong' (sym h.asked ∙ follows)
next_room_in s p n atn false false y o h follows =
    let less : nat_lt (handshakes p).requests (run_count s p n) ≡ true =
    sym (ap (λ (q : Bool). if q then nat_lt (handshakes p).requests (run_count s p n)
    else follows_in (serving_at s (run_state s p) n.target Phase.DataIn) (handshakes p) atn Phase.DataIn) h.unpulsed)
    ∙ follows in
    (ltb-true (handshakes p).requests (run_count s p n) less, runs_are_short s (obeys_fits s o) p n)

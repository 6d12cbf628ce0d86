-- With a row that turns from a phase to the initiator to MESSAGE OUT a phase less is left, or the strike of the phase
-- before it pays.
use Rattle.measure_laws.proofs
use proofs.Names.{ℕ, ◌≡◌, ◌≤◌, ◌∙◌, Bool, true, false, List, ◌∷◌, length, refl, sym, ap, subst, arith, Option, Some}
use proofs.Names.{None, ◌&&◌, ◌+◌, ◌-◌, ◌*◌, not, ◌||◌, if◌then◌else◌, is_some, nat_lt, wrong, wrong', and_true}
use proofs.Names.{same_phase, LineSet, same, changes_phase, is_message_out, is_fault, receiver_in, Row, Change}
use proofs.Names.{Connection, ScenarioValue, longest_need, from_byte, message_bytes, plan_anew, phase_of, cause_after}
use proofs.Names.{plan_in_message_out, Cause, Hearing, Messages, Next, Phase, Plan, RunState, run_state, hearing_of}
use proofs.Names.{leaving, in_connection, reading_is, HasPhase, is_out_phase, IsRowIn, RowKind, reading_in, is_refusing}
use proofs.Names.{is_struck_phase, is_out_next, IsAttended, attended_for, is_attended, after_next, after_words}
use proofs.Names.{disconnects, is_disconnect, phases_in, phases_left, reselection_if, struck_left, for_phase}
use proofs.Names.{for_reselection, for_byte}
use Rattle.measure_laws.specs.Turns.{after_answer}
use Rattle.progress_laws.specs.book_laws.specs.Rows as rows

-- ---- the table

-- The messages that are sent again disconnect only if all of them did.
from_less : (m : Messages) (i : ℕ) → reselection_if (disconnects (from_byte m i)) ≤ reselection_if (disconnects m)
from_less m i = go (nat_lt i (length (message_bytes m.first)))
  where
    late : (a b : Bool) → reselection_if (b || false) ≤ reselection_if (a || b)
    late true true = omega arith
    late true false = omega arith
    late false true = omega arith
    late false false = omega arith

    go : (q : Bool) → reselection_if (disconnects (if q then m else record { first = m.second; second = None }))
        ≤ reselection_if (disconnects m)
    go true = omega arith
    go false = late (is_disconnect m.first) (is_disconnect m.second)

messages_again : (m : Messages) (place : ℕ) (x : ℕ) (next : Next)
    → 128 + after_next (from_byte m place) next + 128 ≤ after_next m next + (x + 8 * 128)
messages_again m place x Next.FreeBus = let less = from_less m place in omega (arith, less)
messages_again m place x _ = omega arith

request_answered : (m : Messages) (next : Next) → after_answer next + 128 ≤ after_next m next + 0
request_answered m Next.FreeBus = omega arith
request_answered m _ = omega arith

next_some : (m : Messages) (next : Next) → 128 ≤ after_next m next
next_some m Next.FreeBus = omega arith
next_some m _ = omega arith

-- The phase before it by MSG and C/D, I/O being true.
pays_by : (s : ScenarioValue) (r struck m d : Bool) (l : Plan) (place : ℕ) → after_words struck (record (plan_anew l) {
  cause =
      if m && d && true then Cause.InMessage else if d then Cause.InStatus else Cause.InData;
  messages =
      if m && d && true then from_byte l.messages place else l.messages;
}) (if m && d && true then Cause.InMessage else if d then Cause.InStatus else Cause.InData) + 128
    ≤ phases_in r l (if m then Phase.MessageIn else if d then Phase.Status else Phase.DataIn) + struck_left s struck
pays_by s r true true true l place = messages_again l.messages place (for_byte * longest_need s s.commands) l.next
pays_by s r false true true l place = request_answered l.messages l.next
pays_by s r true true false l place = let some = next_some l.messages l.next in omega (arith, some)
pays_by s r false true false l place = let some = next_some l.messages l.next in omega (arith, some)
pays_by s r true false true l place = omega arith
pays_by s r false false true l place = omega arith
pays_by s r true false false l place = omega arith
pays_by s r false false false l place = omega arith

-- ---- the row

pub turn_of : (row : Row) (n : Connection) (c : Change) → RowKind row n c → changes_phase c ≡ true
    → (is_fault row.kind ≡ false) × (receiver_in n c ≡ None)
turn_of row n c (rows.still f e r) t = wrong (sym t ∙ e)
turn_of row n c (rows.strikes f e r) t = wrong (sym t ∙ e)
turn_of row n c (rows.crosses d f e r) t = wrong (sym t ∙ e)
turn_of row n c (rows.turns f e r) t = (f, r)

out_phase : (l : LineSet) → is_message_out l ≡ true → phase_of l ≡ Phase.MessageOut
out_phase l e = go l.msg l.cd l.io e
  where
    go : (m d i : Bool) → (m && d && not i) ≡ true → (if m then (if i then Phase.MessageIn else Phase.MessageOut)
        else if d then (if i then Phase.Status else Phase.Command) else if i then Phase.DataIn else Phase.DataOut)
        ≡ Phase.MessageOut
    go true true false z = refl
    go true true true z = absurd cc
    go true false i z = absurd cc
    go false d i z = absurd cc

-- What is left after it.
pub out_after : (s : ScenarioValue) (p : List Row) (row : Row) (n : Connection) (c : Change)
    → IsRowIn (run_state s p) row n c → changes_phase c ≡ true
    → (run_state s p).exchange.begun ≡ true → is_message_out c.after ≡ true → c.before.io ≡ true
    → phases_left (is_refusing s (row ∷ p)) (run_state s (row ∷ p)) ≡ after_words (is_struck_phase s p)
    (plan_in_message_out (hearing_of (run_state s p) row (reading_in (run_state s p).story.bus_state n c false))
    (run_state s p).exchange.plan) (cause_after c.before)
out_after s p row n c h turned begun out io =
    let k = run_state s p in
    let j = run_state s (row ∷ p) in
    let struck = is_struck_phase s p in
    let kind = turn_of row n c h.kind turned in
    let t = in_connection s k row n c true false false h turned (ap (λ (x : Option ℕ). is_some x) kind.1) kind.0 in
    let read = reading_is k row n c false h (ap (λ (x : Option ℕ). is_some x) kind.1) in
    let w = hearing_of k row (reading_in k.story.bus_state n c false) in
    let refusing : is_refusing s (row ∷ p) ≡ struck =
    (λ i. is_some (h.connection_is i) && is_some (read i).next && (if changes_phase (read i).change
    then (read i).change.before.io && struck && is_message_out (read i).change.after else is_refusing s p))
    ∙ (λ i. if turned i then io i && struck && out i else is_refusing s p) ∙ and_true struck in
    ap (λ (x : Bool). phases_left x j) refusing
    ∙ (λ i. if (t.exchange_is i).begun then phases_in struck (t.exchange_is i).plan (phase_of (t.bus_is i))
    else for_reselection + 8 * for_phase)
    ∙ (λ i. phases_in struck (if not (out i) then record (plan_anew k.exchange.plan) {
      messages = (leaving s k n.target).messages;
      next = (leaving s k n.target).next;
    } else if begun i then plan_in_message_out w k.exchange.plan else plan_anew k.exchange.plan)
    (out_phase c.after out i))

pub out_pays : (s : ScenarioValue) (p : List Row) (row : Row) (n : Connection) (c : Change)
    → IsRowIn (run_state s p) row n c → changes_phase c ≡ true
    → (run_state s p).exchange.begun ≡ true → is_message_out c.after ≡ true → c.before.io ≡ true
    → phases_left (is_refusing s (row ∷ p)) (run_state s (row ∷ p)) + 128
    ≤ phases_left (is_refusing s p) (run_state s p) + struck_left s (is_struck_phase s p)
out_pays s p row n c h turned begun out io =
    subst (λ x. x + 128 ≤ phases_left (is_refusing s p) k + struck_left s struck) (sym after) (subst (λ x.
    after_words struck (plan_in_message_out w k.exchange.plan) (cause_after c.before) + 128 ≤ x + struck_left s struck)
    (sym before) (subst (λ (q : Bool). after_words struck (record (plan_anew k.exchange.plan) {
      cause =
          if c.before.msg && c.before.cd && q then Cause.InMessage
          else if c.before.cd then Cause.InStatus else Cause.InData;
      messages =
          if c.before.msg && c.before.cd && q then from_byte k.exchange.plan.messages (k.handshakes.requests - 1)
          else k.exchange.plan.messages;
    })
    (if c.before.msg && c.before.cd && q then Cause.InMessage else if c.before.cd then Cause.InStatus else Cause.InData)
    + 128 ≤ phases_in (is_refusing s p) k.exchange.plan
    (if c.before.msg then (if q then Phase.MessageIn else Phase.MessageOut)
    else if c.before.cd then (if q then Phase.Status else Phase.Command) else if q then Phase.DataIn else Phase.DataOut)
    + struck_left s struck) (sym io)
    (pays_by s (is_refusing s p) struck c.before.msg c.before.cd k.exchange.plan (k.handshakes.requests - 1))))
  where
    k : RunState
    k = run_state s p

    struck : Bool
    struck = is_struck_phase s p

    w : Hearing
    w = hearing_of k row (reading_in k.story.bus_state n c false)

    after : phases_left (is_refusing s (row ∷ p)) (run_state s (row ∷ p))
        ≡ after_words struck (plan_in_message_out w k.exchange.plan) (cause_after c.before)
    after = out_after s p row n c h turned begun out io

    before : phases_left (is_refusing s p) k ≡ phases_in (is_refusing s p) k.exchange.plan (phase_of c.before)
    before = λ i. if begun i then phases_in (is_refusing s p) k.exchange.plan (phase_of (h.bus_is i))
        else for_reselection + 8 * for_phase

-- ---- only a phase to the initiator is left for it

left_in : (l : LineSet) → is_attended (phase_of l) ≡ true → l.io ≡ true
left_in l e = go l.msg l.cd l.io e
  where
    go : (m d i : Bool) → is_attended (if m then (if i then Phase.MessageIn else Phase.MessageOut)
        else if d then (if i then Phase.Status else Phase.Command) else if i then Phase.DataIn else Phase.DataOut)
        ≡ true → i ≡ true
    go m d true z = refl
    go true d false z = wrong' z
    go false true false z = wrong' z
    go false false false z = wrong' z

not_out : (b a : LineSet) → not (same_phase b a) ≡ true → is_message_out a ≡ true
    → (b.msg ≡ true → b.cd ≡ true) → is_out_phase (phase_of b) ≡ false
not_out b a turned out known = go b.msg b.cd b.io a.msg a.cd a.io turned out known
  where
    go : (m d i m2 d2 i2 : Bool) → not (same m m2 && same d d2 && same i i2) ≡ true → (m2 && d2 && not i2) ≡ true
        → (m ≡ true → d ≡ true) → is_out_phase (if m then (if i then Phase.MessageIn else Phase.MessageOut)
        else if d then (if i then Phase.Status else Phase.Command) else if i then Phase.DataIn else Phase.DataOut)
        ≡ false
    go true d true m2 d2 i2 t o f = refl
    go true true false true true false t o f = wrong' t
    go true true false true true true t o f = wrong' o
    go true true false true false i2 t o f = wrong' o
    go true true false false d2 i2 t o f = wrong' o
    go true false false m2 d2 i2 t o f = wrong' (f refl)
    go false true true m2 d2 i2 t o f = refl
    go false true false m2 d2 i2 t o f = refl
    go false false true m2 d2 i2 t o f = refl
    go false false false m2 d2 i2 t o f = refl

pub out_after_in : (s : ScenarioValue) (p : List Row) (row : Row) (n : Connection) (c : Change)
    → IsRowIn (run_state s p) row n c → HasPhase (run_state s p) → changes_phase c ≡ true
    → (run_state s p).exchange.begun ≡ true → is_message_out c.after ≡ true
    → (leaving s (run_state s p) n.target).to ≡ Some (phase_of c.after)
    → IsAttended (run_state s p) × (c.before.io ≡ true)
out_after_in s p row n c h known turned begun out to =
    let k = run_state s p in
    let lines = ap (λ (l : LineSet). l.cd) (sym h.bus_is) in
    let other = ap (λ (l : LineSet). is_out_phase (phase_of l)) h.bus_is
    ∙ not_out c.before c.after turned out (λ z. lines ∙ (known (ap (λ (l : LineSet). l.msg) h.bus_is ∙ z)).0) in
    let a = attended_for s k n.target begun other
    (ap is_out_next to ∙ ap (λ (x : Phase). is_out_next (Some x)) (out_phase c.after out)) in
    (a, left_in c.before (ap (λ (l : LineSet). is_attended (phase_of l)) (sym h.bus_is) ∙ a.phase))

pub attended_pays : (s : ScenarioValue) (p : List Row) (row : Row) (n : Connection) (c : Change)
    → IsRowIn (run_state s p) row n c → HasPhase (run_state s p) → changes_phase c ≡ true
    → (run_state s p).exchange.begun ≡ true → is_message_out c.after ≡ true
    → (leaving s (run_state s p) n.target).to ≡ Some (phase_of c.after)
    → phases_left (is_refusing s (row ∷ p)) (run_state s (row ∷ p)) + 128
    ≤ phases_left (is_refusing s p) (run_state s p) + struck_left s (is_struck_phase s p)
attended_pays s p row n c h known turned begun out to =
    out_pays s p row n c h turned begun out (out_after_in s p row n c h known turned begun out to).1

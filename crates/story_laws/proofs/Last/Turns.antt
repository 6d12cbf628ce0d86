-- The messages with which a target leaves a phase for MESSAGE IN end well.
use Rattle.story_laws.proofs
use proofs.Names.{inl, inr, ◌≡◌, Bool, true, refl, subst, ℕ, ◌<◌, false, ◌==◌, ◌∙◌, length, Option, Some, None, sym, ap}
use proofs.Names.{arith, same_Some, if◌then◌else◌, ◌-◌, is_some, nat_lt, wrong', wrong, ProcId, rises, changes_phase}
use proofs.Names.{is_message_out, is_message_in, receiver_in, Row, Change, Connection, Handshakes, no_handshakes}
use proofs.Names.{handshakes_after, asked_if, answered_if, in_bytes, MsgIn, Dialogue, ScenarioValue, row_reading, Link}
use proofs.Names.{plain, Exchange, from_byte, plan_anew, one_message, message_bytes, bytes_of_messages, Serving}
use proofs.Names.{phase_leaving, phase_of, leaving_by, after_messages, plan_in_message_out, plan_in_phase, Cause}
use proofs.Names.{Leaving, Messages, Next, Phase, Plan, RunState, bus_of, run_state_after, serving_of, leaving}
use proofs.Names.{hearing_of, InConnection, in_connection, OnMessages, LeavesWhole, reading_in, out_phase, in_phase}
use proofs.Names.{out_lines, is_out_next, plan_left, plan_out, some_zero, is_to_message_in, IsPlainIn, frees_bus}
use proofs.Names.{IsClosing, EndsWell, EndsWellIf, SaysEnd, LastGiven, still_stays, to_close, to_save, closed, LastBy}
use proofs.{Names.{LastTalk}, Items.Row.{link_still}, Last.{Bytes.{first_given, end_length}, Rows.{LastRow}}}
use proofs.Undone.Turns.{not_out}
use Rattle.story_laws.specs.LastTalks.{stays, closes, saves}
use Rattle.row_laws.specs.link_laws.proofs.LeavingWays as ways

well : (v : Serving) {attention : Bool} {phase : Phase} {l : Leaving} → ways.Leaves v attention phase l
    → (phase ≡ Phase.MessageOut → EndsWellIf v.plan v.plan.cause)
    → is_to_message_in l.to ≡ true → EndsWell l.messages l.next
well v (ways.rejects _ _ _) h e = stays refl (refl, tt)
well v (ways.answers _ _ _) h e = stays refl (refl, tt)
well v (ways.requests _ _ _ _) h e = stays refl (refl, tt)
well v (ways.repeats _ r) h e = subst (EndsWellIf v.plan) r.cause (h refl)
well v (ways.restores _ _ _ (ways.command _)) h e = stays refl (refl, tt)
well v (ways.restores _ _ _ (ways.data_out _)) h e = stays refl (refl, tt)
well v (ways.restores _ _ _ (ways.data_in _)) h e = stays refl (refl, tt)
well v (ways.restores_status _ _) h e = stays refl (refl, tt)
well v (ways.queues _ _) h e = closes refl MsgIn.Disconnect refl (inr refl)
well v (ways.saves _ _ _ _ _) h e = saves refl refl
well v (ways.disconnects _ _ _ _ _) h e = closes refl MsgIn.Disconnect refl (inr refl)
well v (ways.completes _) h e = closes refl MsgIn.CommandComplete refl (inl refl)
well v _ h e = wrong' e

pub leaves_well : (v : Serving) (attention : Bool) (phase : Phase)
    → (phase ≡ Phase.MessageOut → EndsWellIf v.plan v.plan.cause)
    → is_to_message_in (phase_leaving v attention phase).to ≡ true
    → EndsWell (phase_leaving v attention phase).messages (phase_leaving v attention phase).next
leaves_well v attention phase = well v (ways.leaves v attention phase)

-- ---- The last message of a connection, as a phase of it is left for another; and as it begins.

-- ---- MESSAGE IN is left for MESSAGE OUT

end_front : (x : MsgIn) → SaysEnd x → length (in_bytes x) ≡ 1
end_front x (inl e) = ap (λ (y : MsgIn). length (in_bytes y)) e
end_front x (inr e) = ap (λ (y : MsgIn). length (in_bytes y)) e

stays_from : (m : Messages) (i : ℕ) → OnMessages IsPlainIn m → OnMessages IsPlainIn (from_byte m i)
stays_from m i h = go (nat_lt i (length (message_bytes m.first)))
  where
    go : (q : Bool) → OnMessages IsPlainIn (if q then m else record { first = m.second; second = None })
    go true = h
    go false = (h.1, tt)

-- What is left of the messages ends well, too.
pub from_ends : (l : Link) (m : Messages) (next : Next) (count : ℕ) → LastGiven l m next count → (count == 0) ≡ false
    → EndsWell (from_byte m (count - 1)) next
from_ends l m next count (still_stays f all last) some = stays f (stays_from m (count - 1) all)
from_ends l m next count (to_close f x one end zero last) some = some_zero count some zero
from_ends l m next count (to_save f both (inl zero) last) some = some_zero count some zero
from_ends l m next count (to_save f both (inr one) last) some = saves f ((λ i. from_byte (both i) (one i - 1)))
from_ends l m next count (closed f ends full last told) some = go ends
  where
    go : EndsWell m next → EndsWell (from_byte m (count - 1)) next
    go (stays g all) = wrong (sym f ∙ g)
    go (closes g x one end) =
        let is : count ≡ 1 = full ∙ ap (λ (y : Messages). length (bytes_of_messages y)) one ∙ end_length x end in
        closes f x ((λ i. from_byte (one i) (is i - 1)) ∙ ap
        (λ (z : ℕ). if nat_lt 0 z then one_message x else record { first = None; second = None }) (end_front x end)) end
    go (saves g both) =
        let is : count ≡ 2 = full ∙ ap (λ (y : Messages). length (bytes_of_messages y)) both in
        closes f MsgIn.Disconnect (λ i. from_byte (both i) (is i - 1)) (inr refl)

-- ---- MESSAGE IN is left for another phase

goes_elsewhere : (v : Serving) (attention : Bool) (phase : Phase)
    → (phase_leaving v attention Phase.MessageIn).to ≡ Some phase → is_out_next (Some phase) ≡ false
    → frees_bus v.plan.next ≡ false
goes_elsewhere v true phase e f = wrong (ap is_out_next e ∙ f)
goes_elsewhere v false phase e f = go v.plan.next e
  where
    no_phase : {A : Type 0} → (let o : Option Phase = None in o) ≡ Some phase → A
    no_phase z = absurd cc

    go : (next : Next) → (after_messages v next).to ≡ Some phase → frees_bus next ≡ false
    go Next.FreeBus z = no_phase z
    go _ z = refl

given_plain : (l : Link) (m : Messages) (next : Next) (count : ℕ) → LastGiven l m next count → frees_bus next ≡ false
    → l.last ≡ plain
given_plain l m next count (still_stays f all last) e = last
given_plain l m next count (to_close f x one end zero last) e = last
given_plain l m next count (to_save f both at last) e = last
given_plain l m next count (closed f ends full last told) e = wrong (sym f ∙ e)

left_plain : (l : Link) (a : Plan) (count : ℕ) (last : Bool) (phase : Phase) → (phase ≡ Phase.MessageOut → last ≡ true)
    → (phase ≡ Phase.MessageIn → frees_bus a.next ≡ false) → LastBy l a count last phase → l.last ≡ plain
left_plain l a count last Phase.MessageOut e f h = h.0 (e refl)
left_plain l a count last Phase.MessageIn e f h = given_plain l a.messages a.next count h (f refl)
left_plain l a count last _ e f h = h

-- ---- a phase is left for another

pub record LastTurn (s : ScenarioValue) (k : RunState) (row : Row) (n : Connection) (c : Change) (l : Link)
    (id : ProcId) : Type 0 where
  pub row_is : LastRow s k row n c l id
  pub turns : changes_phase c ≡ true
  pub silent : receiver_in n c ≡ None
  pub known : c.after.msg ≡ true → c.after.cd ≡ true
  pub whereto : k.exchange.begun ≡ true → (leaving s k n.target).to ≡ Some (phase_of c.after)

pub turn_last : (s : ScenarioValue) (k : RunState) (row : Row) (n : Connection) (c : Change) (l m : Link) (id : ProcId)
    → LastTurn s k row n c l id → (run_state_after s k row).story.link ≡ Some m → LastTalk k l
    → LastTalk (run_state_after s k row) m
turn_last s k row n c l m id t em h = subst (λ (x : Link). LastTalk j x)
    (same_Some l m (sym (link_still s k row n c l g.goes.row_is none g.link_is) ∙ em))
    (record { before = h.before; unbegun = λ b. wrong (sym begun ∙ b); begun = λ b. go k.exchange.begun refl })
  where
    g : LastRow s k row n c l id
    g = t.row_is

    j : RunState
    j = run_state_after s k row

    none : is_some (receiver_in n c) ≡ false
    none = ap (λ (z : Option ℕ). is_some z) t.silent

    i : InConnection s k row n c true false false
    i = in_connection s k row n c true false false g.goes.row_is t.turns none g.lines

    begun : j.exchange.begun ≡ true
    begun = ap (λ (x : Exchange). x.begun) i.exchange_is

    v : Serving
    v = serving_of s k n.target

    change : changes_phase (row_reading k.story.bus_state row).change ≡ true
    change = ap changes_phase g.goes.row_is.change_is ∙ t.turns

    leaves : LeavesWhole s k n
    leaves = g.goes.leaves change

    plan : j.exchange.plan ≡ plan_in_phase (hearing_of k row (reading_in k.story.bus_state n c false))
        (leaving s k n.target) k.exchange.plan
    plan = ap (λ (x : Exchange). x.plan) i.exchange_is

    asked : j.handshakes.requests ≡ 0
    asked = ap (λ (x : Handshakes). x.requests) i.handshakes_is
        ∙ ap (λ (q : Bool). (handshakes_after q (Some n) c row.time k.handshakes).requests) g.lines
        ∙ ap (λ (q : Bool). (if q then no_handshakes else answered_if (rises c.before.ack c.after.ack) row.time
        (asked_if (rises c.before.req c.after.req) row.time k.handshakes)).requests) t.turns

    last : j.story.bus_state.dialogue.is_last ≡ false
    last = ap (λ (d : Dialogue). d.is_last) i.dialogue_is

    at : (phase : Phase) → phase_of c.after ≡ phase
        → LastBy l j.exchange.plan j.handshakes.requests j.story.bus_state.dialogue.is_last phase
        → LastBy l j.exchange.plan j.handshakes.requests j.story.bus_state.dialogue.is_last (phase_of (bus_of j))
    at phase e w = subst (LastBy l j.exchange.plan j.handshakes.requests j.story.bus_state.dialogue.is_last)
        (sym (ap phase_of i.bus_is ∙ e)) w

    unsaid : j.story.bus_state.dialogue.is_last ≡ true → l.last ≡ plain
    unsaid z = wrong' (sym last ∙ z)

    out_plan : is_message_out c.after ≡ true → (q : Bool) → k.exchange.begun ≡ q → j.exchange.plan
        ≡ (if q then plan_in_message_out (hearing_of k row (reading_in k.story.bus_state n c false)) k.exchange.plan
        else plan_anew k.exchange.plan)
    out_plan out q b = plan ∙ plan_out (hearing_of k row (reading_in k.story.bus_state n c false))
        (leaving s k n.target) k.exchange.plan out b

    first_out : k.exchange.begun ≡ false
        → LastBy l j.exchange.plan j.handshakes.requests j.story.bus_state.dialogue.is_last (phase_of (bus_of j))
    first_out b =
        let out : is_message_out c.after ≡ true =
        sym (ap (λ (x : Change). is_message_out x.after) g.goes.row_is.change_is) ∙ g.goes.first change b in
        let cause : j.exchange.plan.cause ≡ Cause.Selected = ap (λ (x : Plan). x.cause) (out_plan out false b)
        ∙ (g.speaks.before_all b).cause_is in
        at Phase.MessageOut (out_phase c.after out) (unsaid, subst (EndsWellIf j.exchange.plan) (sym cause) tt)

    from : k.exchange.begun ≡ true → is_message_out c.after ≡ true → EndsWellIf j.exchange.plan j.exchange.plan.cause
    from b out =
        subst (λ (x : Plan). EndsWellIf x x.cause) (sym (out_plan out true b)) (by (is_message_in c.before) refl)
      where
        w : Plan
        w = plan_in_message_out (hearing_of k row (reading_in k.story.bus_state n c false)) k.exchange.plan

        ends_as : (q : Bool) → is_message_in c.before ≡ q
            → EndsWellIf w (if q then Cause.InMessage else if c.before.cd then Cause.InStatus else Cause.InData)
            → EndsWellIf w w.cause
        ends_as q e x = subst (λ (z : Bool). EndsWellIf w
            (if z then Cause.InMessage else if c.before.cd then Cause.InStatus else Cause.InData)) (sym e) x

        detecting : (q : Bool) → EndsWellIf w (if q then Cause.InStatus else Cause.InData)
        detecting true = tt
        detecting false = tt

        by : (q : Bool) → is_message_in c.before ≡ q → EndsWellIf w w.cause
        by false e = ends_as false e (detecting c.before.cd)
        by true e =
            let here : phase_of (bus_of k) ≡ Phase.MessageIn = ap phase_of g.goes.row_is.bus_is ∙ in_phase c.before e in
            let given : LastGiven l k.exchange.plan.messages k.exchange.plan.next k.handshakes.requests = subst
            (LastBy l k.exchange.plan k.handshakes.requests k.story.bus_state.dialogue.is_last) here (h.begun b) in
            ends_as true e (subst (λ (x : Messages). EndsWell x k.exchange.plan.next)
            (ap (λ (q : Bool). if q then from_byte k.exchange.plan.messages (k.handshakes.requests - 1)
            else k.exchange.plan.messages) (sym e))
            (from_ends l k.exchange.plan.messages k.exchange.plan.next k.handshakes.requests given (leaves.some here)))

    leaving_is : k.exchange.begun ≡ true → leaving s k n.target ≡ phase_leaving v (bus_of k).atn (phase_of (bus_of k))
    leaving_is b = λ z. leaving_by v (b z) (bus_of k)

    left : k.exchange.begun ≡ true → is_out_next (Some (phase_of c.after)) ≡ false → l.last ≡ plain
    left b elsewhere = left_plain l k.exchange.plan k.handshakes.requests k.story.bus_state.dialogue.is_last
        (phase_of (bus_of k)) leaves.out (λ e. goes_elsewhere v (bus_of k).atn
        (phase_of c.after) (ap (λ (p : Phase). (phase_leaving v (bus_of k).atn p).to) (sym e)
        ∙ sym (ap (λ (x : Leaving). x.to) (leaving_is b)) ∙ t.whereto b) elsewhere) (h.begun b)

    into : (b : k.exchange.begun ≡ true) → phase_of c.after ≡ Phase.MessageIn
        → LastGiven l j.exchange.plan.messages j.exchange.plan.next j.handshakes.requests
    into b e =
        let x : Leaving = phase_leaving v (bus_of k).atn (phase_of (bus_of k)) in
        let is : j.exchange.plan ≡ record (plan_anew k.exchange.plan) { messages = x.messages; next = x.next } = plan
        ∙ plan_left (hearing_of k row (reading_in k.story.bus_state n c false))
        (leaving s k n.target) k.exchange.plan (not_out c.after e) ∙ ap
        (λ (y : Leaving). record (plan_anew k.exchange.plan) { messages = y.messages; next = y.next }) (leaving_is b) in
        let to : is_to_message_in x.to ≡ true = ap (λ (y : Leaving). is_to_message_in y.to) (sym (leaving_is b))
        ∙ ap is_to_message_in (t.whereto b ∙ ap (λ (p : Phase). Some p) e) in
        let said : phase_of (bus_of k) ≡ Phase.MessageOut → EndsWellIf k.exchange.plan k.exchange.plan.cause = λ z.
        (subst (LastBy l k.exchange.plan k.handshakes.requests k.story.bus_state.dialogue.is_last) z (h.begun b)).1 in
        subst (λ (p : Plan). LastGiven l p.messages p.next j.handshakes.requests) (sym is) (first_given l
        x.messages x.next j.handshakes.requests (leaves_well v (bus_of k).atn (phase_of (bus_of k)) said to) asked
        (left b (ap (λ (p : Phase). is_out_next (Some p)) e)))

    go : (q : Bool) → k.exchange.begun ≡ q
        → LastBy l j.exchange.plan j.handshakes.requests j.story.bus_state.dialogue.is_last (phase_of (bus_of j))
    go false b = first_out b
    go true b = by (phase_of c.after) refl
      where
        by : (p : Phase) → phase_of c.after ≡ p
            → LastBy l j.exchange.plan j.handshakes.requests j.story.bus_state.dialogue.is_last (phase_of (bus_of j))
        by Phase.MessageOut e = at Phase.MessageOut e (unsaid, from b (out_lines c.after e t.known))
        by Phase.MessageIn e = at Phase.MessageIn e (into b e)
        by Phase.Command e = at Phase.Command e (left b (ap (λ (x : Phase). is_out_next (Some x)) e))
        by Phase.DataIn e = at Phase.DataIn e (left b (ap (λ (x : Phase). is_out_next (Some x)) e))
        by Phase.DataOut e = at Phase.DataOut e (left b (ap (λ (x : Phase). is_out_next (Some x)) e))
        by Phase.Status e = at Phase.Status e (left b (ap (λ (x : Phase). is_out_next (Some x)) e))

-- ---- as a connection ends

differ : {A : Type 0} (x a b : ℕ) → x ≡ a → x ≡ b → a < b → A
differ x a b e f lt = absurd omega (arith, e, f, lt)

-- With ATN false, after all bytes of the messages.
pub ends_closing : (l : Link) (m : Messages) (next : Next) (count : ℕ) → LastGiven l m next count
    → frees_bus next ≡ true → count ≡ length (bytes_of_messages m) → IsClosing l.last
ends_closing l m next count (still_stays f all last) e full = wrong (sym e ∙ f)
ends_closing l m next count (to_close f x one end zero last) e full = differ count 0 1 zero
    (full ∙ ap (λ (y : Messages). length (bytes_of_messages y)) one ∙ end_length x end) (omega arith)
ends_closing l m next count (to_save f both (inl zero) last) e full =
    differ count 0 2 zero (full ∙ ap (λ (y : Messages). length (bytes_of_messages y)) both) (omega arith)
ends_closing l m next count (to_save f both (inr one) last) e full =
    differ count 1 2 one (full ∙ ap (λ (y : Messages). length (bytes_of_messages y)) both) (omega arith)
ends_closing l m next count (closed f ends all last told) e full = last

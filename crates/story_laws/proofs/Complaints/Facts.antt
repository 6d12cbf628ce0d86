-- Of a prompt trace: in a phase to it the initiator raises ATN only where a byte was struck, or to answer a request;
-- and so it says in the MESSAGE OUT that follows.
use Rattle.story_laws.proofs
use proofs.Names.{ℕ, ◌≡◌, inl, inr, Bool, true, false, not, ◌&&◌, ◌||◌, ◌∙◌, List, [], ◌∷◌, ◌++◌, length, Option, Some}
use proofs.Names.{None, refl, sym, ap, subst, or_right, drop, if◌then◌else◌, is_some, nat_lt, wrong, wrong', or_true}
use proofs.Names.{change_of, implies, rises, LineSet, same, changes_phase, is_message_out, connection, connection_after}
use proofs.Names.{is_fault, receiver_in, bus, Row, Change, Connection, Handshakes, answered_if, asked_if, first_of}
use proofs.Names.{handshakes, handshakes_after, is_struck, no_handshakes, Request, MsgIn, MsgOut, dialogue, is_of_other}
use proofs.Names.{End, ScenarioValue, Obeys, row_reading, Exchange, Speech, plan_after_message, speech_after_byte}
use proofs.Names.{speech_after_request, speech_of, struck_plan, begun, phase_of, cause_after, words_after, answer_bytes}
use proofs.Names.{detected_error, parity_error, Cause, Hearing, Phase, Plan, host_of, IsLeast, due, IsPrompt, IsPlain}
use proofs.Names.{RunState, bus_of, run_state, run_state_after, hearing_of, leaving, InConnection, SamePhase}
use proofs.Names.{in_connection, same_phase_is, HasPhase, is_out_phase, IsRowIn, RowKind, reading_in, still, strikes}
use proofs.Names.{crosses, turns, GoesOn, is_refusing, is_struck_phase, change_plain, least_is, BeginsConnection}
use proofs.Names.{by_selection, by_reselection, none_some, is_out_next, plan_out, by_bool, attention_row, ConnectionRow}
use proofs.Names.{GoingRow, RowKindOf, begins_now, connection_row, goes_now, going_row, link_low, row_kind}
use proofs.Names.{stage_of_connection, IsFirst, NextStood, Stood, link_phase, Attention, OfferFacts, offer_now}
use proofs.{Names.{ComplaintFacts, ComplaintsBy, Refuses, any_struck}, Commands.Stays.{phase_same}}
use proofs.Complaints.{Rows.{On, Raised, newest, oldest, raised_row, requested, was as before}, Turns.{IsAttended}}
use proofs.{Complaints.Turns.{attended_for, left_for_out}, Instructed.Turns.{out_is}, Pointers.Leavings.{is_attended}}

-- ---- the newest request, and those that wait

struck_on : (a r : Bool) (t : ℕ) (h : Handshakes) → (answered_if a t (asked_if r t h)).struck ≡ true → h.struck ≡ true
struck_on true true t h e = wrong' e
struck_on false true t h e = wrong' e
struck_on true false t h e = e
struck_on false false t h e = e

later : (ws : List Request) → any_struck (drop 1 ws) ≡ true → any_struck ws ≡ true
later [] e = e
later (r ∷ ws) e = (λ i. r.struck || e i) ∙ or_true r.struck

with_new : (ws : List Request) (t : ℕ) → any_struck (ws ++ record { time = t; struck = false } ∷ []) ≡ true
    → any_struck ws ≡ true
with_new [] t e = e
with_new (r ∷ ws) t e = go r.struck (with_new ws t) e
  where
    go : (q : Bool) → (any_struck (ws ++ record { time = t; struck = false } ∷ []) ≡ true → any_struck ws ≡ true)
        → (q || any_struck (ws ++ record { time = t; struck = false } ∷ [])) ≡ true → (q || any_struck ws) ≡ true
    go true f z = refl
    go false f z = f z

opened_on : (ws : List Request) (t : ℕ) (q : Bool)
    → any_struck (if q then ws ++ record { time = t; struck = false } ∷ [] else ws) ≡ true → any_struck ws ≡ true
opened_on ws t true e = with_new ws t e
opened_on ws t false e = e

waiting_on : (a r : Bool) (t : ℕ) (h : Handshakes) → any_struck (answered_if a t (asked_if r t h)).waiting ≡ true
    → any_struck h.waiting ≡ true
waiting_on true true t h e = opened_on h.waiting t (nat_lt (length h.waiting) 255) (later (asked_if true t h).waiting e)
waiting_on false true t h e = opened_on h.waiting t (nat_lt (length h.waiting) 255) e
waiting_on true false t h e = later h.waiting e
waiting_on false false t h e = e

first_any : (ws : List Request) → is_struck (first_of ws) ≡ true → any_struck ws ≡ true
first_any [] e = wrong' e
first_any (r ∷ ws) e = λ i. e i || any_struck ws

-- ---- lines

out_msg : (b : LineSet) → phase_of b ≡ Phase.MessageOut → b.msg ≡ true
out_msg b e = go b.msg b.cd b.io (ap is_out_phase e)
  where
    go : (m d i : Bool) → is_out_phase (if m then (if i then Phase.MessageIn else Phase.MessageOut)
        else if d then (if i then Phase.Status else Phase.Command) else if i then Phase.DataIn else Phase.DataOut)
        ≡ true → m ≡ true
    go true d i z = refl
    go false true true z = wrong' z
    go false true false z = wrong' z
    go false false true z = wrong' z
    go false false false z = wrong' z

abbrev is_to_target : Phase → Bool
is_to_target Phase.Command = true
is_to_target Phase.DataOut = true
is_to_target _ = false

to_target : (b : LineSet) → is_to_target (phase_of b) ≡ true → (b.io ≡ false) × (b.msg ≡ false)
to_target b e = go b.msg b.cd b.io e
  where
    go : (m d i : Bool) → is_to_target (if m then (if i then Phase.MessageIn else Phase.MessageOut)
        else if d then (if i then Phase.Status else Phase.Command) else if i then Phase.DataIn else Phase.DataOut)
        ≡ true → (i ≡ false) × (m ≡ false)
    go true d true z = wrong' z
    go true d false z = wrong' z
    go false true true z = wrong' z
    go false true false z = (refl, refl)
    go false false true z = wrong' z
    go false false false z = (refl, refl)

out_of : (x : Phase) → is_out_phase x ≡ true → x ≡ Phase.MessageOut
out_of Phase.MessageOut e = refl
out_of _ e = wrong' e

not_out_again : (c : Change) → changes_phase c ≡ true → is_message_out c.before ≡ true → is_message_out c.after ≡ false
not_out_again c ep e = go c.before.msg c.before.cd c.before.io c.after.msg c.after.cd c.after.io ep e
  where
    go : (m d i x y z : Bool) → not (same m x && same d y && same i z) ≡ true → (m && d && not i) ≡ true
        → (x && y && not z) ≡ false
    go false d i x y z f g = wrong' g
    go true false i x y z f g = wrong' g
    go true true true x y z f g = wrong' g
    go true true false false y z f g = refl
    go true true false true false z f g = refl
    go true true false true true true f g = refl
    go true true false true true false f g = wrong' f

-- ---- what the initiator says stays

plan_said : (q last : Bool) (m : Option MsgOut) (l : Plan)
    → (if q then plan_after_message l last m else l).cause ≡ l.cause
plan_said true true m l = refl
plan_said true false m l = refl
plan_said false last m l = refl

plan_struck : (q : Bool) (l : Plan) → (if q then struck_plan l else l).cause ≡ l.cause
plan_struck true l = refl
plan_struck false l = refl

pub speech_said : (q : Bool) (m : Option MsgIn) (v : Speech)
    → (if q then speech_after_byte v else speech_after_request v m).words ≡ v.words
speech_said true m v = refl
speech_said false m v = refl

record SameSaid (k j : RunState) : Type 0 where
  words : j.exchange.speech.words ≡ k.exchange.speech.words
  cause : j.exchange.plan.cause ≡ k.exchange.plan.cause

said_same : (s : ScenarioValue) (k : RunState) (row : Row) (n : Connection) (c : Change) (now fault : Bool)
    → InConnection s k row n c false now fault → SameSaid k (run_state_after s k row)
said_same s k row n c true fault at =
    let d = reading_in k.story.bus_state n c true in
    record {
      words = ap (λ (x : Exchange). x.speech.words) at.exchange_is
          ∙ speech_said (is_message_out c.before) d.into k.exchange.speech;
      cause = ap (λ (x : Exchange). x.plan.cause) at.exchange_is
          ∙ plan_said (is_message_out c.before) k.story.bus_state.dialogue.is_last d.out k.exchange.plan;
    }
said_same s k row n c false fault at = record {
  words = ap (λ (x : Exchange). x.speech.words) at.exchange_is;
  cause = ap (λ (x : Exchange). x.plan.cause) at.exchange_is ∙ plan_struck (fault && not c.before.io) k.exchange.plan;
}

refuses_as : (k j : RunState) (a b : Bool) (cause : Cause) → b ≡ a → j.exchange.speech.words ≡ k.exchange.speech.words
    → Refuses a k cause → Refuses b j cause
refuses_as k j a b Cause.Selected e w h = refl
refuses_as k j a b Cause.InMessage e w (inl z) = inl (e ∙ z)
refuses_as k j a b Cause.InMessage e w (inr (h, g, z)) = inr (h, g, w ∙ z)
refuses_as k j a b Cause.InData e w h = e ∙ h
refuses_as k j a b Cause.InStatus e w h = e ∙ h

-- ---- a row of the connection, that leaves no phase or one

record RowHere (s : ScenarioValue) (p : List Row) (row : Row) (n : Connection) (c : Change) : Type 0 where
  row_is : IsRowIn (run_state s p) row n c
  next : (row_reading (run_state s p).story.bus_state row).next ≡ Some n
  change : (row_reading (run_state s p).story.bus_state row).change ≡ c
  raised : On p c
  facts : ComplaintsBy s p (run_state s p)
  started : (run_state s p).exchange.begun ≡ true
  plain : IsPlain s p (run_state s p)
  settled : (bus_of (run_state s p)).msg ≡ false → offer_now (run_state s p).story.bus_state.dialogue ≡ None

struck_next : (s : ScenarioValue) (p : List Row) (row : Row) (n : Connection) (c : Change) → RowHere s p row n c
    → changes_phase c ≡ false → is_struck_phase s (row ∷ p) ≡ (is_fault row.kind || is_struck_phase s p)
struck_next s p row n c h ep = λ i. is_some (h.row_is.connection_is i) && is_some (h.next i)
    && not ((ap changes_phase h.change ∙ ep) i) && (is_fault row.kind || is_struck_phase s p)

refusing_next : (s : ScenarioValue) (p : List Row) (row : Row) (n : Connection) (c : Change) (q : Bool)
    → RowHere s p row n c → changes_phase c ≡ q → is_refusing s (row ∷ p)
    ≡ (if q then c.before.io && is_struck_phase s p && is_message_out c.after else is_refusing s p)
refusing_next s p row n c q h ep = λ i. is_some (h.row_is.connection_is i) && is_some (h.next i)
    && (if (ap changes_phase h.change ∙ ep) i
    then (h.change i).before.io && is_struck_phase s p && is_message_out (h.change i).after else is_refusing s p)

stays_true : (s : ScenarioValue) (p : List Row) (row : Row) (n : Connection) (c : Change) (now : Bool)
    → RowHere s p row n c → changes_phase c ≡ false → is_some (receiver_in n c) ≡ now
    → ComplaintsBy s (row ∷ p) (run_state s (row ∷ p))
stays_true s p row n c now h ep er = record {
  struck = λ e. struck_next s p row n c h ep
      ∙ newest_is (is_fault row.kind) refl (sym (ap (λ (x : Handshakes). x.struck) at.handshakes_is) ∙ e);
  waiting = λ e. struck_next s p row n c h ep
      ∙ waits (is_fault row.kind) refl (sym (ap (λ (x : Handshakes). any_struck x.waiting) at.handshakes_is) ∙ e);
  attends = λ io msg atn. struck_next s p row n c h ep ∙ or_right (is_fault row.kind)
      (is_struck_phase s p) (attended (sym lines.io ∙ ap (λ (l : LineSet). l.io) (sym at.bus_is) ∙ io)
      (sym lines.msg ∙ ap (λ (l : LineSet). l.msg) (sym at.bus_is) ∙ msg)
      (ap (λ (l : LineSet). l.atn) (sym at.bus_is) ∙ atn));
  refuses = λ e. subst (λ (x : Cause). Refuses (is_refusing s (row ∷ p)) j x) (sym said.cause)
      (refuses_as k j (is_refusing s p) (is_refusing s (row ∷ p)) k.exchange.plan.cause
      (refusing_next s p row n c false h ep) said.words (h.facts.refuses
      (sym (ap phase_of at.bus_is ∙ phase_same c.before c.after lines ∙ ap phase_of (sym h.row_is.bus_is)) ∙ e)));
}
  where
    k : RunState
    k = run_state s p

    j : RunState
    j = run_state s (row ∷ p)

    at : InConnection s k row n c false now (is_fault row.kind)
    at = in_connection s k row n c false now (is_fault row.kind) h.row_is ep er refl

    lines : SamePhase c.before c.after
    lines = same_phase_is c ep

    said : SameSaid k j
    said = said_same s k row n c now (is_fault row.kind) at

    hands : (r : Bool) → is_fault row.kind ≡ r
        → handshakes_after (is_fault row.kind) (Some n) c row.time k.handshakes
        ≡ (if r then handshakes_after true (Some n) c row.time k.handshakes else answered_if
        (rises c.before.ack c.after.ack) row.time (asked_if (rises c.before.req c.after.req) row.time k.handshakes))
    hands true e = λ i. handshakes_after (e i) (Some n) c row.time k.handshakes
    hands false e = (λ i. handshakes_after (e i) (Some n) c row.time k.handshakes)
        ∙ ap (λ (q : Bool). if q then no_handshakes else answered_if (rises c.before.ack c.after.ack) row.time
        (asked_if (rises c.before.req c.after.req) row.time k.handshakes)) ep

    newest_is : (r : Bool) → is_fault row.kind ≡ r
        → (handshakes_after (is_fault row.kind) (Some n) c row.time k.handshakes).struck ≡ true
        → (is_fault row.kind || is_struck_phase s p) ≡ true
    newest_is true e z = λ i. e i || is_struck_phase s p
    newest_is false e z = or_right (is_fault row.kind) (is_struck_phase s p) (h.facts.struck
        (struck_on _ _ row.time k.handshakes (sym (ap (λ (x : Handshakes). x.struck) (hands false e)) ∙ z)))

    waits : (r : Bool) → is_fault row.kind ≡ r
        → any_struck (handshakes_after (is_fault row.kind) (Some n) c row.time k.handshakes).waiting ≡ true
        → (is_fault row.kind || is_struck_phase s p) ≡ true
    waits true e z = λ i. e i || is_struck_phase s p
    waits false e z = or_right (is_fault row.kind) (is_struck_phase s p) (h.facts.waiting (waiting_on _ _ row.time
        k.handshakes (sym (ap (λ (x : Handshakes). any_struck x.waiting) (hands false e)) ∙ z)))

    attended : c.before.io ≡ true → c.before.msg ≡ false → c.after.atn ≡ true → is_struck_phase s p ≡ true
    attended io msg atn = by (h.raised io atn)
      where
        here : (bus_of k).msg ≡ false
        here = ap (λ (l : LineSet). l.msg) h.row_is.bus_is ∙ msg

        by : Raised p c → is_struck_phase s p ≡ true
        by (before e) = h.facts.attends (ap (λ (l : LineSet). l.io) h.row_is.bus_is ∙ io) here
            (ap (λ (l : LineSet). l.atn) h.row_is.bus_is ∙ e)
        by (newest e) = h.facts.struck (ap (λ (x : Handshakes). x.struck) h.plain.handshakes ∙ e)
        by (oldest e) = h.facts.waiting (first_any k.handshakes.waiting
            (ap (λ (x : Handshakes). is_struck (first_of x.waiting)) h.plain.handshakes ∙ e))
        by (requested e) = wrong' (sym (ap (λ (o : Option End). is_of_other o End.Initiator)
            (sym (ap offer_now h.plain.dialogue) ∙ h.settled here)) ∙ e)

-- ---- a phase is left

record Leaves (s : ScenarioValue) (p : List Row) (row : Row) (n : Connection) (c : Change) : Type 0 where
  here : RowHere s p row n c
  phase : HasPhase (run_state s p)
  no_fault : is_fault row.kind ≡ false
  keeps : c.after.atn ≡ c.before.atn
  whereto : (leaving s (run_state s p) n.target).to ≡ Some (phase_of c.after)
  known : c.after.msg ≡ true → c.after.cd ≡ true
  -- MESSAGE OUT is left with ATN false
  out : is_out_phase (phase_of (bus_of (run_state s p))) ≡ true → (bus_of (run_state s p)).atn ≡ false
  low : implies (bus_of (run_state s p)).atn ((bus_of (run_state s p)).io || (bus_of (run_state s p)).msg) ≡ true

turned : (s : ScenarioValue) (p : List Row) (row : Row) (n : Connection) (c : Change) → Leaves s p row n c
    → changes_phase c ≡ true → is_some (receiver_in n c) ≡ false → ComplaintsBy s (row ∷ p) (run_state s (row ∷ p))
turned s p row n c w ep er = record {
  struck = λ e. wrong' (sym (ap (λ (x : Handshakes). x.struck) none) ∙ e);
  waiting = λ e. wrong' (sym (ap (λ (x : Handshakes). any_struck x.waiting) none) ∙ e);
  attends = λ io msg atn. unattended (ap (λ (l : LineSet). l.io) (sym at.bus_is) ∙ io)
      (ap (λ (l : LineSet). l.msg) (sym at.bus_is) ∙ msg) (ap (λ (l : LineSet). l.atn) (sym at.bus_is) ∙ atn);
  refuses = λ e. says (ap phase_of (sym at.bus_is) ∙ e);
}
  where
    k : RunState
    k = run_state s p

    j : RunState
    j = run_state s (row ∷ p)

    at : InConnection s k row n c true false false
    at = in_connection s k row n c true false false w.here.row_is ep er w.no_fault

    none : j.handshakes ≡ no_handshakes
    none = at.handshakes_is ∙ (λ i. handshakes_after (w.no_fault i) (Some n) c row.time k.handshakes)
        ∙ ap (λ (q : Bool). if q then no_handshakes else answered_if (rises c.before.ack c.after.ack) row.time
        (asked_if (rises c.before.req c.after.req) row.time k.handshakes)) ep

    atn_of : {A : Type 0} → (bus_of k).atn ≡ true → is_out_phase (phase_of (bus_of k)) ≡ true → A
    atn_of e o = wrong (sym e ∙ w.out o)

    -- with ATN true another phase than MESSAGE OUT does not begin
    unattended : {A : Type 0} → c.after.io ≡ true → c.after.msg ≡ false → c.after.atn ≡ true → A
    unattended io msg atn = by (phase_of (bus_of k)) refl
      where
        on : (bus_of k).atn ≡ true
        on = ap (λ (l : LineSet). l.atn) w.here.row_is.bus_is ∙ sym w.keeps ∙ atn

        into : {A : Type 0} → is_attended (phase_of (bus_of k)) ≡ true → A
        into z = wrong
            (sym (out_msg c.after (phases_same (sym w.whereto ∙ left_for_out s k n.target w.here.started z on))) ∙ msg)
          where
            phases_same : (let o : Option Phase = Some (phase_of c.after) in o) ≡ Some Phase.MessageOut
                → phase_of c.after ≡ Phase.MessageOut
            phases_same e = cc

        low : {A : Type 0} → (bus_of k).io ≡ false → (bus_of k).msg ≡ false → A
        low a b = wrong' (sym (λ i. implies (on i) (a i || b i)) ∙ w.low)

        by : {A : Type 0} (x : Phase) → phase_of (bus_of k) ≡ x → A
        by Phase.MessageOut e = atn_of on (ap is_out_phase e)
        by Phase.Command e = let l = to_target (bus_of k) (ap is_to_target e) in low l.0 l.1
        by Phase.DataOut e = let l = to_target (bus_of k) (ap is_to_target e) in low l.0 l.1
        by _ e = into (ap is_attended e)

    says : phase_of c.after ≡ Phase.MessageOut → Refuses (is_refusing s (row ∷ p)) j j.exchange.plan.cause
    says e = subst (λ (x : Cause). Refuses (is_refusing s (row ∷ p)) j x) (sym cause)
        (go (is_out_phase (phase_of (bus_of k))) refl)
      where
        out : is_message_out c.after ≡ true
        out = out_is c.after w.known ∙ ap is_out_phase e

        here : Hearing
        here = hearing_of k row (reading_in k.story.bus_state n c false)

        cause : j.exchange.plan.cause ≡ cause_after c.before
        cause = ap (λ (x : Exchange). x.plan.cause) at.exchange_is
            ∙ ap (λ (x : Plan). x.cause) (plan_out here (leaving s k n.target) k.exchange.plan out w.here.started)

        words : j.exchange.speech.words ≡ words_after (host_of s n.initiator) here k.exchange.speech.asked
        words = ap (λ (x : Exchange). x.speech.words) at.exchange_is ∙ (λ z. (if out z && w.here.started z
            then speech_of k.exchange.speech (words_after (host_of s n.initiator) here k.exchange.speech.asked)
            else record k.exchange.speech { place = 0 }).words)

        refusing : c.before.io ≡ true → is_struck_phase s p ≡ true → is_refusing s (row ∷ p) ≡ true
        refusing io z = refusing_next s p row n c true w.here ep ∙ (λ i. io i && z i && out i)

        of_phase : IsAttended k → (m d i : Bool) → c.before.msg ≡ m → c.before.cd ≡ d → c.before.io ≡ i
            → is_attended (if m then (if i then Phase.MessageIn else Phase.MessageOut)
            else if d then (if i then Phase.Status else Phase.Command) else if i then Phase.DataIn else Phase.DataOut)
            ≡ true
            → Refuses (is_refusing s (row ∷ p)) j
            (if m && d && i then Cause.InMessage else if d then Cause.InStatus else Cause.InData)
        of_phase h true false i em ed ei z = wrong' (sym ed ∙ (ap (λ (l : LineSet). l.cd) (sym w.here.row_is.bus_is)
            ∙ (w.phase (ap (λ (l : LineSet). l.msg) w.here.row_is.bus_is ∙ em)).0))
        of_phase h true true false em ed ei z = wrong' z
        of_phase h false true false em ed ei z = wrong' z
        of_phase h false false false em ed ei z = wrong' z
        of_phase h false true true em ed ei z =
            refusing ei (w.here.facts.attends (ap (λ (l : LineSet). l.io) w.here.row_is.bus_is ∙ ei)
            (ap (λ (l : LineSet). l.msg) w.here.row_is.bus_is ∙ em) h.attends)
        of_phase h false false true em ed ei z =
            refusing ei (w.here.facts.attends (ap (λ (l : LineSet). l.io) w.here.row_is.bus_is ∙ ei)
            (ap (λ (l : LineSet). l.msg) w.here.row_is.bus_is ∙ em) h.attends)
        of_phase h true true true em ed ei z =
            by_bool k.handshakes.struck (λ f. inl (refusing ei (w.here.facts.struck f))) (λ f. inr (
              host_of s n.initiator,
              k.exchange.speech.asked,
              words ∙ (λ y. if not (em y && ed y && ei y) then detected_error
                  else if f y then parity_error else answer_bytes (host_of s n.initiator) k.exchange.speech.asked),
            ))

        go : (q : Bool) → is_out_phase (phase_of (bus_of k)) ≡ q
            → Refuses (is_refusing s (row ∷ p)) j (cause_after c.before)
        go true o = wrong (sym out ∙ not_out_again c ep
            (ap is_message_out (sym w.here.row_is.bus_is) ∙ out_is (bus_of k) (λ z. (w.phase z).0) ∙ o))
        go false o =
            let h = attended_for s k n.target w.here.started o
            (ap is_out_next w.whereto ∙ ap (λ (x : Phase). is_out_next (Some x)) e) in
            of_phase h c.before.msg c.before.cd c.before.io refl refl refl
            (ap (λ (l : LineSet). is_attended (phase_of l)) (sym w.here.row_is.bus_is) ∙ h.phase)

-- ---- any row

pub complaints_start : (s : ScenarioValue) → ComplaintFacts s []
complaints_start s n e calm b = none_some n e

pub complaints_next : (s : ScenarioValue) (p : List Row) (row : Row) → Obeys s → IsPrompt s (row ∷ p) → Stood s p
    → NextStood s p row → OfferFacts s p → ComplaintFacts s p → ComplaintFacts s (row ∷ p)
complaints_next s p row o prompt was nx offers facts x e calm b = by_kind (row_kind s p row x o prompt was e calm)
  where
    q : List Row
    q = row ∷ p

    k : RunState
    k = run_state s p

    j : RunState
    j = run_state s q

    m : IsLeast (due s p) 8 row
    m = least_is s p row prompt.1

    first : IsFirst s p row x → ComplaintsBy s q j
    first f = go f.begins
      where
        go : BeginsConnection q x → ComplaintsBy s q j
        go (by_selection h) = wrong (sym b ∙ nx.stood.plain.begun ∙ h.begun_is)
        go (by_reselection y h) =
            let none : j.handshakes ≡ no_handshakes = nx.stood.plain.handshakes ∙ h.handshakes_are in
            let lines = nx.stood.plain.bus ∙ h.linked.stands.bus_is in
            record {
              struck = λ z. wrong' (sym (ap (λ (w : Handshakes). w.struck) none) ∙ z);
              waiting = λ z. wrong' (sym (ap (λ (w : Handshakes). any_struck w.waiting) none) ∙ z);
              attends = λ io msg atn. wrong (sym (ap (λ (l : LineSet). l.msg) lines) ∙ msg);
              refuses = λ z. wrong' (sym (ap (λ (l : LineSet). is_out_phase (phase_of l)) lines) ∙ ap is_out_phase z);
            }

    goes : connection p ≡ Some x → (bus p).rst ≡ false → ComplaintsBy s q j
    goes con quiet = by w.row_is.kind
      where
        r : ConnectionRow s p row x
        r = connection_row s p row x o prompt was con quiet calm

        g : GoingRow s p row x
        g = going_row s p row x was.standing.devices m.inside con e calm nx.row_is r.facts

        c : Change
        c = g.lines.change

        w : GoesOn s k row x c
        w = subst (λ (y : Change). GoesOn s k row x y) (sym g.lines_are) g.goes

        change : c ≡ change_of p row
        change = g.lines_are ∙ g.change_is

        here : k.exchange.begun ≡ true → RowHere s p row x c
        here it = record {
          row_is = w.row_is;
          next = (λ i. connection_after (was.plain.connection i) (was.plain.call i)
              (change_plain s row p was.standing.devices m.inside i) row)
              ∙ e;
          change = w.row_is.change_is;
          raised = subst (λ (y : Change). On p y) (sym change) (raised_row s p row x e r.link);
          facts = facts x con quiet it;
          started = it;
          plain = was.plain;
          settled = λ z. (offers x con quiet).settled it z;
        }

        attention : Attention (handshakes p) (dialogue p) (begun p) x (change_of p row)
        attention = attention_row s p row x (link_low s p x r.stage) e r.link

        leaves : changes_phase c ≡ true → is_fault row.kind ≡ false → k.exchange.begun ≡ true → Leaves s p row x c
        leaves ep ef it =
            let start : begun p ≡ true = sym was.plain.begun ∙ it in
            let turn = attention.turns (ap changes_phase (sym change) ∙ ep) start in
            record {
              here = here it;
              phase = w.phase;
              no_fault = ef;
              keeps = ap (λ (y : Change). y.after.atn) change ∙ turn.0 ∙ ap (λ (y : Change). y.before.atn) (sym change);
              whereto = g.lines.whereto ep start;
              known = λ z.
                  let after : c.after ≡ bus q = ap (λ (y : Change). y.after) change in
                  ap (λ (l : LineSet). l.cd) after ∙ (link_phase s q x (stage_of_connection s q x nx.stood e calm)
                  (ap (λ (l : LineSet). l.msg) (sym after) ∙ z)).0;
              out = λ z.
                  let phase = out_of (phase_of (bus_of k)) z in
                  (g.lines.over ep start).attention (out_is (bus_of k) (λ y. (w.phase y).0) ∙ z)
                  ∙ ap not ((w.leaves (ap changes_phase w.row_is.change_is ∙ ep)).out phase);
              low = ap (λ (l : LineSet). implies l.atn (l.io || l.msg)) was.plain.bus ∙ attention.low start;
            }

        begun_by : (ph now fault : Bool) → InConnection s k row x c ph now fault
            → j.exchange.begun ≡ (ph || k.exchange.begun)
        begun_by ph now fault at = ap (λ (y : Exchange). y.begun) at.exchange_is

        stays_begun : changes_phase c ≡ false → k.exchange.begun ≡ true
        stays_begun ep = sym (begun_by false (is_some (receiver_in x c)) (is_fault row.kind)
            (in_connection s k row x c false (is_some (receiver_in x c)) (is_fault row.kind) w.row_is ep refl refl))
            ∙ b

        -- The first phase is the opening.
        opened : is_fault row.kind ≡ false → changes_phase c ≡ true → is_some (receiver_in x c) ≡ false
            → k.exchange.begun ≡ false → ComplaintsBy s q j
        opened ef ep er unbegun = record {
          struck = λ z. wrong' (sym (ap (λ (y : Handshakes). y.struck) none) ∙ z);
          waiting = λ z. wrong' (sym (ap (λ (y : Handshakes). any_struck y.waiting) none) ∙ z);
          attends =
              λ io msg atn. wrong (sym (out_lines c.after out) ∙ ap (λ (l : LineSet). l.msg) (sym at.bus_is) ∙ msg);
          refuses = λ z. subst (λ (y : Cause). Refuses (is_refusing s q) j y) (sym cause) refl;
        }
          where
            at : InConnection s k row x c true false false
            at = in_connection s k row x c true false false w.row_is ep er ef

            none : j.handshakes ≡ no_handshakes
            none = at.handshakes_is ∙ (λ i. handshakes_after (ef i) (Some x) c row.time k.handshakes)
                ∙ ap (λ (y : Bool). if y then no_handshakes else answered_if (rises c.before.ack c.after.ack) row.time
                (asked_if (rises c.before.req c.after.req) row.time k.handshakes)) ep

            out : is_message_out c.after ≡ true
            out = g.lines.first ep (sym was.plain.begun ∙ unbegun)

            out_lines : (l : LineSet) → is_message_out l ≡ true → l.msg ≡ true
            out_lines l z = msg_of l.msg l.cd l.io z
              where
                msg_of : (m d i : Bool) → (m && d && not i) ≡ true → m ≡ true
                msg_of true d i y = refl
                msg_of false d i y = wrong' y

            cause : j.exchange.plan.cause ≡ Cause.Selected
            cause = ap (λ (y : Exchange). y.plan.cause) at.exchange_is
                ∙ ap (λ (x : Plan). x.cause) (plan_out (hearing_of k row (reading_in k.story.bus_state x c false))
                (leaving s k x.target) k.exchange.plan out unbegun)
                ∙ ((was.books.speaks x (was.plain.connection ∙ con)
                (ap (λ (l : LineSet). l.rst) was.plain.bus ∙ quiet)).before_all unbegun).cause_is

        turn : is_fault row.kind ≡ false → changes_phase c ≡ true → is_some (receiver_in x c) ≡ false
            → (z : Bool) → k.exchange.begun ≡ z → ComplaintsBy s q j
        turn ef ep er true f = turned s p row x c (leaves ep ef f) ep er
        turn ef ep er false f = opened ef ep er f

        by : RowKind row x c → ComplaintsBy s q j
        by (still ef ep er) =
            stays_true s p row x c false (here (stays_begun ep)) ep (ap (λ (y : Option ℕ). is_some y) er)
        by (strikes ef ep er) =
            stays_true s p row x c false (here (stays_begun ep)) ep (ap (λ (y : Option ℕ). is_some y) er)
        by (crosses dev ef ep er) =
            stays_true s p row x c true (here (stays_begun ep)) ep (ap (λ (y : Option ℕ). is_some y) er)
        by (turns ef ep er) = turn ef ep (ap (λ (y : Option ℕ). is_some y) er) k.exchange.begun refl

    by_kind : RowKindOf s p row x → ComplaintsBy s q j
    by_kind (begins_now none f) = first f
    by_kind (goes_now con quiet) = goes con quiet

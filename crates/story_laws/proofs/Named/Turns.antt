-- As another phase begins after a reselection: that the initiator knows the process, or its names are said; so in each
-- row (6.6.7, 6.6.13).
use Rattle.story_laws.proofs
use proofs.Names.{ℕ, ◌≡◌, ◌<◌, ◌≤◌, Bool, true, false, not, ◌&&◌, ◌∙◌, List, length, length-append, Option, Some, None}
use proofs.Names.{refl, sym, ap, subst, arith, ◌-◌, if◌then◌else◌, is_some, wrong, wrong', rises, LineSet}
use proofs.Names.{changes_phase, is_message_out, is_message_in, receiver_in, Row, Change, Connection, struck_same}
use proofs.Names.{Handshakes, no_handshakes, handshakes_after, handshakes_on, answered_if, asked_if, newest_struck_if}
use proofs.Names.{ScenarioValue, HostDef, Process, row_reading, is_complete, Sent, Link, policy_of, Exchange}
use proofs.Names.{bytes_of_messages, from_byte, plan_anew, speech_of, Serving, phase_of, phase_entry, phase_leaving}
use proofs.Names.{message_repetition, message_out_leaving, after_refusal, after_messages, next_data_phase, with_task}
use proofs.Names.{recovery, bus_free, plan_in_message_out, words_after, is_naming, Cause, Hearing, Leaving, Messages}
use proofs.Names.{Next, Phase, Said, Task, still_talk, host_of, RunState, bus_of, run_state_after, serving_of}
use proofs.Names.{hearing_of, leaving, InConnection, in_connection, same_phase_is, left_messages, requests_stay}
use proofs.Names.{from_nameless, others_nameless, asking, OnMessages, Gives, is_in_phase, IsNoName, RowKind, still}
use proofs.Names.{strikes, crosses, turns, IsRowIn, reading_in, Speaks, GoesOn, in_phase, out_phase, is_in_message}
use proofs.Names.{is_detected, IsHeardOut, opens, repeats, answers_it, detects, Offers, Names, IsNaming, NamedBy, known}
use proofs.{Names.{said, refused, Named}, Commands.Turns.{is_command_next}, Named.Bytes.{names_some, names_first}}
use proofs.Named.{Bytes.{names_left}, Rows.{in_lines, crosses_on}, Steps.{named_as, naming_as, named_still}}
use proofs.{Named.{Steps.{named_struck}, Story.{link_is_after, sent_is_after}}, Offers.Leavings.{attends, all_said}}
use proofs.Offers.{Leavings.{parity_said}, Steps.{left_is}, Turns.{out_by_phase, entering, goes_out}}

-- ---- no names

nameless_turn : (host : Option HostDef) (x : Exchange) (w : Hearing) (l : Leaving) → OnMessages IsNoName x.plan.messages
    → OnMessages IsNoName l.messages → OnMessages IsNoName (still_talk true false false host w l x).plan.messages
nameless_turn host x w l was next = go (is_message_out w.change.after) w.begun
  where
    refusal :
        (q : Bool) → OnMessages IsNoName (if q then from_byte x.plan.messages (w.offered - 1) else x.plan.messages)
    refusal true = from_nameless x.plan.messages (w.offered - 1) was
    refusal false = was

    go : (o b : Bool)
        → OnMessages IsNoName (if not o then record (plan_anew x.plan) { messages = l.messages; next = l.next }
        else if b then plan_in_message_out w x.plan else plan_anew x.plan).messages
    go false b = next
    go true true = refusal (is_message_in w.change.before)
    go true false = was

after_in : (v : Serving) (next : Next) → OnMessages IsNoName (after_messages v next).messages
after_in v Next.GoOn = go v.task
  where
    go : (t : Option Task)
        → OnMessages IsNoName (with_task t (λ t. phase_entry (next_data_phase (policy_of v.def) t t.runs))).messages
    go None = (tt, tt)
    go (Some t) = (tt, tt)
after_in v _ = (tt, tt)

-- ---- MESSAGE PARITY ERROR is said, and the names again

pub refusal_is : (v : Serving) → v.plan.said.offer ≡ None → is_naming v.plan.messages.first ≡ true
    → after_refusal v ≡ message_repetition v.plan
refusal_is v e f = (λ i. if is_some (e i) then phase_entry Phase.Command else if f i then message_repetition v.plan
    else with_task v.task (λ t. recovery v.def t (message_repetition v.plan) bus_free))

-- The initiator says MESSAGE PARITY ERROR, and no answer.
no_offer : (s : ScenarioValue) (k : RunState) (n : Connection) → Speaks s k n
    → is_message_out (bus_of k) ≡ true → k.exchange.begun ≡ true → k.story.bus_state.dialogue.is_last ≡ true
    → IsHeardOut k.exchange k.story.bus_state.dialogue → k.exchange.plan.cause ≡ Cause.InMessage
    → k.exchange.plan.next ≡ Next.GoOn → k.exchange.plan.said.offer ≡ None
no_offer s k n sp m b last (opens e ao av v q) c next = wrong' (ap is_in_message (sym e ∙ c))
no_offer s k n sp m b last (repeats before e one w q) c next = ap (λ (z : Said). z.offer)
    (all_said k.exchange k.story.bus_state.dialogue _ (sp.in_message_out b m).heard last one.words_are ∙ parity_said)
no_offer s k n sp m b last (answers_it a e command one q) c next = wrong (ap is_command_next (sym command ∙ next))
no_offer s k n sp m b last (detects e one q) c next = wrong' (sym (ap is_detected c) ∙ e)

-- ---- another phase begins

abbrev goes_in : Option Phase → Bool
goes_in None = false
goes_in (Some f) = is_in_phase f

zero_bytes : {A : Type 0} (m : ℕ) → 0 < m → 0 ≡ m → A
zero_bytes m lt e = absurd (omega arith)

turns_on : (s : ScenarioValue) (k : RunState) (row : Row) (n : Connection) (c : Change) (b' : Sent) (o' : Option Link)
    → GoesOn s k row n c → (c.after.msg ≡ true → c.after.cd ≡ true) → Speaks s k n → Gives k → Offers k
    → changes_phase c ≡ true → (k.exchange.begun ≡ true → (leaving s k n.target).to ≡ Some (phase_of c.after))
    → ((l : Link) → k.story.link ≡ Some l → is_complete l.last ≡ false → b' ≡ k.story.sent) → o' ≡ k.story.link
    → NamedBy s n k.story.sent k.story.link k.exchange k.handshakes c.before
    → NamedBy s n b' o' (still_talk true false false (host_of s n.initiator)
    (hearing_of k row (reading_in k.story.bus_state n c false)) (leaving s k n.target) k.exchange) no_handshakes c.after
turns_on s k row n c b' o' g there sp gv of ep whereto eb eo h = go h
  where
    host : Option HostDef
    host = host_of s n.initiator

    l : Leaving
    l = leaving s k n.target

    w : Hearing
    w = hearing_of k row (reading_in k.story.bus_state n c false)

    on : bus_of k ≡ c.before
    on = g.row_is.bus_is

    turning : changes_phase (row_reading k.story.bus_state row).change ≡ true
    turning = ap changes_phase g.row_is.change_is ∙ ep

    -- the exchange after it
    is : (x : Exchange) → still_talk true false false host w l k.exchange ≡ x
        → NamedBy s n b' o' x no_handshakes c.after
        → NamedBy s n b' o' (still_talk true false false host w l k.exchange) no_handshakes c.after
    is x e z = subst (λ (y : Exchange). NamedBy s n b' o' y no_handshakes c.after) (sym e) z

    entered : is_message_out c.after ≡ false → still_talk true false false host w l k.exchange
        ≡ entering k.exchange (record k.exchange.speech { place = 0 }) l.messages l.next
    entered e = λ i. record {
      begun = true;
      speech =
          if e i && k.exchange.begun then speech_of k.exchange.speech (words_after host w k.exchange.speech.asked)
          else record k.exchange.speech { place = 0 };
      plan =
          if not (e i) then record (plan_anew k.exchange.plan) { messages = l.messages; next = l.next }
          else if k.exchange.begun then plan_in_message_out w k.exchange.plan else plan_anew k.exchange.plan;
    }

    -- MESSAGE IN is left
    left_in : k.exchange.begun ≡ true → is_message_in c.before ≡ true
        → l ≡ phase_leaving (serving_of s k n.target) c.before.atn Phase.MessageIn
    left_in f m = left_is s k n c on f
        ∙ ap (λ (d : Phase). phase_leaving (serving_of s k n.target) c.before.atn d) (in_phase c.before m)

    refuses : (t : Process) (x : Link) → IsNaming s n k.story.sent k.story.link t x k.exchange
        → is_message_in c.before ≡ true → Names t x k.exchange.plan.messages k.handshakes.requests → c.before.atn ≡ true
        → NamedBy s n b' o' (still_talk true false false host w l k.exchange) no_handshakes c.after
    refuses t x nm m names a =
        let f = nm.begun_is in
        let e : is_message_out c.after ≡ true = sym (out_by_phase c.after there)
        ∙ ap goes_out (sym (whereto f) ∙ ap (λ (z : Leaving). z.to) (left_in f m)
        ∙ ap (λ (q : Bool). (phase_leaving (serving_of s k n.target) q Phase.MessageIn).to) a) in
        let lv = g.leaves turning in
        let some = lv.some (ap phase_of on ∙ in_phase c.before m) in
        let given = gv.in_message_in f (ap is_message_in on ∙ m) in
        let within : k.handshakes.requests ≤ length (bytes_of_messages k.exchange.plan.messages) =
        let all_bytes = ap (λ (z : List ℕ). length z) given.bytes_are in
        let two = length-append given.before given.rest in let count = given.count_is in omega arith in
        let next : Exchange = asking k.exchange (words_after host w k.exchange.speech.asked) Cause.InMessage
        (from_byte k.exchange.plan.messages (k.handshakes.requests - 1)) in
        is next (λ i. record {
          begun = true;
          speech =
              if e i && f i then speech_of k.exchange.speech (words_after host w k.exchange.speech.asked)
              else record k.exchange.speech { place = 0 };
          plan =
              if not (e i) then record (plan_anew k.exchange.plan) { messages = l.messages; next = l.next }
              else if f i then record (plan_anew k.exchange.plan) {
                cause =
                    if m i then Cause.InMessage else if c.before.cd then Cause.InStatus else Cause.InData;
                messages =
                    if m i then from_byte k.exchange.plan.messages (k.handshakes.requests - 1)
                    else k.exchange.plan.messages;
              } else plan_anew k.exchange.plan;
        }) (refused t x (naming_as s n k.story.sent b' o' t x x k.exchange next k.story.link
        (eb x nm.link_is nm.last) (eo ∙ nm.link_is) refl refl nm.last nm.before refl refl nm) e refl
        (names_left t x k.exchange.plan.messages k.handshakes.requests some within names))

    hears :
        (t : Process) (x : Link) → IsNaming s n k.story.sent k.story.link t x k.exchange → is_message_in c.before ≡ true
        → (k.handshakes.requests ≡ length (bytes_of_messages k.exchange.plan.messages) → is_some x.item ≡ true)
        → c.before.atn ≡ false
        → NamedBy s n b' o' (still_talk true false false host w l k.exchange) no_handshakes c.after
    hears t x nm m heard a =
        let f = nm.begun_is in
        let lv = g.leaves turning in
        let all_given = lv.given (ap phase_of on ∙ in_phase c.before m) (ap (λ (z : LineSet). z.atn) on ∙ a) in
        let left : l ≡ after_messages (serving_of s k n.target) k.exchange.plan.next = left_in f m
        ∙ ap (λ (q : Bool). phase_leaving (serving_of s k n.target) q Phase.MessageIn) a in
        is (entering k.exchange (record k.exchange.speech { place = 0 }) l.messages l.next)
        (entered (other (is_message_out c.after) refl f))
        (known x (eo ∙ nm.link_is) (heard all_given) (subst (λ (z : Leaving). OnMessages IsNoName z.messages) (sym left)
        (after_in (serving_of s k n.target) k.exchange.plan.next)))
      where
        other : (q : Bool) → is_message_out c.after ≡ q → k.exchange.begun ≡ true → is_message_out c.after ≡ false
        other true e f =
            wrong (sym (attends (serving_of s k n.target) c.before.atn (ap (λ (z : Leaving). z.to) (sym (left_in f m))
            ∙ whereto f ∙ ap (λ (z : Phase). Some z) (out_phase c.after e))) ∙ a)
        other false e f = e

    -- MESSAGE OUT is left
    again : (t : Process) (x : Link) → IsNaming s n k.story.sent k.story.link t x k.exchange
        → is_message_out c.before ≡ true → k.exchange.plan.cause ≡ Cause.InMessage
        → Names t x k.exchange.plan.messages 0
        → NamedBy s n b' o' (still_talk true false false host w l k.exchange) no_handshakes c.after
    again t x nm m cause names =
        let f = nm.begun_is in
        let here : is_message_out (bus_of k) ≡ true = ap is_message_out on ∙ m in
        let lv = g.leaves turning in
        let offer = no_offer s k n sp here f
        (lv.out (ap phase_of on ∙ out_phase c.before m)) (of.out f here) cause nm.next_is in
        let left : l ≡ message_repetition k.exchange.plan = left_is s k n c on f
        ∙ ap (λ (z : Phase). phase_leaving (serving_of s k n.target) c.before.atn z) (out_phase c.before m)
        ∙ ap (λ (z : Cause). message_out_leaving (serving_of s k n.target) z) cause
        ∙ refusal_is (serving_of s k n.target) offer (names_first t x k.exchange.plan.messages 0 names) in
        let into : is_message_in c.after ≡ true = in_lines c.after there
        (ap goes_in (sym (whereto f) ∙ ap (λ (z : Leaving). z.to) left)) in
        let next : Exchange = entering k.exchange (record k.exchange.speech { place = 0 }) l.messages l.next in
        is next (entered (not_out c.after into))
        (said t x (naming_as s n k.story.sent b' o' t x x k.exchange next k.story.link (eb x nm.link_is nm.last)
        (eo ∙ nm.link_is) refl refl nm.last nm.before refl (ap (λ (z : Leaving). z.next) left) nm) into
        (subst (λ (z : Messages). Names t x z 0) (sym (ap (λ (z : Leaving). z.messages) left)) names) (λ z. zero_bytes
        (length (bytes_of_messages k.exchange.plan.messages)) (names_some t x k.exchange.plan.messages 0 names)
        (z ∙ ap (λ (v : Leaving). length (bytes_of_messages v.messages)) left)))
      where
        not_out : (b : LineSet) → is_message_in b ≡ true → is_message_out b ≡ false
        not_out b e = by b.msg b.cd b.io e
          where
            by : (q r i : Bool) → (q && r && i) ≡ true → (q && r && not i) ≡ false
            by true true true z = refl
            by true true false z = wrong' z
            by true false i z = wrong' z
            by false r i z = refl

    by_attention : (t : Process) (x : Link) → IsNaming s n k.story.sent k.story.link t x k.exchange
        → is_message_in c.before ≡ true → Names t x k.exchange.plan.messages k.handshakes.requests
        → (k.handshakes.requests ≡ length (bytes_of_messages k.exchange.plan.messages) → is_some x.item ≡ true)
        → (q : Bool) → c.before.atn ≡ q
        → NamedBy s n b' o' (still_talk true false false host w l k.exchange) no_handshakes c.after
    by_attention t x nm m names heard true a = refuses t x nm m names a
    by_attention t x nm m names heard false a = hears t x nm m heard a

    go : NamedBy s n k.story.sent k.story.link k.exchange k.handshakes c.before
        → NamedBy s n b' o' (still_talk true false false host w l k.exchange) no_handshakes c.after
    go (known x e i q) = known x (eo ∙ e) i (nameless_turn host k.exchange w l q
        (left_messages IsNoName others_nameless (serving_of s k n.target) k.exchange.begun (bus_of k) q))
    go (said p x nm m names heard) = by_attention p x nm m names heard c.before.atn refl
    go (refused p x nm m cause names) = again p x nm m cause names

-- ---- any row of the connection

pub named_on : (s : ScenarioValue) (k : RunState) (row : Row) (n : Connection) (c : Change)
    → GoesOn s k row n c → (c.after.msg ≡ true → c.after.cd ≡ true) → Speaks s k n → Gives k → Offers k
    → (changes_phase c ≡ true → k.exchange.begun ≡ true → (leaving s k n.target).to ≡ Some (phase_of c.after))
    → Named s k n → (l : Link) → k.story.link ≡ Some l → Named s (run_state_after s k row) n
named_on s k row n c g there sp gv of whereto h link link_is = go r.kind
  where
    r : IsRowIn k row n c
    r = g.row_is

    was : NamedBy s n k.story.sent k.story.link k.exchange k.handshakes c.before
    was = subst (λ (z : LineSet). NamedBy s n k.story.sent k.story.link k.exchange k.handshakes z) r.bus_is h

    to : (phase now fault : Bool) (y : Handshakes) → (run_state_after s k row).handshakes ≡ y
        → InConnection s k row n c phase now fault → NamedBy s n (run_state_after s k row).story.sent
        (run_state_after s k row).story.link (still_talk phase now fault (host_of s n.initiator)
        (hearing_of k row (reading_in k.story.bus_state n c now)) (leaving s k n.target) k.exchange) y c.after
        → Named s (run_state_after s k row) n
    to phase now fault y ey i z = named_as s n (run_state_after s k row).story.sent (run_state_after s k row).story.sent
        (run_state_after s k row).story.link (run_state_after s k row).story.link (run_state_after s k row).exchange
        (still_talk phase now fault (host_of s n.initiator) (hearing_of k row (reading_in k.story.bus_state n c now))
        (leaving s k n.target) k.exchange) (run_state_after s k row).handshakes y
        (bus_of (run_state_after s k row)) c.after refl refl i.exchange_is ey i.bus_is z

    none_crosses : receiver_in n c ≡ None → is_some (receiver_in n c) ≡ false
    none_crosses e = ap (λ (z : Option ℕ). is_some z) e

    link_stays : receiver_in n c ≡ None → (run_state_after s k row).story.link ≡ k.story.link
    link_stays er = link_is_after s k row n c false link r (none_crosses er) link_is ∙ sym link_is

    sent_stays : (now : Bool) → is_some (receiver_in n c) ≡ now → (l : Link) → k.story.link ≡ Some l
        → is_complete l.last ≡ false → (run_state_after s k row).story.sent ≡ k.story.sent
    sent_stays now en l e last = sent_is_after s k row n c now l r en e last

    go : RowKind row n c → Named s (run_state_after s k row) n
    go (still ef ep er) =
        let i = in_connection s k row n c false false false r ep (none_crosses er) ef in
        to false false false (handshakes_on (Some n) c row.time k.handshakes) (i.handshakes_is
        ∙ ap (λ (q : Bool). handshakes_after q (Some n) c row.time k.handshakes) ef) i (named_still s n k.story.sent
        (run_state_after s k row).story.sent k.story.link (run_state_after s k row).story.link k.exchange k.handshakes
        (handshakes_on (Some n) c row.time k.handshakes) c.before c.after (same_phase_is c ep) (link_stays er)
        (sent_stays false (none_crosses er)) (λ io. requests_stay n c row.time k.handshakes ep io er) was)
    go (strikes ef ep er) =
        let i = in_connection s k row n c false false true r ep (none_crosses er) ef in
        to false false true (newest_struck_if c.before.io k.handshakes)
        (i.handshakes_is ∙ ap (λ (q : Bool). handshakes_after q (Some n) c row.time k.handshakes) ef) i
        (named_struck s n (run_state_after s k row).story.sent (run_state_after s k row).story.link k.exchange
        (newest_struck_if c.before.io k.handshakes) c.after c.before.io (named_still s n k.story.sent
        (run_state_after s k row).story.sent k.story.link (run_state_after s k row).story.link k.exchange k.handshakes
        (newest_struck_if c.before.io k.handshakes) c.before c.after (same_phase_is c ep) (link_stays er)
        (sent_stays false (none_crosses er)) (λ io. struck_same c.before.io k.handshakes) was))
    go (crosses dev ef ep er) =
        let en : is_some (receiver_in n c) ≡ true = ap (λ (z : Option ℕ). is_some z) er in
        let i = in_connection s k row n c false true false r ep en ef in
        to false true false (handshakes_on (Some n) c row.time k.handshakes)
        (i.handshakes_is ∙ ap (λ (q : Bool). handshakes_after q (Some n) c row.time k.handshakes) ef) i
        (crosses_on s k row n c dev (run_state_after s k row).story.sent (run_state_after s k row).story.link g gv ep er
        (sent_stays true en) (λ l e. link_is_after s k row n c true l r en e) was)
    go (turns ef ep er) =
        let i = in_connection s k row n c true false false r ep (none_crosses er) ef in
        to true false false no_handshakes
        (i.handshakes_is ∙ ap (λ (q : Bool). handshakes_after q (Some n) c row.time k.handshakes) ef
        ∙ ap (λ (q : Bool). if q then no_handshakes else answered_if (rises c.before.ack c.after.ack) row.time
        (asked_if (rises c.before.req c.after.req) row.time k.handshakes)) ep) i
        (turns_on s k row n c (run_state_after s k row).story.sent (run_state_after s k row).story.link g there sp gv of
        ep (whereto ep) (sent_stays false (none_crosses er)) (link_stays er) was)

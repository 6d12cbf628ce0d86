-- After a reselection the initiator knows the process, and no names follow, once more than messages has come in the
-- connection.
use Rattle.transcript_laws.proofs
use proofs.Names.{ℕ, ◌≡◌, ◌∙◌, ◌-◌, Bool, true, false, not, ◌&&◌, ◌%◌, List, [], ◌∷◌, ◌++◌, Option, Some, None, refl}
use proofs.Names.{sym, ap, subst, ◌||◌, same_Some, is_some, if◌then◌else◌, wrong, wrong', and_true, rises, LineSet}
use proofs.Names.{changes_phase, is_command, is_data, is_message_in, is_message_out, is_fault, receiver_in, Change}
use proofs.Names.{Connection, Row, got_in, MsgIn, is_nil, ScenarioValue, whole_in, message_in, message_out}
use proofs.Names.{is_status_phase, Link, last_out, Exchange, from_byte, plan_anew, struck_plan, plan_in_message_out}
use proofs.Names.{is_name, Hearing, Leaving, Messages, still_talk, host_of, RunState, bus_of, run_state, hearing_of}
use proofs.Names.{leaving, serving_of, InConnection, in_connection, left_messages, byte_messages, nameless_item}
use proofs.Names.{others_nameless, from_nameless, OnMessages, IsNoName, reading_in, heard_link, LinkAfter, says, hears}
use proofs.Names.{stays, link_crossed, link_still, on_message, Named, known, said, refused, OpenedValue, held_part}
use proofs.Names.{is_complete, is_completion, with_part, with_in_if, with_fault, with_still_row, phase_entered}
use proofs.Names.{phase_over, phase_parts, data_parts, Incoming, Broken, Part, is_talk, are_talk, is_void, held_parts}
use proofs.{Names.{base_parts, out_parts, parts_now}, Fits.Crossings.{whole_on}, Held.Last.{HeldLast}}
use proofs.Opened.Bytes.{CrossingMade, crossed_out, crossed_in, crossed_status, crossed_else, crossing_made}
use proofs.{Opened.Rows.{Going, RowMade, made_still, made_crossing, made_turn, knows_before}, Parts.Base.{base_turned}}
use proofs.{Parts.Lists.{broken_parts}, Serving.TurnSteps.{outs_talk, broken_talk}}
use Rattle.bus_transcript.specs.declared.part.Incoming.TheVariants.{Whole}
use Rattle.due_model.specs.story_model.specs.HistoryEvents as story_of

-- ---- messages among parts

pub talk_more : (xs ys : List Part) → are_talk (xs ++ ys) ≡ (are_talk xs && are_talk ys)
talk_more [] ys = refl
talk_more (x ∷ xs) ys =
    ap (λ (q : Bool). is_talk x && q) (talk_more xs ys) ∙ turn (is_talk x) (are_talk xs) (are_talk ys)
  where
    turn : (a b c : Bool) → (a && (b && c)) ≡ ((a && b) && c)
    turn true b c = refl
    turn false b c = refl

held_talk : (held : Option Incoming) → are_talk (held_part held) ≡ true
held_talk None = refl
held_talk (Some (Whole m)) = refl
held_talk (Some Broken) = refl

-- What is held is a message, so that it does not matter here whether it is void.
pub base_talk : (o : OpenedValue) → are_talk (base_parts o) ≡ (are_talk o.parts && are_talk o.since)
base_talk o = talk_more o.parts (held_parts o ++ o.since) ∙ ap (λ (q : Bool). are_talk o.parts && q)
    (talk_more (held_parts o) o.since ∙ ap (λ (q : Bool). q && are_talk o.since) (void (is_void o.said)))
  where
    void : (q : Bool) → are_talk (if q then [] else held_part o.held) ≡ true
    void true = refl
    void false = held_talk o.held

pub in_talk : (o : OpenedValue) (into : Option MsgIn)
    → are_talk (base_parts (with_in_if o into)) ≡ are_talk (base_parts o)
in_talk o None = refl
in_talk o (Some m) = base_talk (with_in_if o (Some m)) ∙ ap (λ (q : Bool). q && true)
    (talk_more o.parts (held_part o.held ++ o.since) ∙ ap (λ (q : Bool). are_talk o.parts && q)
    (talk_more (held_part o.held) o.since ∙ ap (λ (q : Bool). q && are_talk o.since) (held_talk o.held)))
    ∙ and_true (are_talk o.parts && are_talk o.since) ∙ sym (base_talk o)

-- A phase of no bytes but those of messages adds none other.
no_parts : (o : OpenedValue) (b : LineSet) → (is_command b || is_data b) ≡ false → phase_parts o b true ≡ []
no_parts o b z = by (is_command b) (is_data b) z
  where
    by : (x y : Bool) → (x || y) ≡ false
        → (if x then Part.Command o.bytes o.struck true ∷ [] else if y then data_parts (not b.io) o.bytes else []) ≡ []
    by true y w = wrong w
    by false true w = wrong w
    by false false w = refl

pub turn_talk : (o : OpenedValue) (c : Change) (half : List ℕ)
    → (is_command c.before || is_data c.before) ≡ false → is_status_phase c.after ≡ false
    → are_talk (base_parts (phase_entered (phase_over o c.before half true) c.after)) ≡ are_talk (base_parts o)
turn_talk o c half x y = ap are_talk (base_turned o c.before c.after half)
    ∙ (λ t. are_talk (((parts_now o ++ broken_parts c.before half) ++ no_parts o c.before x t)
    ++ (if y t then Part.StatusPhase ∷ [] else []))) ∙ talk_more ((parts_now o ++ broken_parts c.before half) ++ []) []
    ∙ and_true (are_talk ((parts_now o ++ broken_parts c.before half) ++ []))
    ∙ talk_more (parts_now o ++ broken_parts c.before half) []
    ∙ and_true (are_talk (parts_now o ++ broken_parts c.before half))
    ∙ talk_more (parts_now o) (broken_parts c.before half)
    ∙ ap (λ (q : Bool). are_talk (parts_now o) && q) (broken_talk (is_message_in c.before && not (is_nil half)))
    ∙ and_true (are_talk (parts_now o)) ∙ talk_more (base_parts o) (out_parts o.said)
    ∙ ap (λ (q : Bool). are_talk (base_parts o) && q) (outs_talk o.said) ∙ and_true (are_talk (base_parts o))

-- ---- what is kept

pub record TalkNamed (k : RunState) (n : Connection) (o : OpenedValue) : Type 0 where
  pub named : n.reselected ≡ true → are_talk (base_parts o) ≡ false → (l : Link) → k.story.link ≡ Some l
      → is_some l.item ≡ true
  pub nameless : n.reselected ≡ true → are_talk (base_parts o) ≡ false → OnMessages IsNoName k.exchange.plan.messages

record IsKnown (k : RunState) : Type 0 where
  named : (l : Link) → k.story.link ≡ Some l → is_some l.item ≡ true
  nameless : OnMessages IsNoName k.exchange.plan.messages

-- ---- names that do not follow do not come with a row

turn_nameless : (x : Exchange) (w : Hearing) (l : Leaving)
    → OnMessages IsNoName x.plan.messages → OnMessages IsNoName l.messages → (o b : Bool)
    → OnMessages IsNoName (if not o then record (plan_anew x.plan) { messages = l.messages; next = l.next }
    else if b then plan_in_message_out w x.plan else plan_anew x.plan).messages
turn_nameless x w l was next false b = next
turn_nameless x w l was next true true = go (is_message_in w.change.before)
  where
    go : (q : Bool) → OnMessages IsNoName (if q then from_byte x.plan.messages (w.offered - 1) else x.plan.messages)
    go true = from_nameless x.plan.messages (w.offered - 1) was
    go false = was
turn_nameless x w l was next true false = was

row_nameless : (s : ScenarioValue) (n : Connection) (phase now fault : Bool) (x : Exchange) (w : Hearing) (l : Leaving)
    → OnMessages IsNoName x.plan.messages → OnMessages IsNoName l.messages
    → OnMessages IsNoName (still_talk phase now fault (host_of s n.initiator) w l x).plan.messages
row_nameless s n true now fault x w l was next = turn_nameless x w l was next (is_message_out w.change.after) w.begun
row_nameless s n false true fault x w l was next = subst (λ (m : Messages). OnMessages IsNoName m)
    (sym (byte_messages (is_message_out w.change.before) w.is_last w.out x.plan)) was
row_nameless s n false false fault x w l was next = go (fault && not w.change.before.io)
  where
    go : (q : Bool) → OnMessages IsNoName (if q then struck_plan x.plan else x.plan).messages
    go true = was
    go false = was

pub known_plan :
    (s : ScenarioValue) (p : List Row) (row : Row) (n : Connection) (g : Going s p row n) (phase now : Bool)
    → changes_phase g.going.change ≡ phase → is_some (receiver_in n g.going.change) ≡ now
    → OnMessages IsNoName (run_state s p).exchange.plan.messages
    → OnMessages IsNoName (run_state s (row ∷ p)).exchange.plan.messages
known_plan s p row n g phase now ep er h =
    let k : RunState = run_state s p in
    let i = in_connection s k row n g.going.change phase now (is_fault row.kind) g.going.goes.row_is ep er refl in
    subst (λ (x : Exchange). OnMessages IsNoName x.plan.messages)
    (sym i.exchange_is) (row_nameless s n phase now (is_fault row.kind) k.exchange
    (hearing_of k row (reading_in k.story.bus_state n g.going.change now)) (leaving s k n.target) h
    (left_messages IsNoName others_nameless (serving_of s k n.target) k.exchange.begun (bus_of k) h))

known_still : (s : ScenarioValue) (p : List Row) (row : Row) (n : Connection) (g : Going s p row n) (phase : Bool)
    → changes_phase g.going.change ≡ phase → is_some (receiver_in n g.going.change) ≡ false → IsKnown (run_state s p)
    → IsKnown (run_state s (row ∷ p))
known_still s p row n g phase ep er h =
    let w = knows_before s p row n g in
    let link = link_still s (run_state s p) row n g.going.change w.link g.going.goes.row_is er w.link_is in
    record {
      named = λ l el. h.named l (w.link_is ∙ sym link ∙ el);
      nameless = known_plan s p row n g phase false ep er h.nameless;
    }

known_crossing : (s : ScenarioValue) (p : List Row) (row : Row) (n : Connection) (g : Going s p row n) (dev : ℕ)
    → changes_phase g.going.change ≡ false → receiver_in n g.going.change ≡ Some dev → IsKnown (run_state s p)
    → IsKnown (run_state s (row ∷ p))
known_crossing s p row n g dev ep er h = record {
  named = λ l el. named l el (link_crossed s k row n c was g.going.goes.row_is there w);
  nameless = known_plan s p row n g false true ep there h.nameless;
}
  where
    k : RunState
    k = run_state s p

    j : RunState
    j = run_state s (row ∷ p)

    c : Change
    c = g.going.change

    was : Link
    was = (knows_before s p row n g).link

    w : k.story.link ≡ Some was
    w = (knows_before s p row n g).link_is

    there : is_some (receiver_in n c) ≡ true
    there = ap (λ (x : Option ℕ). is_some x) er

    some : is_some was.item ≡ true
    some = h.named was w

    no_inc : {A : Type 0} (m : MsgIn) → (let a : Option MsgIn = None in a) ≡ Some m → A
    no_inc m z = absurd cc

    plain : (m : MsgIn) → message_in k.story.bus_state.dialogue c true ≡ Some m
        → (q : Bool) → is_message_in c.before ≡ q → is_name m ≡ false
    plain m e true f = on_message IsNoName m (message_in k.story.bus_state.dialogue c true) e
        (whole_on s p row n g dev IsNoName er f h.nameless)
    plain m e false f = no_inc m (sym (ap (λ (q : Bool).
        if q then whole_in (got_in (k.story.bus_state.dialogue.half ++ c.after.data_bits % 256 ∷ [])) else None) f) ∙ e)

    named : (l : Link) → j.story.link ≡ Some l → LinkAfter s k.story was
        (message_out k.story.bus_state.dialogue c true) (message_in k.story.bus_state.dialogue c true) j.story.link
        → is_some l.item ≡ true
    named l el (says m a link) =
        ap (λ (x : Link). is_some x.item) (same_Some l (record was { last = last_out m was }) (sym el ∙ link)) ∙ some
    named l el (hears m a b link) =
        ap (λ (x : Link). is_some x.item) (same_Some l (heard_link s k.story was m) (sym el ∙ link))
        ∙ ap (λ x. is_some x) (nameless_item k.story.sent s.commands was m (plain m b (is_message_in c.before) refl))
        ∙ some
    named l el (stays a b link) = ap (λ (x : Link). is_some x.item) (same_Some l was (sym el ∙ link)) ∙ some

-- ---- by what is named

-- The process is known where the lines are of no message, or COMMAND COMPLETE was heard.
known_by : (s : ScenarioValue) (k : RunState) (n : Connection) → Named s k n
    → (is_message_in (bus_of k) ≡ true → (l : Link) → k.story.link ≡ Some l → story_of.is_complete l.last ≡ true)
    → is_message_out (bus_of k) ≡ false → IsKnown k
known_by s k n (known l e some nameless) completes no_out = record {
  named = λ m em. ap (λ (x : Link). is_some x.item) (same_Some m l (sym em ∙ e)) ∙ some;
  nameless = nameless;
}
known_by s k n (said p l naming here names all) completes no_out =
    wrong (sym (completes here l naming.link_is) ∙ naming.last)
known_by s k n (refused p l naming here cause names) completes no_out = wrong (sym here ∙ no_out)

message_off : (b : LineSet) → b.msg ≡ false → (is_message_in b ≡ false) × (is_message_out b ≡ false)
message_off b e = (λ i. e i && b.cd && b.io, λ i. e i && b.cd && not b.io)

known_here : (s : ScenarioValue) (k : RunState) (n : Connection) → Named s k n → (bus_of k).msg ≡ false → IsKnown k
known_here s k n h e = let no = message_off (bus_of k) e in known_by s k n h (λ here l el. wrong (sym here ∙ no.0)) no.1

to_named : (k : RunState) (n : Connection) (o : OpenedValue)
    → (n.reselected ≡ true → are_talk (base_parts o) ≡ false → IsKnown k) → TalkNamed k n o
to_named k n o h = record { named = λ re z. (h re z).named; nameless = λ re z. (h re z).nameless }

from_named : (k : RunState) (n : Connection) (o : OpenedValue) → TalkNamed k n o → n.reselected ≡ true
    → are_talk (base_parts o) ≡ false → IsKnown k
from_named k n o h re z = record { named = h.named re z; nameless = h.nameless re z }

-- ---- row by row

pub named_row :
    (s : ScenarioValue) (p : List Row) (row : Row) (n : Connection) (g : Going s p row n) (o after : OpenedValue)
    → RowMade (run_state s p) row n g.going.change o after → HeldLast (run_state s p) o → TalkNamed (run_state s p) n o
    → TalkNamed (run_state s (row ∷ p)) n after
named_row s p row n g o after (made_still ep none e) held h = to_named j n after
    (λ re z. known_still s p row n g false ep none (at re (is_completion o k.story.bus_state.dialogue.half c) refl
    (sym (ap (λ (x : OpenedValue). are_talk (base_parts x)) e) ∙ z)))
  where
    k : RunState
    k = run_state s p

    j : RunState
    j = run_state s (row ∷ p)

    c : Change
    c = g.going.change

    on : bus_of k ≡ c.before
    on = g.going.goes.row_is.bus_is

    completes : is_completion o k.story.bus_state.dialogue.half c ≡ true → n.reselected ≡ true → IsKnown k
    completes z re =
        let parts = completion_parts (rises c.before.ack c.after.ack) (is_message_in c.before)
        (is_complete o.held) (is_nil k.story.bus_state.dialogue.half) (not c.after.atn) z in
        let no_out = in_only c.before parts.0 in
        known_by s k n (g.was.facts.named n g.stands g.calm re)
        (λ here l el. held.same (ap is_message_out on ∙ no_out) l el ∙ parts.1) (ap is_message_out on ∙ no_out)
      where
        completion_parts : (a b x d f : Bool) → (a && b && x && d && f) ≡ true → (b ≡ true) × (x ≡ true)
        completion_parts true true true d f y = (refl, refl)
        completion_parts true true false d f y = wrong' y
        completion_parts true false x d f y = wrong' y
        completion_parts false b x d f y = wrong' y

        in_only : (b : LineSet) → is_message_in b ≡ true → is_message_out b ≡ false
        in_only b y = lines b.msg b.cd b.io y
          where
            lines : (m d i : Bool) → (m && d && i) ≡ true → (m && d && not i) ≡ false
            lines true true true w = refl
            lines true true false w = wrong' w
            lines true false i w = wrong' w
            lines false d i w = wrong' w

    at : n.reselected ≡ true → (q : Bool) → is_completion o k.story.bus_state.dialogue.half c ≡ q
        → are_talk (base_parts (with_still_row o k.story.bus_state c row.kind)) ≡ false → IsKnown k
    at re true f z = completes f re
    at re false f z =
        from_named k n o h re (sym (ap (λ (q : Bool). are_talk (base_parts (if q then with_part o Part.Completion
        else with_fault o (is_fault row.kind && is_some k.story.bus_state.crossed)))) f) ∙ z)
named_row s p row n g o after (made_crossing dev ep er e) held h = to_named j n after
    (λ re z. known_crossing s p row n g dev ep er (at re z (crossing_made o after k.story.bus_state n c e)))
  where
    k : RunState
    k = run_state s p

    j : RunState
    j = run_state s (row ∷ p)

    c : Change
    c = g.going.change

    status_off : (b : LineSet) → is_status_phase b ≡ true → b.msg ≡ false
    status_off b z = lines b.msg b.cd b.io z
      where
        lines : (m d i : Bool) → (not m && d && i) ≡ true → m ≡ false
        lines true d i w = wrong' w
        lines false d i w = refl

    at : n.reselected ≡ true → are_talk (base_parts after) ≡ false
        → CrossingMade o after k.story.bus_state.dialogue.is_last c.before (c.after.data_bits % 256)
        (message_out k.story.bus_state.dialogue c true) (message_in k.story.bus_state.dialogue c true)
        → IsKnown k
    at re z (crossed_out x f) = from_named k n o h re
        (base_talk o ∙ sym (base_talk after ∙ ap (λ (y : OpenedValue). are_talk y.parts && are_talk y.since) f) ∙ z)
    at re z (crossed_in x y f) = from_named k n o h re (sym
        (ap (λ (y : OpenedValue). are_talk (base_parts y)) f ∙ in_talk o (message_in k.story.bus_state.dialogue c true))
        ∙ z)
    at re z (crossed_status x y w f) = known_here s k n (g.was.facts.named n g.stands g.calm re)
        (ap (λ (l : LineSet). l.msg) g.going.goes.row_is.bus_is ∙ status_off c.before w)
    at re z (crossed_else x y w f) = from_named k n o h re
        (base_talk o ∙ sym (base_talk after ∙ ap (λ (y : OpenedValue). are_talk y.parts && are_talk y.since) f) ∙ z)
named_row s p row n g o after (made_turn ep none ef e) held h =
    to_named j n after (λ re z. at re (is_command c.before || is_data c.before) refl (is_status_phase c.after) refl z)
  where
    k : RunState
    k = run_state s p

    j : RunState
    j = run_state s (row ∷ p)

    c : Change
    c = g.going.change

    half : List ℕ
    half = k.story.bus_state.dialogue.half

    i : InConnection s k row n c true false (is_fault row.kind)
    i = in_connection s k row n c true false (is_fault row.kind) g.going.goes.row_is ep none refl

    moving_off : (b : LineSet) → (is_command b || is_data b) ≡ true → b.msg ≡ false
    moving_off b z = lines b.msg b.cd b.io z
      where
        lines : (m d x : Bool) → ((not m && d && not x) || (not m && not d)) ≡ true → m ≡ false
        lines true d x w = wrong' w
        lines false d x w = refl

    status_off : (b : LineSet) → is_status_phase b ≡ true → b.msg ≡ false
    status_off b z = lines b.msg b.cd b.io z
      where
        lines : (m d x : Bool) → (not m && d && x) ≡ true → m ≡ false
        lines true d x w = wrong' w
        lines false d x w = refl

    at : n.reselected ≡ true → (q : Bool) → (is_command c.before || is_data c.before) ≡ q
        → (r : Bool) → is_status_phase c.after ≡ r → are_talk (base_parts after) ≡ false → IsKnown j
    at re true x r y z = known_still s p row n g true ep none (known_here s k n (g.was.facts.named n g.stands g.calm re)
        (ap (λ (l : LineSet). l.msg) g.going.goes.row_is.bus_is ∙ moving_off c.before x))
    at re false x true y z = known_here s j n (g.now.facts.named n g.after g.calm_after re)
        (ap (λ (l : LineSet). l.msg) i.bus_is ∙ status_off c.after y)
    at re false x false y z = known_still s p row n g true ep none
        (from_named k n o h re (sym (ap (λ (v : OpenedValue). are_talk (base_parts v)) e ∙ turn_talk o c half x y) ∙ z))

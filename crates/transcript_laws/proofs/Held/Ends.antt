-- Outside MESSAGE OUT the last message of a process' connection in the story is the one that a transcript holds, and no
-- message came after it.
use Rattle.transcript_laws.proofs
use proofs.Names.{ℕ, ◌≡◌, ◌∙◌, Bool, true, false, not, ◌&&◌, ◌%◌, List, [], ◌∷◌, ◌++◌, length, Option, Some, None, refl}
use proofs.Names.{sym, ap, subst, same_Some, is_some, if◌then◌else◌, wrong, wrong', ProcId, LineSet, changes_phase}
use proofs.Names.{is_command, is_data, is_message_in, is_message_out, is_fault, receiver_in, Change, Connection, Row}
use proofs.Names.{got_in, got_out, MsgIn, MsgOut, fresh_bytes, is_nil, ScenarioValue, events_link, RowReading}
use proofs.Names.{row_reading, whole_in, whole_out, message_in, message_out, is_status_phase, row_events_by, Item}
use proofs.Names.{process, abort, Link, plain, link_of, Story, aim_of, story_on_bus, story_by_change}
use proofs.Names.{story_after_connection, story_with_restored, story_with_sent, bytes_of_messages, phase_of, Phase}
use proofs.Names.{RunState, bus_of, run_state, in_connection, in_is_whole, none_some, in_out, in_phase, out_phase}
use proofs.Names.{heard_link, LinkAfter, says, hears, stays, link_crossed, link_still, last_or, LastBy, LastGiven}
use proofs.Names.{still_stays, to_close, to_save, closed, OpenedValue, is_completion, with_all_out, with_out, with_part}
use proofs.Names.{with_fault, with_in, with_in_if, with_phase, spoken, broken_off, data_parts, phase_parts, phase_over}
use proofs.{Names.{phase_entered, Incoming, Broken, Part, is_talk}, Held.Last.{left_none, still_held, over_held}}
use proofs.Opened.Bytes.{OpenedBytes, still_keeps, turned, CrossingMade, crossed_out, crossed_in, crossed_status}
use proofs.Opened.{Bytes.{crossed_else, crossing_made, lines_same, out_same}, Rows.{Going, Starts, RowMade, made_still}}
use proofs.{Opened.Rows.{made_crossing, made_turn, knows_before}, Parts.Ends.{last_held, are_silent, silent_more}}
use proofs.{Parts.Lists.{none_held}, Said.Words.{SaidWords}}
use Rattle.bus_transcript.specs.declared.part.Incoming.TheVariants.{Whole}

-- ---- no message came after what is held

abbrev pub IsQuietSince : OpenedValue → Type 0
IsQuietSince o = is_some o.held ≡ true → are_silent o.since ≡ true

part_quiet : (o : OpenedValue) (part : Part) → is_talk part ≡ false → IsQuietSince o → IsQuietSince (with_part o part)
part_quiet o part e h z = silent_more o.since (part ∷ []) (h z) (λ i. not (e i) && true)

in_quiet : (o : OpenedValue) (into : Option MsgIn) → IsQuietSince o → IsQuietSince (with_in_if o into)
in_quiet o None h = h
in_quiet o (Some m) h = λ z. refl

said_quiet : (o : OpenedValue) (said : List MsgOut) → IsQuietSince o
    → IsQuietSince (with_all_out (record o { said = [] }) said)
said_quiet o [] h = h
said_quiet o (m ∷ said) h = λ z. wrong'
    (sym (ap (λ (x : Option Incoming). is_some x) (none_held (with_out (record o { said = [] }) m) said refl)) ∙ z)

broken_quiet : (o : OpenedValue) (q : Bool) → IsQuietSince o → IsQuietSince (if q then with_in o Broken else o)
broken_quiet o true h = λ z. refl
broken_quiet o false h = h

silent_data : (out : Bool) (bytes : List ℕ) → are_silent (data_parts out bytes) ≡ true
silent_data out [] = refl
silent_data out (b ∷ bytes) = refl

silent_phase : (o : OpenedValue) (b : LineSet) → are_silent (phase_parts o b true) ≡ true
silent_phase o b = go (is_command b) (is_data b)
  where
    go : (x y : Bool) → are_silent
        (if x then Part.Command o.bytes o.struck true ∷ [] else if y then data_parts (not b.io) o.bytes else []) ≡ true
    go true y = refl
    go false true = silent_data (not b.io) o.bytes
    go false false = refl

phase_quiet : (o : OpenedValue) (b : LineSet) → IsQuietSince o → IsQuietSince (with_phase o b true)
phase_quiet o b h z = silent_more o.since (phase_parts o b true) (h z) (silent_phase o b)

entered_quiet : (o : OpenedValue) (q : Bool) → IsQuietSince o
    → IsQuietSince (if q then with_part o Part.StatusPhase else o)
entered_quiet o true h = part_quiet o Part.StatusPhase refl h
entered_quiet o false h = h

quiet_row : (k : RunState) (row : Row) (n : Connection) (c : Change) (o after : OpenedValue) → RowMade k row n c o after
    → IsQuietSince o → IsQuietSince after
quiet_row k row n c o after (made_still ep none e) h =
    subst IsQuietSince (sym e) (go (is_completion o k.story.bus_state.dialogue.half c))
  where
    go : (q : Bool) → IsQuietSince (if q then with_part o Part.Completion
        else with_fault o (is_fault row.kind && is_some k.story.bus_state.crossed))
    go true = part_quiet o Part.Completion refl h
    go false = h
quiet_row k row n c o after (made_crossing dev ep er e) h = go (crossing_made o after k.story.bus_state n c e)
  where
    go : CrossingMade o after k.story.bus_state.dialogue.is_last c.before (c.after.data_bits % 256)
        (message_out k.story.bus_state.dialogue c true) (message_in k.story.bus_state.dialogue c true)
        → IsQuietSince after
    go (crossed_out x f) = subst IsQuietSince (sym f) h
    go (crossed_in x y f) = subst IsQuietSince (sym f) (in_quiet o (message_in k.story.bus_state.dialogue c true) h)
    go (crossed_status x y z f) =
        subst IsQuietSince (sym f) (part_quiet o (Part.Status (c.after.data_bits % 256)) refl h)
    go (crossed_else x y z f) = subst IsQuietSince (sym f) h
quiet_row k row n c o after (made_turn ep none ef e) h =
    let half : List ℕ = k.story.bus_state.dialogue.half in
    subst IsQuietSince (sym e) (entered_quiet (phase_over o c.before half true)
    (is_status_phase c.after) (phase_quiet (broken_off (spoken o) c.before half) c.before
    (broken_quiet (spoken o) (is_message_in c.before && not (is_nil half)) (said_quiet o o.said h))))

-- ---- what is held is the last message

abbrev pub IsHeldTold : RunState → OpenedValue → Type 0
IsHeldTold k o = (l : Link) (id : ProcId) → k.story.link ≡ Some l → k.served ≡ Some (process id)
    → is_message_out (bus_of k) ≡ false → l.last ≡ last_held o.held

pub record HeldEnds (k : RunState) (o : OpenedValue) : Type 0 where
  pub quiet : IsQuietSince o
  pub same : IsHeldTold k o

-- ---- the first row: no message has come

first_last : (b : Story) (n : Connection) → last_or (story_after_connection b n).link ≡ plain
first_last b n = go n.reselected (aim_of b.aims n.initiator)
  where
    go : (q : Bool) (item : Option Item) → last_or (if q then record b { link = Some (link_of n None) }
        else story_with_restored (story_with_sent (record b { link = Some (link_of n item) }) item) item).link ≡ plain
    go true item = refl
    go false None = refl
    go false (Some (process id)) = refl
    go false (Some (abort j)) = refl

starts_last : (s : ScenarioValue) (p : List Row) (row : Row) (n : Connection) → Starts s p row n
    → last_or (run_state s (row ∷ p)).story.link ≡ plain
starts_last s p row n h =
    let k : RunState = run_state s p in
    let d : RowReading = row_reading k.story.bus_state row in
    ap last_or (events_link s (story_by_change s k.story d row) (row_events_by s k.story d row))
    ∙ ap (λ (q : Bool). last_or (if q then record k.story { link = None }
    else story_on_bus s k.story k.story.bus_state.connection d.next d row).link) h.off
    ∙ (λ i. last_or (story_on_bus s k.story (h.alone i) (h.next i) d row).link) ∙ first_last k.story n

pub ends_start : (s : ScenarioValue) (p : List Row) (row : Row) (n : Connection) (o : OpenedValue) → Starts s p row n
    → o.held ≡ None → HeldEnds (run_state s (row ∷ p)) o
ends_start s p row n o h none = record {
  quiet = λ z. wrong' (sym (ap (λ (x : Option Incoming). is_some x) none) ∙ z);
  same = λ l id el sv off. ap last_or (sym el) ∙ starts_last s p row n h ∙ sym (ap last_held none);
}

-- ---- row by row

-- While a message is half heard none has told that the connection ends.
half_plain : (l : Link) (k : RunState) (half : List ℕ)
    → (k.handshakes.requests ≡ length (bytes_of_messages k.exchange.plan.messages) → half ≡ []) → is_nil half ≡ false
    → LastGiven l k.exchange.plan.messages k.exchange.plan.next k.handshakes.requests → l.last ≡ plain
half_plain l k half whole some (still_stays f m e) = e
half_plain l k half whole some (to_close f x m y z e) = e
half_plain l k half whole some (to_save f m y e) = e
half_plain l k half whole some (closed f m given y z) = wrong' (sym some ∙ ap is_nil (whole given))

pub ends_row :
    (s : ScenarioValue) (p : List Row) (row : Row) (n : Connection) (g : Going s p row n) (o after : OpenedValue)
    → RowMade (run_state s p) row n g.going.change o after → OpenedBytes (run_state s p) n o
    → SaidWords (run_state s p) n o → HeldEnds (run_state s p) o → HeldEnds (run_state s (row ∷ p)) after
ends_row s p row n g o after made bytes words h =
    record { quiet = quiet_row k row n c o after made h.quiet; same = by made }
  where
    k : RunState
    k = run_state s p

    j : RunState
    j = run_state s (row ∷ p)

    c : Change
    c = g.going.change

    half : List ℕ
    half = k.story.bus_state.dialogue.half

    on : bus_of k ≡ c.before
    on = g.going.goes.row_is.bus_is

    l : Link
    l = (knows_before s p row n g).link

    el : k.story.link ≡ Some l
    el = (knows_before s p row n g).link_is

    served : j.served ≡ k.served
    served = (in_connection s k row n c (changes_phase c) (is_some (receiver_in n c))
        (is_fault row.kind) g.going.goes.row_is refl refl refl).served_is

    -- the phase is as before, and so are the link and what is held
    stay : changes_phase c ≡ false → j.story.link ≡ Some l → after.held ≡ o.held → IsHeldTold j after
    stay ep link held m id em sv off =
        ap (λ (x : Link). x.last) (same_Some m l (sym em ∙ link))
        ∙ h.same l id el (sym served ∙ sv) (sym (out_same (bus_of k) (bus_of j) (lines_same s p row n g ep)) ∙ off)
        ∙ ap last_held (sym held)

    quiet : changes_phase c ≡ false → is_some (receiver_in n c) ≡ false → after.held ≡ o.held → IsHeldTold j after
    quiet ep none held = stay ep (link_still s k row n c l g.going.goes.row_is none el) held

    crossing : (dev : ℕ) → changes_phase c ≡ false → receiver_in n c ≡ Some dev
        → CrossingMade o after k.story.bus_state.dialogue.is_last c.before (c.after.data_bits % 256)
        (message_out k.story.bus_state.dialogue c true) (message_in k.story.bus_state.dialogue c true)
        → LinkAfter s k.story l (message_out k.story.bus_state.dialogue c true)
        (message_in k.story.bus_state.dialogue c true) j.story.link
        → IsHeldTold j after
    crossing dev ep er = go
      where
        no_in : is_message_in c.before ≡ false → message_in k.story.bus_state.dialogue c true ≡ None
        no_in x = ap (λ (q : Bool).
            if q then whole_in (got_in (k.story.bus_state.dialogue.half ++ c.after.data_bits % 256 ∷ [])) else None) x

        no_out : is_message_out c.before ≡ false → message_out k.story.bus_state.dialogue c true ≡ None
        no_out x = ap (λ (q : Bool).
            if q then whole_out (got_out (fresh_bytes k.story.bus_state.dialogue ++ c.after.data_bits % 256 ∷ []))
            else None) x

        other : is_message_out c.before ≡ false → is_message_in c.before ≡ false → after.held ≡ o.held
            → LinkAfter s k.story l (message_out k.story.bus_state.dialogue c true)
            (message_in k.story.bus_state.dialogue c true) j.story.link
            → IsHeldTold j after
        other x y held (says m a link) = none_some m (sym (no_out x) ∙ a)
        other x y held (hears m a b link) = none_some m (sym (no_in y) ∙ b)
        other x y held (stays a b link) = stay ep link held

        go : CrossingMade o after k.story.bus_state.dialogue.is_last c.before (c.after.data_bits % 256)
            (message_out k.story.bus_state.dialogue c true) (message_in k.story.bus_state.dialogue c true)
            → LinkAfter s k.story l (message_out k.story.bus_state.dialogue c true)
            (message_in k.story.bus_state.dialogue c true) j.story.link
            → IsHeldTold j after
        go (crossed_out x f) a = λ m id em sv off. wrong
            (sym (out_same (bus_of k) (bus_of j) (lines_same s p row n g ep) ∙ ap is_message_out on ∙ x) ∙ off)
        go (crossed_in x y f) (says m a link) = none_some m (sym (no_out x) ∙ a)
        go (crossed_in x y f) (hears m a b link) =
            let held : after.held ≡ Some (Whole m) = ap (λ (z : OpenedValue). z.held) f
            ∙ ap (λ (z : Option MsgIn). (with_in_if o z).held) b in
            λ q id eq sv off. ap (λ (z : Link). z.last) (same_Some q (heard_link s k.story l m) (sym eq ∙ link))
            ∙ ap last_held (sym held)
        go (crossed_in x y f) (stays a b link) =
            stay ep link (ap (λ (z : OpenedValue). z.held) f ∙ ap (λ (z : Option MsgIn). (with_in_if o z).held) b)
        go (crossed_status x y z f) a = other x y (ap (λ (q : OpenedValue). q.held) f) a
        go (crossed_else x y z f) a = other x y (ap (λ (q : OpenedValue). q.held) f) a

    turning : changes_phase c ≡ true → is_some (receiver_in n c) ≡ false
        → after ≡ phase_entered (phase_over o c.before half true) c.after → IsHeldTold j after
    turning ep none e m id em sv off =
        ap (λ (x : Link). x.last) (same_Some m l (sym em ∙ link_still s k row n c l g.going.goes.row_is none el))
        ∙ go (is_message_out c.before) refl (is_message_in c.before && not (is_nil half)) refl
      where
        sv_before : k.served ≡ Some (process id)
        sv_before = sym served ∙ sv

        held : after.held ≡ (if is_message_in c.before && not (is_nil half) then Some Broken else (spoken o).held)
        held = ap (λ (x : OpenedValue). x.held) e ∙ (turned (phase_over o c.before half true) c.after).held
            ∙ over_held o c.before half

        begun : (phase : Phase) → phase_of (bus_of k) ≡ phase → k.exchange.begun ≡ true
            → LastBy l k.exchange.plan k.handshakes.requests k.story.bus_state.dialogue.is_last phase
        begun phase e b = subst
            (λ (x : Phase). LastBy l k.exchange.plan k.handshakes.requests k.story.bus_state.dialogue.is_last x) e
            (((g.was.facts.last n g.stands g.calm).0 l id el sv_before).begun b)

        -- before the first phase
        unbegun : k.exchange.begun ≡ false → l.last ≡ plain
        unbegun b = ((g.was.facts.last n g.stands g.calm).0 l id el sv_before).unbegun b

        spoken_last : (b : Bool) → k.exchange.begun ≡ b → is_message_out c.before ≡ true → l.last ≡ plain
        spoken_last false b x = unbegun b
        spoken_last true b x =
            let here : phase_of (bus_of k) ≡ Phase.MessageOut = out_phase (bus_of k) (ap is_message_out on ∙ x) in
            (begun Phase.MessageOut here b).0
            ((g.going.goes.leaves (ap changes_phase g.going.goes.row_is.change_is ∙ ep)).out here)

        broken_last : (b : Bool) → k.exchange.begun ≡ b → is_message_in c.before ≡ true → is_nil half ≡ false
            → l.last ≡ plain
        broken_last false b x some = unbegun b
        broken_last true b x some =
            let here : is_message_in (bus_of k) ≡ true = ap is_message_in on ∙ x in
            half_plain l k half (λ given. in_is_whole k
            (g.was.stood.books.gives n g.going.goes.row_is.connection_is g.going.goes.calm) b here given) some
            (begun Phase.MessageIn (in_phase (bus_of k) here) b)

        none_of : (x y : Bool) → (x && not y) ≡ true → (x ≡ true) × (y ≡ false)
        none_of true true z = wrong' z
        none_of true false z = (refl, refl)
        none_of false y z = wrong' z

        go : (q : Bool) → is_message_out c.before ≡ q → (r : Bool) → (is_message_in c.before && not (is_nil half)) ≡ r
            → l.last ≡ last_held after.held
        go true x true y = wrong' (sym (λ i. in_out c.before x i && not (is_nil half)) ∙ y)
        go true x false y = spoken_last k.exchange.begun refl x
            ∙ sym (ap last_held (held ∙ ap (λ (q : Bool). if q then Some Broken else (spoken o).held) y
            ∙ left_none s p row n g o words ep x))
        go false x true y =
            let two = none_of (is_message_in c.before) (is_nil half) y in
            broken_last k.exchange.begun refl two.0 two.1
            ∙ sym (ap last_held (held ∙ ap (λ (q : Bool). if q then Some Broken else (spoken o).held) y))
        go false x false y = h.same l id el sv_before (ap is_message_out on ∙ x)
            ∙ sym (ap last_held (held ∙ ap (λ (q : Bool). if q then Some Broken else (spoken o).held) y
            ∙ still_held o o.said (bytes.said (ap is_message_out on ∙ x))))

    by : RowMade k row n c o after → IsHeldTold j after
    by (made_still ep none e) =
        quiet ep none (ap (λ (x : OpenedValue). x.held) e ∙ (still_keeps o k.story.bus_state c row).held)
    by (made_crossing dev ep er e) = crossing dev ep er (crossing_made o after k.story.bus_state n c e)
        (link_crossed s k row n c l g.going.goes.row_is (ap (λ (x : Option ℕ). is_some x) er) el)
    by (made_turn ep none ef e) = turning ep none e

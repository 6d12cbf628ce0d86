-- COMMAND COMPLETE is answered once, and its process ends with it, after any rows of a prompt trace (6.1.5.1, 6.6.5).
use Rattle.trace_laws.proofs
use proofs.Names.{inl, inr, ℕ, ◌≡◌, ◌⊎◌, ◌<◌, Bool, true, false, not, ◌&&◌, ◌==◌, ◌∙◌, List, [], ◌∷◌, Option, Some}
use proofs.Names.{None, refl, sym, ap, subst, same_Some, if◌then◌else◌, is_some, slice_index, wrong, wrong', Event}
use proofs.Names.{rises, LineSet, changes_phase, is_message_in, connection, receiver_in, is_fault, bus, Row, Change}
use proofs.Names.{Connection, Handshakes, no_handshakes, MsgIn, ScenarioValue, Obeys, has_ended, Array, carried_id}
use proofs.Names.{row_reading, is_complete, is_completion, carried_if, end_events, row_events_by, Item, process, Link}
use proofs.Names.{LastMessage, plain, complete, last_in, one_message, Messages, Next, Phase, IsPrompt, AreOfDevices}
use proofs.Names.{RunState, array_of, or_start, bus_of, carried_here, run_state, run_state_after, array_after_events}
use proofs.Names.{InConnection, in_connection, Knows, RowKind, still, strikes, crosses, turns, GoesOn, least_is}
use proofs.Names.{none_some, in_phase, message_line, some_zero, all_four, by_bool, ConnectionRow, GoingRow}
use proofs.Names.{connection_row, going_row, RowKindOf, begins_now, goes_now, row_kind, Stood, NextStood, PlaceFacts}
use proofs.Names.{stays_as, LastGiven, still_stays, to_close, to_save, closed, LastBy, Named, known, said, refused}
use proofs.{Names.{TellFacts, IsCompleting, HasClosed, CloseBooks, CloseFacts}, Closes.Counts.{Counted, counted_row}}
use proofs.Closes.Counts.{counts_goes, fresh_counts, turn_handshakes, first_handshakes, asked_for, phase_line}
use proofs.Closes.{Counts.{same_answers}, Stays.{ended_after, attends_after, once_taken, awaited, alternates_at}}
use proofs.Places.Stays.{stay_shown}

pub close_start : (s : ScenarioValue) → CloseFacts s []
close_start s n e calm = none_some n e

-- ---- the last message, after the byte of COMMAND COMPLETE

no_end : {A : Type 0} → (let x : LastMessage = complete in x) ≡ plain → A
no_end e = wrong (ap is_complete e)

has_second : Messages → Bool
has_second m = is_some m.second

pub last_one : (l : Link) (m : Messages) (next : Next) (count : ℕ) → LastGiven l m next count
    → m ≡ one_message MsgIn.CommandComplete → (count == 0) ≡ false → l.last ≡ complete
unfolding has_second
last_one l m next count (still_stays f all last) e some = no_end ((subst
    (λ (x : Messages). Rattle.story_laws.specs.book_laws.specs.Giving.OnMessages (λ y. last_in y ≡ plain) x) e all).0)
last_one l m next count (to_close f x one end zero last) e some = some_zero count some zero
last_one l m next count (to_save f both at last) e some = wrong (ap has_second (sym both ∙ e))
last_one l m next count (closed f ends full last told) e some = told.1 e

-- The initiator knows the process then.
pub item_known : (s : ScenarioValue) (k : RunState) (n : Connection) (l : Link) → Knows s k n
    → (n.reselected ≡ true → Named s k n) → k.story.link ≡ Some l → l.last ≡ complete → l.item ≡ k.served
item_known s k n l w names link last =
    ap (λ (x : Link). x.item) (same_Some l w.link (sym link ∙ w.link_is)) ∙ by w.item_is
  where
    done : (m : Link) → k.story.link ≡ Some m → is_complete m.last ≡ false → ⊥
    done m e f =
        wrong (sym (ap (λ (x : Link). is_complete x.last) (same_Some m l (sym e ∙ link)) ∙ ap is_complete last) ∙ f)

    by : (w.link.item ≡ k.served) ⊎ ((n.reselected ≡ true) × (w.link.item ≡ None)) → w.link.item ≡ k.served
    by (inl z) = z
    by (inr z) = go (names z.0)
      where
        go : Named s k n → w.link.item ≡ k.served
        go (known m e f g) = wrong' (sym (ap (λ (x : Option Item). is_some x)
            (ap (λ (x : Link). x.item) (same_Some m w.link (sym e ∙ w.link_is)) ∙ z.1)) ∙ f)
        go (said q m naming into nm whole) = absurd (done m naming.link_is naming.last)
        go (refused q m naming out cause nm) = absurd (done m naming.link_is naming.last)

-- ---- a row

fresh_closed : (s : ScenarioValue) (k : RunState) → (is_message_in (bus_of k) ≡ true → k.handshakes ≡ no_handshakes)
    → HasClosed s k
fresh_closed s k e id served here m some calm = wrong (sym (ap (λ (h : Handshakes). h.answers == 0) (e here)) ∙ some)

front : (a b : Bool) → (a && not b) ≡ true → a ≡ true
front true b e = refl
front false b e = wrong' e

pub closed_stay : (s : ScenarioValue) (p : List Row) (row : Row) (n : Connection) (c : Change) → Obeys s
    → IsPrompt s (row ∷ p) → Stood s p → NextStood s p row → TellFacts s p → PlaceFacts s p → PlaceFacts s (row ∷ p)
    → ConnectionRow s p row n → GoesOn s (run_state s p) row n c → changes_phase c ≡ false → CloseFacts s p
    → HasClosed s (run_state s (row ∷ p))
closed_stay s p row n c o prompt was next facts places after r g ep h id served here m some calm =
    by_bool (k.handshakes.answers == 0) (λ z. by_bool (rises c.before.ack c.after.ack) (λ f. ends f) (λ f. wrong
    (sym (same_answers (rises c.before.ack c.after.ack) k.handshakes.answers j.handshakes.answers counts.answers f ∙ z)
    ∙ some))) (λ z. ended z (is_completion l c) refl)
  where
    k : RunState
    k = run_state s p

    j : RunState
    j = run_state_after s k row

    lt : row.dev < 8
    lt = (least_is s p row prompt.1).inside

    con : connection p ≡ Some n
    con = sym was.plain.connection ∙ g.row_is.connection_is

    off : (bus p).rst ≡ false
    off = sym (ap (λ (x : LineSet). x.rst) was.plain.bus) ∙ g.calm

    now : Bool
    now = is_some (receiver_in n c)

    i : InConnection s k row n c false now (is_fault row.kind)
    i = in_connection s k row n c false now (is_fault row.kind) g.row_is ep refl refl

    e : k.served ≡ Some (process id)
    e = sym i.served_is ∙ served

    before : is_message_in c.before ≡ true
    before = phase_line c ep (sym (ap is_message_in i.bus_is) ∙ here)

    there : is_message_in (bus_of k) ≡ true
    there = ap is_message_in g.row_is.bus_is ∙ before

    messages : IsCompleting k
    messages = sym (stays_as s k row n c now g.row_is ep refl).plan.messages ∙ m

    low : c.after.atn ≡ false
    low = sym (ap (λ (x : LineSet). x.atn) i.bus_is) ∙ calm

    knows : Knows s k n
    knows = was.books.knows n g.row_is.connection_is g.calm

    l : Link
    l = knows.link

    shown : row_events_by s k.story (row_reading k.story.bus_state row) row
        ≡ (if is_completion l c then end_events (carried_if k.story l.item) else [])
    shown = stay_shown s k row n c l now g.row_is ep refl knows.link_is

    counts : Counted c k.handshakes j.handshakes
    counts = counted_row s p row n c lt was.standing.devices g ep

    -- it has ended before
    ended : (k.handshakes.answers == 0) ≡ false → (q : Bool) → is_completion l c ≡ q
        → has_ended (array_of s j) id ≡ true
    ended z true f = wrong (sym (once_taken s p row n c l lt was next facts.served facts.last h g knows.link_is f) ∙ z)
    ended z false f =
        let same : array_of s j ≡ array_of s k = ap (λ (x : List Event). or_start s (array_after_events s k.array x))
        (shown ∙ ap (λ (q : Bool). if q then end_events (carried_if k.story l.item) else []) f) in
        let was_low : (bus_of k).atn ≡ false = ap (λ (x : LineSet). x.atn) g.row_is.bus_is
        ∙ sym (attends_after s p row n c o prompt was h g before messages z) ∙ low in
        ap (λ (x : Array). has_ended x id) same ∙ (h n con off).ended id e there messages z was_low

    -- it ends with the row
    ends : rises c.before.ack c.after.ack ≡ true → has_ended (array_of s j) id ≡ true
    ends rose = ap (λ (x : Array). has_ended x id) (ap (or_start s) after.array_is)
        ∙ ended_after s places.array after.array id status
        ((λ t. array_after_events s (sym places.array_is t) (sym event_is t)) ∙ after.array_is)
      where
        begun : k.exchange.begun ≡ true
        begun = (g.phase (message_line (bus_of k) there)).1

        asks : (bus p).req ≡ true
        asks = sym (ap (λ (x : LineSet). x.req) was.plain.bus) ∙ ap (λ (x : LineSet). x.req) g.row_is.bus_is
            ∙ front c.before.req c.before.ack (awaited c (alternates_at s p row n c lt was next g before) rose)

        asked : (k.handshakes.requests == 0) ≡ false
        asked = asked_for s p n k.handshakes r.stage
            (sym (ap is_message_in was.plain.bus) ∙ there) was.plain.handshakes asks

        last : l.last ≡ complete
        last = last_one l k.exchange.plan.messages k.exchange.plan.next k.handshakes.requests
            (subst (λ (x : Phase). LastBy l k.exchange.plan k.handshakes.requests k.story.bus_state.dialogue.is_last x)
            (in_phase (bus_of k) there) (((facts.last n con off).0 l id knows.link_is e).begun begun)) messages asked

        done : is_completion l c ≡ true
        done = all_four (rises c.before.ack c.after.ack) (is_message_in c.before)
            (is_complete l.last) c.after.atn rose before (ap is_complete last) low

        status : ℕ
        status = slice_index (carried_here k id).status.bytes 0

        event_is : row_events_by s k.story (row_reading k.story.bus_state row) row ≡ Event.End id status ∷ []
        event_is = shown ∙ ap (λ (q : Bool). if q then end_events (carried_if k.story l.item) else []) done
            ∙ ap (λ (x : Option Item). end_events (carried_if k.story x))
            (item_known s k n l knows (facts.named n con off) knows.link_is last ∙ e)
            ∙ (λ x. Event.End (carried_id k.story.carried id x) status ∷ [])

-- ---- any row

pub close_next : (s : ScenarioValue) (p : List Row) (row : Row) → Obeys s → IsPrompt s (row ∷ p) → Stood s p
    → NextStood s p row → TellFacts s p → PlaceFacts s p → PlaceFacts s (row ∷ p) → CloseFacts s p
    → CloseFacts s (row ∷ p)
close_next s p row o prompt was next facts places later h n after calm = go (row_kind s p row n o prompt was after calm)
  where
    dv : AreOfDevices p
    dv = was.standing.devices

    lt : row.dev < 8
    lt = (least_is s p row prompt.1).inside

    go : RowKindOf s p row n → CloseBooks s (run_state s (row ∷ p))
    go (begins_now alone f) =
        let e = first_handshakes s p row n dv lt f in
        record { counts = fresh_counts (run_state s (row ∷ p)) e; ended = fresh_closed s (run_state s (row ∷ p)) e }
    go (goes_now con off) = by g.goes.row_is.kind
      where
        r : ConnectionRow s p row n
        r = connection_row s p row n o prompt was con off calm

        g : GoingRow s p row n
        g = going_row s p row n dv lt con after calm next.row_is r.facts

        stays : changes_phase g.change ≡ false → HasClosed s (run_state s (row ∷ p))
        stays ep = closed_stay s p row n g.change o prompt was next facts places later r g.goes ep h

        closed_by : RowKind row n g.change → HasClosed s (run_state s (row ∷ p))
        closed_by (still ef ep er) = stays ep
        closed_by (strikes ef ep er) = stays ep
        closed_by (crosses dev ef ep er) = stays ep
        closed_by (turns ef ep er) = fresh_closed s (run_state s (row ∷ p))
            (λ here. turn_handshakes s (run_state s p) row n g.change g.goes ep ef)

        by : RowKind row n g.change → CloseBooks s (run_state s (row ∷ p))
        by kind = record {
          counts = counts_goes s p row n g.change lt dv r.stage g.goes
              (λ here. alternates_at s p row n g.change lt was next g.goes here) (h n con off).counts;
          ended = closed_by kind;
        }

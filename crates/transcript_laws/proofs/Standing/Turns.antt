-- A phase of the connection is left: what stands as the next one begins.
use Rattle.transcript_laws.proofs
use proofs.Names.{ℕ, ◌≡◌, ◌∙◌, Bool, true, false, not, ◌&&◌, ◌||◌, List, [], ◌∷◌, ◌++◌, Option, Some, None, refl, sym}
use proofs.Names.{ap, subst, or_parts, is_some, if◌then◌else◌, wrong, wrong', implied, or_second, Event, ProcId}
use proofs.Names.{LineSet, is_command, is_data, is_message_in, changes_phase, Change, Connection, Kind, Drives, Fault}
use proofs.Names.{Row, is_nil, ScenarioValue, array_after, same_id, carried_id, events_link, events_sent, RowReading}
use proofs.Names.{row_reading, CarriedBytes, carried_of, is_whole_block, is_status_phase, carried_if, phase_events}
use proofs.Names.{end_events, connection_events, Item, process, abort, Story, story_after_events, story_after_fault}
use proofs.Names.{story_after_crossing, story_in_connection, story, id_is, nil_is, none_some, by_bool, events_grow}
use proofs.Names.{no_events, AccountValue, names_begun, OpenedValue, with_crossing, with_still_row, phase_over}
use proofs.Names.{phase_entered, with_row, transcribed, IsKept, AreNumbered, are_talk, base_parts, is_known}
use proofs.Names.{AreOwnEvents, undoes_nothing, is_open_item, arrives_first, leaves_talk, gets_known, fits_turn}
use proofs.Names.{IsBlank, IsServing, no_process, AreKept, AreAlike, IsFrom, kept, Stage, of_abort, of_none, of_process}
use proofs.{Names.{StandsLinked, Standing, IsAccountOf, IsKeptOf, has_refusal, IsMarked}, Past.Own.{own_append}}
use proofs.Serving.{Events.{arrivals, turn_events}, Talks.{talk_serves, talk_turned}, Turns.{IsVoid, void_turned}}
use proofs.{Serving.Turns.{cut_turned, turn_serves}, Standing.{Faults.{fault_phase}, Linked.{transcript_on, story_on}}}
use proofs.Standing.{Linked.{IsOn, uncrossed, change_on, story_is_on, books_on, Makes, linked_next}, Open.{alike_self}}
use proofs.Standing.{Open.{alike_turned, alike_kept, SameBooks, kept_on, from_on}, Out.{four_true}}
use proofs.Standing.{TurnMarks.{events_own, events_other, others_marked, turn_marks, turn_own}, TurnParts.{turned}}
use proofs.Standing.TurnParts.{IsTurned, is_turned, talk_parts, known_stays, known_then, IsQuiet, quiet_since, alike_is}
use proofs.Standing.TurnParts.{alike_account, alike_marked}
use Rattle.due_model.specs.story_model.specs.HistoryEvents as story_of

-- ---- the row

pub record TurnRow (s : ScenarioValue) (rows : List Row) (row : Row)
    (h : StandsLinked s (transcribed rows) (story s rows)) : Type 0 where
  pub on : IsOn s rows row h.opened.connection
  pub crosses : (row_reading (story s rows).bus_state row).crosses ≡ false
  pub turns : changes_phase (row_reading (story s rows).bus_state row).change ≡ true
  pub fits : fits_turn (story s rows) h.opened h.link (row_reading (story s rows).bus_state row).change ≡ true
  pub numbered : AreNumbered (transcribed rows).processes (names_begun (transcribed rows).items)
  pub marked : (x : ProcId) → IsMarked (story s rows).history (carried_of (story s rows).carried x)

-- The lines after it, the bytes of a message that is broken off, and the connection.
abbrev after_of : ScenarioValue → List Row → Row → LineSet
after_of s rows row = (row_reading (story s rows).bus_state row).change.after

abbrev half_of : ScenarioValue → List Row → List ℕ
half_of s rows = (story s rows).bus_state.dialogue.half

abbrev next_of : ScenarioValue → List Row → Row → OpenedValue → OpenedValue
next_of s rows row o = turned o (story s rows).bus_state.bus (after_of s rows row) (half_of s rows)

turn_row : (s : ScenarioValue) (rows : List Row) (row : Row) (h : StandsLinked s (transcribed rows) (story s rows))
    → TurnRow s rows row h
    → with_row h.opened (story s rows).bus_state (row_reading (story s rows).bus_state row) row.kind
    ≡ next_of s rows row h.opened
turn_row s rows row h r =
    let d : RowReading = row_reading (story s rows).bus_state row in
    let o : OpenedValue = h.opened in
    (λ i. if r.crosses i then with_crossing o (story s rows).bus_state.dialogue.is_last d else if changes_phase d.change
    then phase_entered (phase_over o d.change.before (story s rows).bus_state.dialogue.half true) d.change.after
    else with_still_row o (story s rows).bus_state d.change row.kind)
    ∙ (λ i. if r.turns i
    then phase_entered (phase_over o d.change.before (story s rows).bus_state.dialogue.half true) d.change.after
    else with_still_row o (story s rows).bus_state d.change row.kind)

turn_story : (s : ScenarioValue) (rows : List Row) (row : Row) (h : StandsLinked s (transcribed rows) (story s rows))
    → TurnRow s rows row h
    → story_in_connection s (story s rows) (Some h.link) (row_reading (story s rows).bus_state row) row ≡ story s rows
turn_story s rows row h r =
    (λ i. if r.crosses i then story_after_crossing s (story s rows) h.link (row_reading (story s rows).bus_state row)
    else story_after_fault (story s rows) h.link row.kind) ∙ go row.kind refl
  where
    go : (kind : Kind) → row.kind ≡ kind → story_after_fault (story s rows) h.link row.kind ≡ story s rows
    go (Drives lines) e = ap (λ (kind : Kind). story_after_fault (story s rows) h.link kind) e
    go (Fault bit) e = fault_phase s rows row bit e r.turns

turn_makes : (s : ScenarioValue) (rows : List Row) (row : Row) (h : StandsLinked s (transcribed rows) (story s rows))
    (shown : List Event) → TurnRow s rows row h → phase_events s (story s rows)
    (carried_if (story s rows) h.link.item) (row_reading (story s rows).bus_state row).change ≡ shown
    → Makes s rows row (next_of s rows row h.opened) (story_after_events s (story s rows) shown) shown
turn_makes s rows row h shown r e = record {
  transcript_is = change_on s rows row h r.on
      ∙ ap (λ (x : OpenedValue). record (transcribed rows) { opened = Some x }) (turn_row s rows row h r);
  story_is =
      let d : RowReading = row_reading (story s rows).bus_state row in
      let shows : connection_events s (story s rows) h.link d ≡ shown =
      (λ i. if r.turns i then phase_events s (story s rows) (carried_if (story s rows) h.link.item) d.change
      else if story_of.is_completion h.link d.change then end_events (carried_if (story s rows) h.link.item) else [])
      ∙ e in
      story_is_on s rows row h r.on
      ∙ (λ i. story_on s rows row (story_after_events s (turn_story s rows row h r i) (shows i)) (shows i));
}

-- ---- what the test says

record FitParts (s : ScenarioValue) (rows : List Row) (row : Row)
    (h : StandsLinked s (transcribed rows) (story s rows)) : Type 0 where
  undoes : (not (is_message_in (story s rows).bus_state.bus && not (is_nil (half_of s rows)))
      || undoes_nothing (story s rows) h.link h.link.undo) ≡ true
  arrives : (not (is_command (story s rows).bus_state.bus) || arrives_first (story s rows) h.link.item) ≡ true
  talks : leaves_talk h.opened (row_reading (story s rows).bus_state row).change h.link.item ≡ true
  opens : (is_known h.opened (story s rows).bus_state.bus
      || not (gets_known h.opened (row_reading (story s rows).bus_state row).change)
      || is_open_item (story s rows) h.link.item) ≡ true

fit_parts : (s : ScenarioValue) (rows : List Row) (row : Row) (h : StandsLinked s (transcribed rows) (story s rows))
    → TurnRow s rows row h → FitParts s rows row h
fit_parts s rows row h r =
    let g = four_true (not (is_message_in (story s rows).bus_state.bus && not (is_nil (half_of s rows)))
    || undoes_nothing (story s rows) h.link h.link.undo)
    (not (is_command (story s rows).bus_state.bus) || arrives_first (story s rows) h.link.item)
    (leaves_talk h.opened (row_reading (story s rows).bus_state row).change h.link.item)
    (is_known h.opened (story s rows).bus_state.bus
    || not (gets_known h.opened (row_reading (story s rows).bus_state row).change)
    || is_open_item (story s rows) h.link.item) r.fits in
    record { undoes = g.0; arrives = g.1; talks = g.2; opens = g.3 }

nothing_undone :
    (s : ScenarioValue) (rows : List Row) (row : Row) (h : StandsLinked s (transcribed rows) (story s rows))
    → TurnRow s rows row h → (is_message_in (story s rows).bus_state.bus && not (is_nil (half_of s rows))) ≡ true
    → undoes_nothing (story s rows) h.link h.link.undo ≡ true
nothing_undone s rows row h r e = implied (is_message_in (story s rows).bus_state.bus && not (is_nil (half_of s rows)))
    (undoes_nothing (story s rows) h.link h.link.undo) (fit_parts s rows row h r).undoes e

three_true : (b q r : Bool) → (not b && not q && r) ≡ true → (b ≡ false) × (q ≡ false) × (r ≡ true)
three_true true q r e = wrong' e
three_true false true r e = wrong' e
three_true false false r e = (refl, refl, e)

no_bytes : (bytes : List ℕ) → not (is_nil bytes) ≡ false → bytes ≡ []
no_bytes [] e = refl
no_bytes (b ∷ bytes) e = wrong e

-- ---- what stands, but for the stage

record Turns (s : ScenarioValue) (rows : List Row) (row : Row) (h : StandsLinked s (transcribed rows) (story s rows))
    (shown : List Event) : Type 0 where
  shown_is : phase_events s (story s rows) (carried_if (story s rows) h.link.item)
      (row_reading (story s rows).bus_state row).change
      ≡ shown
  link : (story_after_events s (story s rows) shown).link ≡ (story s rows).link
  marked : (x : ProcId)
      → IsMarked (shown ++ (story s rows).history) (carried_of (story_after_events s (story s rows) shown).carried x)
  stage : Stage s (transcript_on rows row (next_of s rows row h.opened))
      (story_on s rows row (story_after_events s (story s rows) shown) shown)
      (next_of s rows row h.opened) h.link h.sent (shown ++ h.conn)

turned_next : (s : ScenarioValue) (rows : List Row) (row : Row) (h : StandsLinked s (transcribed rows) (story s rows))
    (shown : List Event) → TurnRow s rows row h → Turns s rows row h shown → Standing s (row ∷ rows)
turned_next s rows row h shown r g = linked_next s rows row h (next_of s rows row h.opened) h.link
    (story_after_events s (story s rows) shown) shown r.numbered r.on (turn_makes s rows row h shown r g.shown_is)
    (record {
      connection = new.connection;
      link = g.link ∙ h.link_is;
      sent = events_sent s (story s rows) shown;
      item = λ began. refl;
      marked = g.marked;
      stage = g.stage;
      bytes = λ e. new.bytes;
      said = λ e. new.said;
      crossed = λ x e. uncrossed s rows row r.crosses x e;
      undone = λ u e f.
          let q = quiet_since h.opened (story s rows).bus_state.bus (after_of s rows row) (half_of s rows) f in
          subst (λ (list : List Event). IsMarked (list ++ (story s rows).history) u)
          (sym (no_events s (story s rows) (carried_if (story s rows) h.link.item)
          (row_reading (story s rows).bus_state row).change q.command q.status) ∙ g.shown_is)
          (undone u e q (is_message_in (story s rows).bus_state.bus && not (is_nil (half_of s rows))) refl);
    })
  where
    new : IsTurned h.opened (turned h.opened (story s rows).bus_state.bus
        (row_reading (story s rows).bus_state row).change.after (story s rows).bus_state.dialogue.half)
    new = is_turned h.opened (story s rows).bus_state.bus (after_of s rows row) (half_of s rows)

    undone : (u : CarriedBytes) → h.link.undo ≡ Some u → IsQuiet h.opened (story s rows).bus_state.bus
        (row_reading (story s rows).bus_state row).change.after (story s rows).bus_state.dialogue.half → (q : Bool)
        → (is_message_in (story s rows).bus_state.bus && not (is_nil (story s rows).bus_state.dialogue.half)) ≡ q
        → IsMarked (story s rows).history u
    undone u e quiet false f = h.undone u e (quiet.since f)
    undone u e quiet true f = alike_marked (story s rows).history u (carried_of (story s rows).carried u.id)
        (sym (carried_id (story s rows).carried u.id)) (alike_is u (carried_of (story s rows).carried u.id)
        (ap (λ (o : Option CarriedBytes). undoes_nothing (story s rows) h.link o) (sym e)
        ∙ nothing_undone s rows row h r f)) (r.marked u.id)

-- ---- no event

quiet_marked : (s : ScenarioValue) (rows : List Row) (row : Row) (h : StandsLinked s (transcribed rows) (story s rows))
    → TurnRow s rows row h → is_command (story s rows).bus_state.bus ≡ false
    → is_status_phase (after_of s rows row) ≡ false → Stage s (transcript_on rows row (next_of s rows row h.opened))
    (story_on s rows row (story s rows) []) (next_of s rows row h.opened) h.link h.sent h.conn
    → Standing s (row ∷ rows)
quiet_marked s rows row h r q v stage =
    turned_next s rows row h [] r (record {
      shown_is = no_events s (story s rows) (carried_if (story s rows) h.link.item)
          (row_reading (story s rows).bus_state row).change q v;
      link = refl;
      marked = r.marked;
      stage = stage;
    })

-- ---- the process is known

-- What MESSAGE PARITY ERROR brings back from here on.
record Brings (s : ScenarioValue) (rows : List Row) (row : Row) (h : StandsLinked s (transcribed rows) (story s rows))
    (id : ProcId) (was : Bool) (st : Option ℕ) : Type 0 where
  back : CarriedBytes
  undo : (u : CarriedBytes) → h.link.undo ≡ Some u → u ≡ back
  own : back.id ≡ id
  void : IsVoid (next_of s rows row h.opened) back was st

-- The connection serves its process as the row comes.
record Serves (s : ScenarioValue) (rows : List Row) (row : Row) (h : StandsLinked s (transcribed rows) (story s rows))
    (id : ProcId) (back : CarriedBytes) (was : Bool) (st : Option ℕ) : Type 0 where
  is : h.link.item ≡ Some (process id)
  undone : (u : CarriedBytes) → h.link.undo ≡ Some u → u ≡ back
  own : back.id ≡ id
  known : is_known (next_of s rows row h.opened) (after_of s rows row) ≡ true
  serving : IsServing h.opened (is_command (story s rows).bus_state.bus) id
      (carried_of (story s rows).carried id) back h.conn (story s rows).history was st
  events_are : AreOwnEvents id h.conn
  talks : are_talk (base_parts h.opened) ≡ true → h.conn ≡ []
  from : IsFrom s (transcribed rows) (story s rows) h.opened h.sent id was st
  others : AreKept s (transcribed rows) (story s rows) h.sent (λ x. same_id x id)

brings : (s : ScenarioValue) (rows : List Row) (row : Row) (h : StandsLinked s (transcribed rows) (story s rows))
    (id : ProcId) (back : CarriedBytes) (was : Bool) (st : Option ℕ)
    → TurnRow s rows row h → Serves s rows row h id back was st → Brings s rows row h id was st
brings s rows row h id back was st r g =
    go (is_message_in (story s rows).bus_state.bus && not (is_nil (half_of s rows))) h.link.undo refl refl
  where
    now : CarriedBytes
    now = carried_of (story s rows).carried id

    empty : is_command (story s rows).bus_state.bus ≡ false → is_data (story s rows).bus_state.bus ≡ false
        → h.opened.bytes ≡ []
    empty q d = h.bytes (λ i. q i || d i)

    same_back :
        ((is_message_in (story s rows).bus_state.bus && not (is_nil (story s rows).bus_state.dialogue.half)) ≡ true
        → (a : AccountValue) → IsAccountOf a (carried_of (story s rows).carried id) → IsAccountOf a back)
        → Brings s rows row h id was st
    same_back same = record {
      back = back;
      undo = g.undone;
      own = g.own;
      void = λ m p held none b. void_turned h.opened (story s rows).bus_state.bus
          (half_of s rows) (is_status_phase (after_of s rows row)) id now back h.conn
          (story s rows).history was st empty same g.serving m p held none b;
    }

    go : (q : Bool) (o : Option CarriedBytes)
        → (is_message_in (story s rows).bus_state.bus && not (is_nil (story s rows).bus_state.dialogue.half)) ≡ q
        → h.link.undo ≡ o → Brings s rows row h id was st
    go false o f e = same_back (λ z. wrong' (sym f ∙ z))
    go true None f e = record {
      back = now;
      undo = λ u z. none_some u (sym e ∙ z);
      own = carried_id (story s rows).carried id;
      void = λ m p held none b. cut_turned h.opened (story s rows).bus_state.bus
          (half_of s rows) (is_status_phase (after_of s rows row)) id now back h.conn
          (story s rows).history was st f g.serving m p held none b;
    }
    go true (Some u) f e =
        let here : u.id ≡ id = ap (λ (x : CarriedBytes). x.id) (g.undone u e) ∙ g.own in
        let alike = alike_is u (carried_of (story s rows).carried u.id)
        (ap (λ (x : Option CarriedBytes). undoes_nothing (story s rows) h.link x) (sym e)
        ∙ nothing_undone s rows row h r f) in
        same_back (λ z a y. subst (λ (x : CarriedBytes). IsAccountOf a x)
        (g.undone u e) (alike_account u (carried_of (story s rows).carried u.id) a alike
        (subst (λ (x : ProcId). IsAccountOf a (carried_of (story s rows).carried x)) (sym here) y)))

process_next : (s : ScenarioValue) (rows : List Row) (row : Row) (h : StandsLinked s (transcribed rows) (story s rows))
    (id : ProcId) (back : CarriedBytes) (was : Bool) (st : Option ℕ)
    → TurnRow s rows row h → Serves s rows row h id back was st → Standing s (row ∷ rows)
process_next s rows row h id back was st r g =
    turned_next s rows row h shown r (record {
      shown_is = shown_is;
      link = events_link s (story s rows) shown;
      marked = marked;
      stage = of_process id v.back was st g.is v.undo v.own g.known (subst
          (λ (c : CarriedBytes). IsServing (next_of s rows row h.opened) (is_command (after_of s rows row)) id c v.back
          (shown ++ h.conn) (shown ++ (story s rows).history) was st) (sym (events_own s (story s rows) id shown own))
          (turn_serves h.opened (story s rows).bus_state.bus (after_of s rows row) (half_of s rows) id now back v.back
          h.conn (story s rows).history was st room (carried_id (story s rows).carried id) ((r.marked id).refused
          ∙ ap (λ (x : ProcId). has_refusal (story s rows).history x) (carried_id (story s rows).carried id))
          v.void g.serving)) (own_append id shown h.conn own g.events_are) (λ talk.
          let q = talk_parts h.opened (story s rows).bus_state.bus (after_of s rows row) (half_of s rows) talk in
          (λ i. (sym shown_is ∙ no_events s (story s rows) (carried_if (story s rows) h.link.item)
          (row_reading (story s rows).bus_state row).change q.command q.status) i ++ g.talks q.base i))
          (from_on s (transcribed rows) (transcript_on rows row next) (story s rows)
          (story_on s rows row c shown) h.opened next h.sent id was st same
          (is_turned h.opened (story s rows).bus_state.bus (after_of s rows row) (half_of s rows)).connection g.from)
          (kept_on s (transcribed rows) (transcript_on rows row next) (story s rows)
          (story_on s rows row c shown) h.sent (λ x. same_id x id) same
          (λ x no. alike_self _ _ (sym (events_other s (story s rows) id x shown own no))) g.others);
    })
  where
    now : CarriedBytes
    now = carried_of (story s rows).carried id

    room : Bool
    room = is_some (array_after s (Event.Accept (carried_of (story s rows).carried id).id ∷ (story s rows).history))

    shown : List Event
    shown = turn_events (is_status_phase (row_reading (story s rows).bus_state row).change.after)
        (carried_of (story s rows).carried id)
        (arrivals (is_command (story s rows).bus_state.bus && is_whole_block (carried_of (story s rows).carried id))
        (is_some (array_after s (Event.Accept (carried_of (story s rows).carried id).id ∷ (story s rows).history)))
        (carried_of (story s rows).carried id).id)

    c : Story
    c = story_after_events s (story s rows) (turn_events
        (is_status_phase (row_reading (story s rows).bus_state row).change.after) (carried_of (story s rows).carried id)
        (arrivals (is_command (story s rows).bus_state.bus && is_whole_block (carried_of (story s rows).carried id))
        (is_some (array_after s (Event.Accept (carried_of (story s rows).carried id).id ∷ (story s rows).history)))
        (carried_of (story s rows).carried id).id))

    next : OpenedValue
    next = turned h.opened (story s rows).bus_state.bus (row_reading (story s rows).bus_state row).change.after
        (story s rows).bus_state.dialogue.half

    v : Brings s rows row h id was st
    v = brings s rows row h id back was st r g

    own : AreOwnEvents id shown
    own = turn_own now (is_command (story s rows).bus_state.bus && is_whole_block now) room
        (is_status_phase (after_of s rows row)) id (carried_id (story s rows).carried id)

    shown_is : phase_events s (story s rows) (carried_if (story s rows) h.link.item)
        (row_reading (story s rows).bus_state row).change
        ≡ shown
    shown_is = ap (λ (o : Option Item). phase_events s (story s rows) (carried_if (story s rows) o)
        (row_reading (story s rows).bus_state row).change) g.is

    same : SameBooks (transcribed rows) (transcript_on rows row next) (story s rows) (story_on s rows row c shown)
    same = books_on s rows row next c shown (events_grow s (story s rows) shown)

    first : (is_command (story s rows).bus_state.bus && is_whole_block (carried_of (story s rows).carried id)) ≡ true
        → (carried_of (story s rows).carried id).shown ≡ false
    first e = by (is_command (story s rows).bus_state.bus) (is_whole_block now)
        (carried_of (story s rows).carried id).shown e (sym
        (ap (λ (o : Option Item). not (is_command (story s rows).bus_state.bus) || arrives_first (story s rows) o) g.is)
        ∙ (fit_parts s rows row h r).arrives)
      where
        by : (b q w : Bool) → (b && q) ≡ true → (not b || (not q || not w)) ≡ true → w ≡ false
        by true true true x y = wrong' y
        by true true false x y = refl
        by true false w x y = wrong' x
        by false q w x y = wrong' x

    marked : (x : ProcId)
        → IsMarked (shown ++ (story s rows).history) (carried_of (story_after_events s (story s rows) shown).carried x)
    marked x = by_bool (same_id x id)
        (λ e. subst (λ (y : ProcId). IsMarked (shown ++ (story s rows).history) (carried_of c.carried y))
        (sym (id_is x id e)) (subst (λ (y : CarriedBytes). IsMarked (shown ++ (story s rows).history) y)
        (sym (events_own s (story s rows) id shown own))
        (turn_marks (story s rows).history now (is_command (story s rows).bus_state.bus && is_whole_block now) room
        (is_status_phase (after_of s rows row)) first (r.marked id))))
        (λ e. subst (λ (y : CarriedBytes). IsMarked (shown ++ (story s rows).history) y)
        (sym (events_other s (story s rows) id x shown own e))
        (others_marked (story s rows).history id shown (carried_of (story s rows).carried x) own
        (ap (λ (y : ProcId). same_id y id) (carried_id (story s rows).carried x) ∙ e) (r.marked x)))

-- ---- what stands

-- It is known from this row on.
becomes_known : (s : ScenarioValue) (rows : List Row) (row : Row) (h : StandsLinked s (transcribed rows) (story s rows))
    → TurnRow s rows row h → h.opened.connection.reselected ≡ true → h.conn ≡ []
    → are_talk (base_parts h.opened) ≡ true → is_command (story s rows).bus_state.bus ≡ false
    → ((x : ProcId) → h.link.item ≡ Some (process x) → IsBlank (carried_of (story s rows).carried x))
    → ((u : CarriedBytes) → h.link.undo ≡ Some u → IsBlank u × AreAlike u (carried_of (story s rows).carried u.id)
    × ((x : ProcId) → h.link.item ≡ Some (process x) → u.id ≡ x))
    → AreKept s (transcribed rows) (story s rows) h.sent no_process
    → (item : Option Item) → h.link.item ≡ item → is_open_item (story s rows) item ≡ true
    → gets_known h.opened (row_reading (story s rows).bus_state row).change ≡ true → Standing s (row ∷ rows)
becomes_known s rows row h r re none talk no_command blanks undone kept_all None is opens gets = wrong' opens
becomes_known s rows row h r re none talk no_command blanks undone kept_all (Some (abort j)) is opens gets =
    wrong' opens
becomes_known s rows row h r re none talk no_command blanks undone kept_all (Some (process id)) is opens gets =
    go h.link.undo refl
  where
    now : CarriedBytes
    now = carried_of (story s rows).carried id

    w : IsKept s (transcribed rows).processes h.sent (names_begun (transcribed rows).items) (story s rows).carried id
    w = kept_all id opens refl

    serves : (back : CarriedBytes) → ((u : CarriedBytes) → h.link.undo ≡ Some u → u ≡ back) → back.id ≡ id
        → IsBlank back → IsKeptOf w.process back → Standing s (row ∷ rows)
    serves back undo own blank kept_back =
        process_next s rows row h id back w.process.shown w.process.status r (record {
          is = is;
          undone = undo;
          own = own;
          known = known_then h.opened (story s rows).bus_state.bus (after_of s rows row) (half_of s rows)
              (λ d. h.bytes (λ i. no_command i || d i)) gets;
          serving = subst (λ (list : List Event). IsServing h.opened (is_command (story s rows).bus_state.bus)
              id now back list (story s rows).history w.process.shown w.process.status) (sym none)
              (subst (λ (q : Bool). IsServing h.opened q id now back [] (story s rows).history w.process.shown
              w.process.status) (sym no_command) (talk_serves h.opened id now back (story s rows).history w.process talk
              (blanks id is) w.kept blank kept_back));
          events_are = subst (AreOwnEvents id) (sym none) tt;
          talks = λ z. none;
          from = kept re (record {
            definition = w.definition;
            definition_is = w.definition_is;
            process = w.process;
            last_is = w.last_is;
            named = w.named;
          }) (record { shown = refl; status = refl });
          others = λ x o but. kept_all x o refl;
        })

    go : (o : Option CarriedBytes) → h.link.undo ≡ o → Standing s (row ∷ rows)
    go None e = serves now (λ u f. none_some u (sym e ∙ f)) (carried_id (story s rows).carried id) (blanks id is) w.kept
    go (Some u) e =
        let g = undone u e in
        serves u (λ x f. some_is x u (sym f ∙ e)) (g.2 id is) g.0 (alike_kept w.process
        (carried_of (story s rows).carried id) u (alike_turned u (carried_of (story s rows).carried id)
        (subst (λ (x : ProcId). AreAlike u (carried_of (story s rows).carried x)) (g.2 id is) g.1)) w.kept)
      where
        some_is : (x y : CarriedBytes) → Some x ≡ Some y → x ≡ y
        some_is x y f = cc

pub turn_next : (s : ScenarioValue) (rows : List Row) (row : Row) (h : StandsLinked s (transcribed rows) (story s rows))
    → TurnRow s rows row h → Standing s (row ∷ rows)
turn_next s rows row h r = go h.stage
  where
    next : OpenedValue
    next = turned h.opened (story s rows).bus_state.bus (row_reading (story s rows).bus_state row).change.after
        (story s rows).bus_state.dialogue.half

    same : SameBooks (transcribed rows) (transcript_on rows row (next_of s rows row h.opened)) (story s rows)
        (story_on s rows row (story s rows) [])
    same = books_on s rows row next (story s rows) [] (events_grow s (story s rows) [])

    con : next.connection ≡ h.opened.connection
    con = (is_turned h.opened (story s rows).bus_state.bus (after_of s rows row) (half_of s rows)).connection

    by_gets : (q : Bool) → gets_known h.opened (row_reading (story s rows).bus_state row).change ≡ q
        → h.opened.connection.reselected ≡ true → h.conn ≡ []
        → are_talk (base_parts h.opened) ≡ true → is_command (story s rows).bus_state.bus ≡ false
        → is_status_phase (story s rows).bus_state.bus ≡ false → ((m : ℕ) → h.link.item ≡ Some (abort m) → ⊥)
        → ((x : ProcId) → h.link.item ≡ Some (process x) → IsBlank (carried_of (story s rows).carried x))
        → ((u : CarriedBytes) → h.link.undo ≡ Some u → IsBlank u × AreAlike u (carried_of (story s rows).carried u.id)
        × ((x : ProcId) → h.link.item ≡ Some (process x) → u.id ≡ x))
        → AreKept s (transcribed rows) (story s rows) h.sent no_process → Standing s (row ∷ rows)
    by_gets true e re none talk no_command no_status plain blanks undone kept_all = becomes_known
        s rows row h r re none talk no_command blanks undone kept_all h.link.item refl
        (or_second (is_known h.opened (story s rows).bus_state.bus
        || not (gets_known h.opened (row_reading (story s rows).bus_state row).change))
        (is_open_item (story s rows) h.link.item) (fit_parts s rows row h r).opens
        (λ i. (not (re i) || not (talk i) || no_command i) || not (e i))) e
    by_gets false e re none talk no_command no_status plain blanks undone kept_all =
        let c : Change = (row_reading (story s rows).bus_state row).change in
        let two = or_parts (is_command c.after || is_status_phase c.after) (not (is_nil h.opened.bytes)) e in
        let one = or_parts (is_command c.after) (is_status_phase c.after) two.0 in
        quiet_marked s rows row h r no_command one.1
        (of_none (ap (λ (n : Connection). n.reselected) con ∙ re) none (talk_turned h.opened
        (story s rows).bus_state.bus c.after (half_of s rows) no_command (no_bytes h.opened.bytes two.1) one.1 talk)
        one.0 one.1 plain blanks undone (kept_on s (transcribed rows) (transcript_on rows row next) (story s rows)
        (story_on s rows row (story s rows) []) h.sent no_process same (λ x no. alike_self _ _ refl) kept_all))

    go : Stage s (transcribed rows) (story s rows) h.opened h.link h.sent h.conn → Standing s (row ∷ rows)
    go (of_abort m began is undo none talk kept_all) =
        let c : Change = (row_reading (story s rows).bus_state row).change in
        let three = three_true (is_command c.before) (is_status_phase c.after) (is_nil h.opened.bytes)
        (sym (ap (λ (o : Option Item). leaves_talk h.opened c o) is) ∙ (fit_parts s rows row h r).talks) in
        quiet_marked s rows row h r three.0 three.1
        (of_abort m (ap (λ (n : Connection). n.reselected) con ∙ began) is undo none (talk_turned h.opened
        (story s rows).bus_state.bus c.after (half_of s rows) three.0 (nil_is h.opened.bytes three.2) three.1 talk)
        (kept_on s (transcribed rows) (transcript_on rows row next) (story s rows)
        (story_on s rows row (story s rows) []) h.sent no_process same (λ x no. alike_self _ _ refl) kept_all))
    go (of_none re none talk no_command no_status plain blanks undone kept_all) = by_gets
        (gets_known h.opened (row_reading (story s rows).bus_state row).change) refl re none talk no_command no_status
        plain blanks undone kept_all
    go (of_process id back was st is undone own known serving events_are talks from others) =
        process_next s rows row h id back was st r (record {
          is = is;
          undone = undone;
          own = own;
          known = known_stays h.opened (story s rows).bus_state.bus (after_of s rows row) (half_of s rows) known;
          serving = serving;
          events_are = events_are;
          talks = talks;
          from = from;
          others = others;
        })

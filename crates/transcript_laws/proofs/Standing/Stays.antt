-- No byte crosses and no phase begins: what stands after the row, which may be a fault or COMMAND COMPLETE as it is
-- taken.
use Rattle.transcript_laws.proofs
use proofs.Names.{ℕ, ◌≡◌, ◌∙◌, Bool, true, false, not, ◌&&◌, ◌||◌, List, [], ◌∷◌, ◌++◌, Option, Some, None, refl, sym}
use proofs.Names.{ap, subst, and_parts, is_some, slice_index, if◌then◌else◌, wrong', and_first, and_second, and_false}
use proofs.Names.{or_false, implied, Event, ProcId, rises, LineSet, is_command, is_data, is_message_in, changes_phase}
use proofs.Names.{is_fault, Change, Kind, Drives, Fault, Row, PARITY_ERROR, INITIATOR_DETECTED_ERROR, is_nil}
use proofs.Names.{ScenarioValue, same_bool_is, same_id, same_bool, carried_id, check_keeps, events_sent, RowReading}
use proofs.Names.{row_reading, CarriedBytes, carried_of, carried_if, phase_events, end_events, connection_events, Item}
use proofs.Names.{process, Sent, Story, by_status, story_with_end, story_after_events, story_with_carried}
use proofs.Names.{carried_after_fault_if, story_after_fault, story_after_crossing, story_in_connection, story}
use proofs.Names.{same_phase_is, by_bool, grows_same, events_grow, names_begun, OpenedValue, is_complete, is_completion}
use proofs.Names.{with_part, with_fault, phase_over, phase_entered, with_crossing, with_still_row, with_row, by_change}
use proofs.Names.{transcribed, Part, AreNumbered, are_talk, base_parts, is_known, AreOwnEvents, has_status, fits_still}
use proofs.Names.{IsBlank, IsServing, AreKept, IsFrom, Stage, of_abort, of_none, of_process, StandsLinked, Standing}
use proofs.{Names.{IsMarked}, Parts.Base.{base_more}, Serving.Steps.{filled, struck_serves, fault_serves, end_serves}}
use proofs.{Serving.Turns.{in_no_command}, Standing.Changed.{changed, unchanged, changed_own, changed_each}}
use proofs.Standing.Changed.{changed_alike, marks_kept, after_fault, fault_marks, fault_alike, fault_blank, ChangesBy}
use proofs.Standing.{Changed.{by_fault, by_none}, Crossings.{no_events}, Faults.{fault_ack}, In.{known_more}}
use proofs.Standing.{In.{same_stands}, Linked.{SameLines, same_lines, transcript_on, story_on, IsOn, uncrossed}}
use proofs.Standing.Linked.{change_on, story_is_on, story_quiet, books_on, Makes, Stands, linked_next}
use proofs.Standing.{Open.{alike_self, alike_on, SameBooks, kept_on, from_on}, Stages.{stage_on}}
use Rattle.due_model.specs.story_model.specs.HistoryEvents as story_of

-- ---- the row

pub record StillRow (s : ScenarioValue) (rows : List Row) (row : Row)
    (h : StandsLinked s (transcribed rows) (story s rows)) : Type 0 where
  pub on : IsOn s rows row h.opened.connection
  pub crosses : (row_reading (story s rows).bus_state row).crosses ≡ false
  pub stays : changes_phase (row_reading (story s rows).bus_state row).change ≡ false
  pub fits : fits_still (story s rows) h.opened h.link (row_reading (story s rows).bus_state row).change ≡ true
  pub numbered : AreNumbered (transcribed rows).processes (names_begun (transcribed rows).items)
  pub marked : (x : ProcId) → IsMarked (story s rows).history (carried_of (story s rows).carried x)

lines_of : (s : ScenarioValue) (rows : List Row) (row : Row) (h : StandsLinked s (transcribed rows) (story s rows))
    → StillRow s rows row h
    → SameLines (story s rows).bus_state.bus (row_reading (story s rows).bus_state row).change.after
lines_of s rows row h r = same_lines (story s rows).bus_state.bus (row_reading
    (story s rows).bus_state row).change.after (same_phase_is (row_reading (story s rows).bus_state row).change r.stays)

still_row : (s : ScenarioValue) (rows : List Row) (row : Row) (h : StandsLinked s (transcribed rows) (story s rows))
    → StillRow s rows row h
    → with_row h.opened (story s rows).bus_state (row_reading (story s rows).bus_state row) row.kind
    ≡ with_still_row h.opened (story s rows).bus_state (row_reading (story s rows).bus_state row).change row.kind
still_row s rows row h r =
    let d : RowReading = row_reading (story s rows).bus_state row in
    let o : OpenedValue = h.opened in
    (λ i. if r.crosses i then with_crossing o (story s rows).bus_state.dialogue.is_last d else if changes_phase d.change
    then phase_entered (phase_over o d.change.before (story s rows).bus_state.dialogue.half true) d.change.after
    else with_still_row o (story s rows).bus_state d.change row.kind)
    ∙ (λ i. if r.stays i
    then phase_entered (phase_over o d.change.before (story s rows).bus_state.dialogue.half true) d.change.after
    else with_still_row o (story s rows).bus_state d.change row.kind)

still_story : (s : ScenarioValue) (rows : List Row) (row : Row) (h : StandsLinked s (transcribed rows) (story s rows))
    → StillRow s rows row h
    → story_in_connection s (story s rows) (Some h.link) (row_reading (story s rows).bus_state row) row
    ≡ story_after_fault (story s rows) h.link row.kind
still_story s rows row h r =
    λ i. if r.crosses i then story_after_crossing s (story s rows) h.link (row_reading (story s rows).bus_state row)
    else story_after_fault (story s rows) h.link row.kind

-- ---- COMMAND COMPLETE is taken for both

agree : (r m a x y z : Bool) → (not (r && m && a) || same_bool x (y && z)) ≡ true
    → (r && m && x && a) ≡ (r && m && y && z && a)
agree true true true x y z e = ap (λ (q : Bool). q && true) (same_bool_is x (y && z) e)
agree true true false x y z e = and_false x ∙ sym (and_false (y && z))
agree true false a x y z e = refl
agree false m a x y z e = refl

completes : (s : ScenarioValue) (rows : List Row) (row : Row) (h : StandsLinked s (transcribed rows) (story s rows))
    → StillRow s rows row h → story_of.is_completion h.link (row_reading (story s rows).bus_state row).change
    ≡ is_completion h.opened (story s rows).bus_state.dialogue.half (row_reading (story s rows).bus_state row).change
completes s rows row h r =
    let c : Change = (row_reading (story s rows).bus_state row).change in
    agree (rises c.before.ack c.after.ack) (is_message_in c.before) (not c.after.atn) (story_of.is_complete h.link.last)
    (is_complete h.opened.held) (is_nil (story s rows).bus_state.dialogue.half) (and_first _ _ r.fits)

-- ---- no COMMAND COMPLETE

unstruck : (o : OpenedValue) → with_fault o false ≡ o
unstruck o = λ i. record o { struck = or_false o.struck i }

still_makes : (s : ScenarioValue) (rows : List Row) (row : Row)
    (h : StandsLinked s (transcribed rows) (story s rows)) (o : OpenedValue) (c : Story)
    → StillRow s rows row h → story_of.is_completion h.link (row_reading (story s rows).bus_state row).change ≡ false
    → with_fault h.opened (is_fault row.kind && is_some (story s rows).bus_state.crossed) ≡ o
    → story_after_fault (story s rows) h.link row.kind ≡ c → Makes s rows row o c []
still_makes s rows row h o c r none e f = record {
  transcript_is = change_on s rows row h r.on ∙ ap (λ (x : OpenedValue). record (transcribed rows) {
    opened = Some x;
  }) (still_row s rows row h r ∙ ap (λ (q : Bool). if q then with_part h.opened Part.Completion
      else with_fault h.opened (is_fault row.kind && is_some (story s rows).bus_state.crossed))
      (sym (completes s rows row h r) ∙ none) ∙ e);
  story_is = story_quiet s rows row h r.on
      (no_events s (story s rows) h.link (row_reading (story s rows).bus_state row) r.stays none)
      ∙ ap (λ (x : Story). story_on s rows row x []) (still_story s rows row h r ∙ f);
}

quiet_next :
    (s : ScenarioValue) (rows : List Row) (row : Row) (h : StandsLinked s (transcribed rows) (story s rows)) (c : Story)
    → StillRow s rows row h → story_of.is_completion h.link (row_reading (story s rows).bus_state row).change ≡ false
    → (is_fault row.kind && is_some (story s rows).bus_state.crossed) ≡ false
    → story_after_fault (story s rows) h.link row.kind ≡ c → c.link ≡ (story s rows).link → c.sent ≡ (story s rows).sent
    → ((x : ProcId) → carried_of (story s rows).carried x ≡ carried_of c.carried x) → Standing s (row ∷ rows)
quiet_next s rows row h c r none unfaulted e link sent same =
    linked_next s rows row h h.opened h.link c [] r.numbered r.on (still_makes s rows row h h.opened c r none
    (ap (λ (q : Bool). with_fault h.opened q) unfaulted ∙ unstruck h.opened) e) (same_stands s rows row h c
    (lines_of s rows row h r) r.marked (λ x e. uncrossed s rows row r.crosses x e) (link ∙ h.link_is) sent same)

-- A fault strikes the byte that crossed in the row before.
command_fault : (lines : LineSet) (c : CarriedBytes) → is_command lines ≡ true
    → after_fault lines c ≡ record c { struck = true; failure = Some PARITY_ERROR }
command_fault lines c e = λ i. if e i then record c { struck = true; failure = Some PARITY_ERROR }
    else if is_data lines then record c { failure = Some (if lines.io then INITIATOR_DETECTED_ERROR else PARITY_ERROR) }
    else c

abbrev failure_of : LineSet → CarriedBytes → Option ℕ
failure_of lines c =
    if is_data lines then Some (if lines.io then INITIATOR_DETECTED_ERROR else PARITY_ERROR) else c.failure

other_fault : (lines : LineSet) (c : CarriedBytes) → is_command lines ≡ false
    → after_fault lines c ≡ record c { failure = failure_of lines c }
other_fault lines c e = (λ i. if e i then record c { struck = true; failure = Some PARITY_ERROR }
    else if is_data lines then record c { failure = Some (if lines.io then INITIATOR_DETECTED_ERROR else PARITY_ERROR) }
    else c) ∙ go (is_data lines)
  where
    go : (q : Bool)
        → (if q then record c { failure = Some (if lines.io then INITIATOR_DETECTED_ERROR else PARITY_ERROR) } else c)
        ≡ record c {
          failure = (if q then Some (if lines.io then INITIATOR_DETECTED_ERROR else PARITY_ERROR) else c.failure);
        }
    go true = refl
    go false = refl

strike_serves : (o : OpenedValue) (lines : LineSet) (q : Bool) (id : ProcId)
    (now back : CarriedBytes) (conn history : List Event) (was : Bool) (st : Option ℕ)
    → is_command lines ≡ q → IsServing o q id now back conn history was st
    → IsServing (record o { struck = o.struck || true }) q id (after_fault lines now) back conn history was st
strike_serves o lines true id now back conn history was st e h = subst
    (λ (x : CarriedBytes). IsServing (record o { struck = o.struck || true }) true id x back conn history was st)
    (sym (command_fault lines now e)) (struck_serves o id now back conn history was st (Some PARITY_ERROR) h)
strike_serves o lines false id now back conn history was st e h = subst
    (λ (x : CarriedBytes). IsServing (record o { struck = o.struck || true }) false id x back conn history was st)
    (sym (other_fault lines now e)) (fault_serves o id now back conn history was st (failure_of lines now) true h)

abbrev struck_story : ScenarioValue → List Row → Option Item → Change → Story
struck_story s rows item x =
    story_with_carried (story s rows) (carried_after_fault_if (carried_if (story s rows) item) (Some x))

strike_stands : (s : ScenarioValue) (rows : List Row) (row : Row)
    (h : StandsLinked s (transcribed rows) (story s rows)) (x : Change)
    → StillRow s rows row h → (story s rows).bus_state.crossed ≡ Some x → Stands s rows row h (record h.opened {
      struck = h.opened.struck || true;
    }) h.link (struck_story s rows h.link.item x) []
strike_stands s rows row h x r crossed = record {
  connection = refl;
  link = g.link ∙ h.link_is;
  sent = ap (λ (z : Sent). z.sent) g.sent;
  item = λ began. refl;
  marked = λ y. subst (λ (all : List CarriedBytes). IsMarked (story s rows).history (carried_of all y)) (sym g.carried)
      (changed_each (λ z. IsMarked (story s rows).history z) f (story s rows).carried h.link.item y id_kept
      (λ z m. marks_kept (story s rows).history z (f z) (fault_marks x.before z) m) (r.marked y));
  stage = stage_on s (transcribed rows) (transcript_on rows row k') (story s rows)
      (story_on s rows row c []) h.opened k' h.link h.link h.sent h.conn (record {
        same = books_on s rows row k' c [] (grows_same (story s rows).sent c.sent g.sent);
        connection = refl;
        command = lines.command;
        status = lines.status;
        item = refl;
        undo = refl;
      }) refl
      (λ y. alike_on _ _ _ (changed_alike f (story s rows).carried h.link.item y id_kept (λ z. fault_alike x.before z))
      (alike_self _ _ (at y))) (λ y e z b. subst IsBlank (at y) (changed_each IsBlank f
      (story s rows).carried h.link.item y id_kept (λ u v. fault_blank x.before u (h.crossed x crossed ∙ e) v) b))
      (λ id back was st is serving. subst (λ (now : CarriedBytes). IsServing k'
      (is_command (story s rows).bus_state.bus) id now back h.conn (story s rows).history was st)
      (sym (changed_own f (story s rows).carried h.link.item id id_kept is) ∙ at id)
      (strike_serves h.opened x.before (is_command (story s rows).bus_state.bus) id
      (carried_of (story s rows).carried id) back h.conn (story s rows).history was st (h.crossed x crossed) serving))
      h.stage;
  bytes = λ e. h.bytes (sym (λ i. lines.command i || lines.data_phase i) ∙ e);
  said = λ e. h.said (sym lines.out ∙ e);
  crossed = λ y e. uncrossed s rows row r.crosses y e;
  undone = λ u e z. h.undone u e z;
}
  where
    c : Story
    c = struck_story s rows h.link.item x

    k' : OpenedValue
    k' = record h.opened { struck = h.opened.struck || true }

    f : CarriedBytes → CarriedBytes
    f = after_fault x.before

    id_kept : (z : CarriedBytes) → (after_fault x.before z).id ≡ z.id
    id_kept z = (fault_marks x.before z).id

    g : ChangesBy (after_fault x.before) (story s rows) (struck_story s rows h.link.item x) h.link.item
    g = by_fault (story s rows) x h.link.item

    lines : SameLines (story s rows).bus_state.bus (row_reading (story s rows).bus_state row).change.after
    lines = lines_of s rows row h r

    at : (y : ProcId) → carried_of (changed (after_fault x.before) (story s rows).carried h.link.item) y
        ≡ carried_of (struck_story s rows h.link.item x).carried y
    at y = ap (λ (all : List CarriedBytes). carried_of all y) (sym g.carried)

-- ---- COMMAND COMPLETE

pub talk_second : (xs ys : List Part) → are_talk (xs ++ ys) ≡ true → are_talk ys ≡ true
talk_second [] ys e = e
talk_second (x ∷ xs) ys e = talk_second xs ys (and_parts _ (are_talk (xs ++ ys)) e).1

ended_marked : (history : List Event) (id : ProcId) (status : ℕ) (c : CarriedBytes) → IsMarked history c
    → IsMarked (Event.End id status ∷ history) c
ended_marked history id status c m = record { refused = m.refused; shown = m.shown; apart = m.apart; saved = m.saved }

end_next : (s : ScenarioValue) (rows : List Row) (row : Row) (h : StandsLinked s (transcribed rows) (story s rows))
    → StillRow s rows row h → story_of.is_completion h.link (row_reading (story s rows).bus_state row).change ≡ true
    → story_after_fault (story s rows) h.link row.kind ≡ story s rows → Standing s (row ∷ rows)
end_next s rows row h r done same_story = go h.stage
  where
    b : Story
    b = story s rows

    d : RowReading
    d = row_reading (story s rows).bus_state row

    k' : OpenedValue
    k' = with_part h.opened Part.Completion

    lines : SameLines (story s rows).bus_state.bus (row_reading (story s rows).bus_state row).change.after
    lines = lines_of s rows row h r

    ended : (is_known h.opened (story s rows).bus_state.bus && has_status (story s rows) h.link.item) ≡ true
    ended =
        let c : Change = (row_reading (story s rows).bus_state row).change in
        let agrees : Bool = not (rises c.before.ack c.after.ack && is_message_in c.before && not c.after.atn)
        || same_bool (story_of.is_complete h.link.last)
        (is_complete h.opened.held && is_nil (story s rows).bus_state.dialogue.half) in
        let known : Bool = is_known h.opened (story s rows).bus_state.bus && has_status (story s rows) h.link.item in
        implied (story_of.is_completion h.link c) known
        (and_second agrees (not (story_of.is_completion h.link c) || known) r.fits) done

    status_of : (is_known h.opened (story s rows).bus_state.bus && has_status (story s rows) h.link.item) ≡ true
        → has_status (story s rows) h.link.item ≡ true
    status_of e = and_second (is_known h.opened (story s rows).bus_state.bus) _ e

    in_phase : is_message_in (story s rows).bus_state.bus ≡ true
    in_phase =
        let c : Change = (row_reading (story s rows).bus_state row).change in
        and_second (rises c.before.ack c.after.ack) (is_message_in c.before)
        (and_first (rises c.before.ack c.after.ack && is_message_in c.before) (story_of.is_complete h.link.last)
        (and_first (rises c.before.ack c.after.ack && is_message_in c.before && story_of.is_complete h.link.last)
        (not c.after.atn) done))

    no_command : is_command (story s rows).bus_state.bus ≡ false
    no_command = in_no_command (story s rows).bus_state.bus in_phase

    base : base_parts (with_part h.opened Part.Completion) ≡ base_parts h.opened ++ Part.Completion ∷ []
    base = base_more h.opened Part.Completion

    transcript_is : by_change (transcribed rows) (row_reading (transcribed rows).bus_state row) row
        ≡ record (transcribed rows) { opened = Some (with_part h.opened Part.Completion) }
    transcript_is = change_on s rows row h r.on ∙ ap (λ (x : OpenedValue). record (transcribed rows) {
      opened = Some x;
    }) (still_row s rows row h r ∙ ap (λ (q : Bool). if q then with_part h.opened Part.Completion
        else with_fault h.opened (is_fault row.kind && is_some (story s rows).bus_state.crossed))
        (sym (completes s rows row h r) ∙ done))

    by_process : (id : ProcId) (back : CarriedBytes) (was : Bool) (st : Option ℕ)
        → h.link.item ≡ Some (process id) → ((u : CarriedBytes) → h.link.undo ≡ Some u → u ≡ back) → back.id ≡ id
        → is_known h.opened (story s rows).bus_state.bus ≡ true
        → IsServing h.opened (is_command (story s rows).bus_state.bus) id
        (carried_of (story s rows).carried id) back h.conn (story s rows).history was st
        → AreOwnEvents id h.conn → (are_talk (base_parts h.opened) ≡ true → h.conn ≡ [])
        → IsFrom s (transcribed rows) (story s rows) h.opened h.sent id was st
        → AreKept s (transcribed rows) (story s rows) h.sent (λ x. same_id x id) → Standing s (row ∷ rows)
    by_process id back was st is undone own known serving events_own talks from kept =
        linked_next s rows row h k' h.link c shown r.numbered r.on
        (record {
          transcript_is = transcript_is;
          story_is = story_is_on s rows row h r.on ∙ (λ i. story_on s rows row
              (story_after_events s ((still_story s rows row h r ∙ same_story) i) (shown_is i)) (shown_is i));
        })
        (record {
          connection = refl;
          link = keeps.1 ∙ h.link_is;
          sent = events_sent s b shown;
          item = λ began. refl;
          marked = λ x. subst (λ (all : List CarriedBytes). IsMarked (shown ++ (story s rows).history)
              (carried_of all x)) (sym keeps.0) (ended_marked (story s rows).history id (slice_index now.status.bytes 0)
              (carried_of (story s rows).carried x) (r.marked x));
          stage = of_process id back was st is undone own (known_more h.opened k' (story s rows).bus_state.bus
              d.change.after (Part.Completion ∷ []) refl base lines.command known) (subst (λ (q : Bool). IsServing
              k' q id (carried_of c.carried id) back (shown ++ h.conn) (shown ++ (story s rows).history) was st)
              (sym (lines.command ∙ no_command)) (subst (λ (all : List CarriedBytes). IsServing k' false id
              (carried_of all id) back (shown ++ h.conn) (shown ++ (story s rows).history) was st)
              (sym keeps.0) (end_serves h.opened id now back h.conn (story s rows).history was st some
              (subst (λ (q : Bool). IsServing h.opened q id now back h.conn (story s rows).history was st)
              no_command serving)))) (refl, events_own) (λ talk. wrong'
              (talk_second (base_parts h.opened) (Part.Completion ∷ []) (sym (ap are_talk base) ∙ talk)))
              (from_on s (transcribed rows) (transcript_on rows row k') (story s rows)
              (story_on s rows row c shown) h.opened k' h.sent id was st same refl from) (kept_on s (transcribed rows)
              (transcript_on rows row k') (story s rows) (story_on s rows row c shown) h.sent (λ x. same_id x id) same
              (λ x no. alike_self _ _ (ap (λ (all : List CarriedBytes). carried_of all x) (sym keeps.0))) kept);
          bytes = λ e. h.bytes (sym (λ i. lines.command i || lines.data_phase i) ∙ e);
          said = λ e. h.said (sym lines.out ∙ e);
          crossed = λ x e. uncrossed s rows row r.crosses x e;
          undone = λ u e f. filled h.opened.since Part.Completion f;
        })
      where
        now : CarriedBytes
        now = carried_of (story s rows).carried id

        shown : List Event
        shown = Event.End id (slice_index (carried_of (story s rows).carried id).status.bytes 0) ∷ []

        c : Story
        c = story_after_events s (story s rows)
            (Event.End id (slice_index (carried_of (story s rows).carried id).status.bytes 0) ∷ [])

        keeps : ((story_after_events s (story s rows)
            (Event.End id (slice_index (carried_of (story s rows).carried id).status.bytes 0) ∷ [])).carried
            ≡ (story s rows).carried)
            × ((story_after_events s (story s rows)
            (Event.End id (slice_index (carried_of (story s rows).carried id).status.bytes 0) ∷ [])).link
            ≡ (story s rows).link)
        keeps = check_keeps (story_with_end (story s rows) id
            (by_status (slice_index (carried_of (story s rows).carried id).status.bytes 0))) id
            (slice_index (carried_of (story s rows).carried id).status.bytes 0)

        same : SameBooks (transcribed rows) (transcript_on rows row (with_part h.opened Part.Completion))
            (story s rows) (story_on s rows row (story_after_events s (story s rows)
            (Event.End id (slice_index (carried_of (story s rows).carried id).status.bytes 0) ∷ []))
            (Event.End id (slice_index (carried_of (story s rows).carried id).status.bytes 0) ∷ []))
        same = books_on s rows row k' c shown (events_grow s (story s rows) shown)

        some : is_nil (carried_of (story s rows).carried id).status.bytes ≡ false
        some = not_nil (is_nil (carried_of (story s rows).carried id).status.bytes)
            (sym (ap (λ (o : Option Item). has_status (story s rows) o) is) ∙ status_of ended)
          where
            not_nil : (q : Bool) → not q ≡ true → q ≡ false
            not_nil true e = wrong' e
            not_nil false e = refl

        shown_is : connection_events s (story s rows) h.link (row_reading (story s rows).bus_state row)
            ≡ Event.End id (slice_index (carried_of (story s rows).carried id).status.bytes 0) ∷ []
        shown_is = (λ i. if r.stays i then phase_events s (story s rows)
            (carried_if (story s rows) h.link.item) (row_reading (story s rows).bus_state row).change
            else if story_of.is_completion h.link (row_reading (story s rows).bus_state row).change
            then end_events (carried_if (story s rows) h.link.item) else [])
            ∙ (λ i. if done i then end_events (carried_if (story s rows) h.link.item) else [])
            ∙ ap (λ (o : Option Item). end_events (carried_if (story s rows) o)) is
            ∙ ap (λ (x : ProcId). Event.End x (slice_index (carried_of (story s rows).carried id).status.bytes 0) ∷ [])
            (carried_id (story s rows).carried id)

    go : Stage s (transcribed rows) (story s rows) h.opened h.link h.sent h.conn → Standing s (row ∷ rows)
    go (of_abort j began is undo none talk kept) =
        wrong' (sym (ap (λ (o : Option Item). has_status (story s rows) o) is) ∙ status_of ended)
    go (of_none re none talk no_com no_status plain blanks undone kept) =
        wrong' (sym (λ i. not (re i) || not (talk i) || no_com i) ∙ and_first _ _ ended)
    go (of_process id back was st is undone own known serving events_own talks from kept) =
        by_process id back was st is undone own known serving events_own talks from kept

-- ---- what stands

pub still_next :
    (s : ScenarioValue) (rows : List Row) (row : Row) (h : StandsLinked s (transcribed rows) (story s rows))
    → StillRow s rows row h → Standing s (row ∷ rows)
still_next s rows row h r =
    by_bool (story_of.is_completion h.link (row_reading (story s rows).bus_state row).change)
    (λ e. by_drives row.kind refl e)
    (λ e. by_kind row.kind refl e)
  where
    b : Story
    b = story s rows

    by_drives : (kind : Kind) → row.kind ≡ kind
        → story_of.is_completion h.link (row_reading (story s rows).bus_state row).change ≡ true
        → Standing s (row ∷ rows)
    by_drives (Drives lines) e done =
        end_next s rows row h r done (ap (λ (kind : Kind). story_after_fault (story s rows) h.link kind) e)
    by_drives (Fault bit) e done =
        let c : Change = (row_reading (story s rows).bus_state row).change in
        fault_ack s rows row bit e (and_first (rises c.before.ack c.after.ack) (is_message_in c.before)
        (and_first (rises c.before.ack c.after.ack && is_message_in c.before) (story_of.is_complete h.link.last)
        (and_first (rises c.before.ack c.after.ack && is_message_in c.before && story_of.is_complete h.link.last)
        (not c.after.atn) done)))

    by_crossed : (bit : ℕ) (o : Option Change) → row.kind ≡ Fault bit → (story s rows).bus_state.crossed ≡ o
        → story_of.is_completion h.link (row_reading (story s rows).bus_state row).change ≡ false
        → Standing s (row ∷ rows)
    by_crossed bit None e f none =
        let c : Story = story_with_carried b (carried_after_fault_if (carried_if b h.link.item) None) in
        let g = by_none b h.link.item in
        quiet_next s rows row h c r none (λ i. is_fault (e i) && is_some (f i)) ((λ i. story_after_fault b h.link (e i))
        ∙ (λ i. story_with_carried b (carried_after_fault_if (carried_if b h.link.item) (f i)))) g.link g.sent
        (λ x. changed_each (λ y. carried_of (story s rows).carried x ≡ y) unchanged (story s rows).carried h.link.item x
        (λ z. refl) (λ z p. p) refl ∙ ap (λ (all : List CarriedBytes). carried_of all x) (sym g.carried))
    by_crossed bit (Some x) e f none = linked_next s rows row h (record h.opened { struck = h.opened.struck || true })
        h.link (struck_story s rows h.link.item x) [] r.numbered r.on (still_makes s rows row h
        (record h.opened { struck = h.opened.struck || true }) (struck_story s rows h.link.item x) r none
        (λ i. with_fault h.opened (is_fault (e i) && is_some (f i))) ((λ i. story_after_fault b h.link (e i))
        ∙ (λ i. story_with_carried b (carried_after_fault_if (carried_if b h.link.item) (f i)))))
        (strike_stands s rows row h x r f)

    by_kind : (kind : Kind) → row.kind ≡ kind
        → story_of.is_completion h.link (row_reading (story s rows).bus_state row).change ≡ false
        → Standing s (row ∷ rows)
    by_kind (Drives lines) e none = quiet_next s rows row h b r none
        (λ i. is_fault (e i) && is_some b.bus_state.crossed)
        (ap (λ (kind : Kind). story_after_fault (story s rows) h.link kind) e) refl refl (λ x. refl)
    by_kind (Fault bit) e none = by_crossed bit (story s rows).bus_state.crossed e refl none

-- A byte of COMMAND, of data or of STATUS crosses: what stands after it.
use Rattle.transcript_laws.proofs
use proofs.Names.{ℕ, ◌≡◌, ◌∙◌, Bool, true, false, not, ◌&&◌, ◌||◌, List, [], ◌∷◌, ◌++◌, Option, refl, sym, ap, subst}
use proofs.Names.{◌%◌, if◌then◌else◌, wrong, wrong', Event, ProcId, LineSet, is_command, is_data, is_message_in}
use proofs.Names.{is_message_out, Row, ScenarioValue, same_id, row_reading, CarriedBytes, area_with, carried_of}
use proofs.Names.{is_status_phase, carried_if, Item, Sent, Story, story_with_carried, carried_after_byte_if}
use proofs.Names.{story_after_crossing, story, grows_same, names_begun, OpenedValue, with_said, with_in_if, with_part}
use proofs.Names.{with_crossing, transcribed, Part, AreNumbered, are_talk, base_parts, is_no_abort, IsBlank, IsServing}
use proofs.{Names.{Stage, of_abort, of_none, of_process, StandsLinked, Standing, IsMarked}, Parts.Base.{base_more}}
use proofs.Serving.{Steps.{filled, command_serves, data_serves, status_serves}, Talks.{talk_first}}
use proofs.Standing.Changed.{changed, KeepsId, changed_own, changed_other, changed_each, changed_alike, marks_kept}
use proofs.Standing.Changed.{after_byte, command_byte, data_byte, status_byte, byte_marks, byte_alike, byte_blank}
use proofs.Standing.{Changed.{ChangesBy, by_byte}, Crossings.{Crosses, crossing_makes, no_out, no_into, carried_story}}
use proofs.Standing.{In.{known_more}, Linked.{SameLines, transcript_on, story_on, IsOn, books_on, Stands, linked_next}}
use proofs.Standing.{Open.{alike_self, alike_on, SameBooks, kept_on, from_on}, Out.{lines_on, crossed_on}}
use proofs.Standing.Stages.{stage_on}

-- ---- the row

-- A byte that is of no message.
pub record ByteRow (s : ScenarioValue) (rows : List Row) (row : Row)
    (h : StandsLinked s (transcribed rows) (story s rows)) : Type 0 where
  pub on : IsOn s rows row h.opened.connection
  pub crossing : Crosses s rows row h.link
  pub msg : (story s rows).bus_state.bus.msg ≡ false
  pub item : is_no_abort h.link.item ≡ true
  pub numbered : AreNumbered (transcribed rows).processes (names_begun (transcribed rows).items)
  pub marked : (x : ProcId) → IsMarked (story s rows).history (carried_of (story s rows).carried x)

record IsNoMessage (lines : LineSet) : Type 0 where
  out : is_message_out lines ≡ false
  into : is_message_in lines ≡ false

no_message : (lines : LineSet) → lines.msg ≡ false → IsNoMessage lines
no_message lines e = record { out = λ i. e i && lines.cd && not lines.io; into = λ i. e i && lines.cd && lines.io }

-- COMMAND, data, or STATUS.
data BytePhase (lines : LineSet) : Type 0 where
  in_command : is_command lines ≡ true → is_status_phase lines ≡ false → BytePhase lines
  in_data : is_command lines ≡ false → is_data lines ≡ true → is_status_phase lines ≡ false → BytePhase lines
  in_status : is_command lines ≡ false → is_data lines ≡ false → is_status_phase lines ≡ true → BytePhase lines

byte_phase : (lines : LineSet) → lines.msg ≡ false → BytePhase lines
byte_phase lines e = go lines.cd lines.io refl refl
  where
    go : (d i : Bool) → lines.cd ≡ d → lines.io ≡ i → BytePhase lines
    go true false f g = in_command (λ j. not (e j) && f j && not (g j)) (λ j. not (e j) && f j && g j)
    go true true f g =
        in_status (λ j. not (e j) && f j && not (g j)) (λ j. not (e j) && not (f j)) (λ j. not (e j) && f j && g j)
    go false true f g =
        in_data (λ j. not (e j) && f j && not (g j)) (λ j. not (e j) && not (f j)) (λ j. not (e j) && f j && g j)
    go false false f g =
        in_data (λ j. not (e j) && f j && not (g j)) (λ j. not (e j) && not (f j)) (λ j. not (e j) && f j && g j)

abbrev byte_of : ScenarioValue → List Row → Row → ℕ
byte_of s rows row = (row_reading (story s rows).bus_state row).change.after.data_bits % 256

with_byte_is : (s : ScenarioValue) (rows : List Row) (row : Row) (h : StandsLinked s (transcribed rows) (story s rows))
    → ByteRow s rows row h
    → with_crossing h.opened (story s rows).bus_state.dialogue.is_last (row_reading (story s rows).bus_state row)
    ≡ (if is_status_phase (story s rows).bus_state.bus then with_part h.opened (Part.Status (byte_of s rows row))
    else record h.opened { bytes = h.opened.bytes ++ byte_of s rows row ∷ [] })
with_byte_is s rows row h r =
    let g = no_message (story s rows).bus_state.bus r.msg in
    (λ i. if g.out i
    then with_said h.opened (story s rows).bus_state.dialogue.is_last (row_reading (story s rows).bus_state row).out
    else if is_message_in (story s rows).bus_state.bus
    then with_in_if h.opened (row_reading (story s rows).bus_state row).into
    else if is_status_phase (story s rows).bus_state.bus then with_part h.opened (Part.Status (byte_of s rows row))
    else record h.opened { bytes = h.opened.bytes ++ byte_of s rows row ∷ [] })
    ∙ (λ i. if g.into i then with_in_if h.opened (row_reading (story s rows).bus_state row).into
    else if is_status_phase (story s rows).bus_state.bus then with_part h.opened (Part.Status (byte_of s rows row))
    else record h.opened { bytes = h.opened.bytes ++ byte_of s rows row ∷ [] })

abbrev byte_story : ScenarioValue → List Row → Row → Option Item → Story
byte_story s rows row item = story_with_carried (story s rows)
    (carried_after_byte_if (carried_if (story s rows) item) (row_reading (story s rows).bus_state row))

abbrev with_byte : ScenarioValue → List Row → Row → CarriedBytes → CarriedBytes
with_byte s rows row = after_byte (story s rows).bus_state.bus (byte_of s rows row)

byte_id : (s : ScenarioValue) (rows : List Row) (row : Row) → KeepsId (with_byte s rows row)
byte_id s rows row c = (byte_marks (story s rows).bus_state.bus (byte_of s rows row) c).id

changes : (s : ScenarioValue) (rows : List Row) (row : Row) (item : Option Item)
    → ChangesBy (with_byte s rows row) (story s rows) (byte_story s rows row item) item
changes s rows row item = by_byte (story s rows) (row_reading (story s rows).bus_state row) item

marked_on : (s : ScenarioValue) (rows : List Row) (row : Row) (item : Option Item)
    → ((x : ProcId) → IsMarked (story s rows).history (carried_of (story s rows).carried x)) → (x : ProcId)
    → IsMarked (story s rows).history (carried_of (byte_story s rows row item).carried x)
marked_on s rows row item marked x = subst (λ (all : List CarriedBytes). IsMarked (story s rows).history
    (carried_of all x)) (sym (changes s rows row item).carried) (changed_each (λ c. IsMarked (story s rows).history c)
    (with_byte s rows row) (story s rows).carried item x (byte_id s rows row) (λ c m. marks_kept (story s rows).history
    c (with_byte s rows row c) (byte_marks (story s rows).bus_state.bus (byte_of s rows row) c) m) (marked x))

-- ---- COMMAND and data

-- With the byte beside those of its phase.
byte_serves : (s : ScenarioValue) (rows : List Row) (row : Row) (o : OpenedValue)
    (id : ProcId) (back : CarriedBytes) (conn : List Event) (was : Bool) (st : Option ℕ)
    → BytePhase (story s rows).bus_state.bus → is_status_phase (story s rows).bus_state.bus ≡ false
    → IsServing o (is_command (story s rows).bus_state.bus) id
    (carried_of (story s rows).carried id) back conn (story s rows).history was st
    → IsServing (record o { bytes = o.bytes ++ byte_of s rows row ∷ [] }) (is_command (story s rows).bus_state.bus) id
    (with_byte s rows row (carried_of (story s rows).carried id)) back conn (story s rows).history was st
byte_serves s rows row o id back conn was st (in_command q v) no_status h =
    let now : CarriedBytes = carried_of (story s rows).carried id in
    let k' : OpenedValue = record o { bytes = o.bytes ++ byte_of s rows row ∷ [] } in
    subst (λ (r : Bool). IsServing k' r id (with_byte s rows row now) back conn (story s rows).history was st)
    (sym q) (subst (λ (x : CarriedBytes). IsServing k' true id x back conn (story s rows).history was st)
    (sym (command_byte (story s rows).bus_state.bus (byte_of s rows row) now q)) (command_serves o id now back conn
    (story s rows).history was st (byte_of s rows row) (area_with now.command (byte_of s rows row))
    (subst (λ (r : Bool). IsServing o r id now back conn (story s rows).history was st) q h)))
byte_serves s rows row o id back conn was st (in_data q d v) no_status h =
    let now : CarriedBytes = carried_of (story s rows).carried id in
    let k' : OpenedValue = record o { bytes = o.bytes ++ byte_of s rows row ∷ [] } in
    subst (λ (r : Bool). IsServing k' r id (with_byte s rows row now) back conn (story s rows).history was st)
    (sym q) (subst (λ (x : CarriedBytes). IsServing k' false id x back conn (story s rows).history was st)
    (sym (data_byte (story s rows).bus_state.bus (byte_of s rows row) now q d)) (data_serves o id now back conn
    (story s rows).history was st (byte_of s rows row) (area_with now.moved (byte_of s rows row))
    (subst (λ (r : Bool). IsServing o r id now back conn (story s rows).history was st) q h)))
byte_serves s rows row o id back conn was st (in_status q d v) no_status h = wrong (sym v ∙ no_status)

more_stands : (s : ScenarioValue) (rows : List Row) (row : Row) (h : StandsLinked s (transcribed rows) (story s rows))
    → ByteRow s rows row h → BytePhase (story s rows).bus_state.bus
    → is_status_phase (story s rows).bus_state.bus ≡ false → Stands s rows row h (record h.opened {
      bytes = h.opened.bytes ++ byte_of s rows row ∷ [];
    }) h.link (byte_story s rows row h.link.item) []
more_stands s rows row h r phase no_status = record {
  connection = refl;
  link = g.link ∙ h.link_is;
  sent = ap (λ (x : Sent). x.sent) g.sent;
  item = λ began. refl;
  marked = marked_on s rows row h.link.item r.marked;
  stage = stage_on s (transcribed rows) (transcript_on rows row k') (story s rows)
      (story_on s rows row c []) h.opened k' h.link h.link h.sent h.conn (record {
        same = books_on s rows row k' c [] (grows_same (story s rows).sent c.sent g.sent);
        connection = refl;
        command = lines.command;
        status = lines.status;
        item = refl;
        undo = refl;
      }) refl (λ x. alike_on _ _ _
      (changed_alike (with_byte s rows row) (story s rows).carried h.link.item x (byte_id s rows row)
      (λ y. byte_alike (story s rows).bus_state.bus (byte_of s rows row) y no_status)) (alike_self _ _ (at x)))
      (λ x e f b. subst IsBlank (at x) (changed_each IsBlank (with_byte s rows row) (story s rows).carried h.link.item x
      (byte_id s rows row) (λ y z. byte_blank (story s rows).bus_state.bus (byte_of s rows row) y e f z) b))
      (λ id back was st is serving. subst (λ (now : CarriedBytes). IsServing k'
      (is_command (story s rows).bus_state.bus) id now back h.conn (story s rows).history was st)
      (sym (changed_own (with_byte s rows row) (story s rows).carried h.link.item id (byte_id s rows row) is) ∙ at id)
      (byte_serves s rows row h.opened id back h.conn was st phase no_status serving)) h.stage;
  bytes = λ e. wrong (sym (some_phase phase) ∙ sym (λ i. lines.command i || lines.data_phase i) ∙ e);
  said = λ e. h.said (no_message (story s rows).bus_state.bus r.msg).out;
  crossed = crossed_on s rows row h.link r.crossing;
  undone = λ u e f. h.undone u e f;
}
  where
    c : Story
    c = byte_story s rows row h.link.item

    k' : OpenedValue
    k' = record h.opened { bytes = h.opened.bytes ++ byte_of s rows row ∷ [] }

    g : ChangesBy (with_byte s rows row) (story s rows) (byte_story s rows row h.link.item) h.link.item
    g = changes s rows row h.link.item

    lines : SameLines (story s rows).bus_state.bus (row_reading (story s rows).bus_state row).change.after
    lines = lines_on s rows row h.link r.crossing

    at : (x : ProcId) → carried_of (changed (with_byte s rows row) (story s rows).carried h.link.item) x
        ≡ carried_of (byte_story s rows row h.link.item).carried x
    at x = ap (λ (all : List CarriedBytes). carried_of all x) (sym g.carried)

    some_phase : BytePhase (story s rows).bus_state.bus
        → (is_command (story s rows).bus_state.bus || is_data (story s rows).bus_state.bus) ≡ true
    some_phase (in_command q v) = λ i. q i || is_data (story s rows).bus_state.bus
    some_phase (in_data q d v) = λ i. q i || d i
    some_phase (in_status q d v) = wrong (sym v ∙ no_status)

-- ---- STATUS

status_stage : (s : ScenarioValue) (rows : List Row) (row : Row) (h : StandsLinked s (transcribed rows) (story s rows))
    → ByteRow s rows row h → is_command (story s rows).bus_state.bus ≡ false
    → is_data (story s rows).bus_state.bus ≡ false → is_status_phase (story s rows).bus_state.bus ≡ true
    → Stage s (transcript_on rows row (with_part h.opened (Part.Status (byte_of s rows row))))
    (story_on s rows row (byte_story s rows row h.link.item) [])
    (with_part h.opened (Part.Status (byte_of s rows row))) h.link h.sent h.conn
status_stage s rows row h r q d v = go h.stage
  where
    part : OpenedValue
    part = with_part h.opened (Part.Status (byte_of s rows row))

    c : Story
    c = byte_story s rows row h.link.item

    g : ChangesBy (with_byte s rows row) (story s rows) (byte_story s rows row h.link.item) h.link.item
    g = changes s rows row h.link.item

    lines : SameLines (story s rows).bus_state.bus (row_reading (story s rows).bus_state row).change.after
    lines = lines_on s rows row h.link r.crossing

    same : SameBooks (transcribed rows) (transcript_on rows row (with_part h.opened (Part.Status (byte_of s rows row))))
        (story s rows) (story_on s rows row (byte_story s rows row h.link.item) [])
    same = books_on s rows row part c [] (grows_same (story s rows).sent c.sent g.sent)

    base : base_parts (with_part h.opened (Part.Status (byte_of s rows row)))
        ≡ base_parts h.opened ++ Part.Status (byte_of s rows row) ∷ []
    base = base_more h.opened (Part.Status (byte_of s rows row))

    go : Stage s (transcribed rows) (story s rows) h.opened h.link h.sent h.conn
        → Stage s (transcript_on rows row (with_part h.opened (Part.Status (byte_of s rows row))))
        (story_on s rows row (byte_story s rows row h.link.item) [])
        (with_part h.opened (Part.Status (byte_of s rows row))) h.link h.sent h.conn
    go (of_abort j began is undo none talk kept) = wrong' (sym (ap is_no_abort is) ∙ r.item)
    go (of_none re none talk no_command no_status plain blanks undone kept) = wrong (sym v ∙ no_status)
    go (of_process id back was st is undone own known serving events talks from kept) =
        let now : CarriedBytes = carried_of (story s rows).carried id in
        let next : carried_of c.carried id ≡ record now { status = area_with now.status (byte_of s rows row) } =
        ap (λ (all : List CarriedBytes). carried_of all id) g.carried
        ∙ changed_own (with_byte s rows row) (story s rows).carried h.link.item id (byte_id s rows row) is
        ∙ status_byte (story s rows).bus_state.bus (byte_of s rows row) now q d v in
        of_process id back was st is undone own
        (known_more h.opened part (story s rows).bus_state.bus (row_reading (story s rows).bus_state row).change.after
        (Part.Status (byte_of s rows row) ∷ []) refl base lines.command known)
        (subst (λ (r : Bool). IsServing part r id (carried_of c.carried id) back h.conn (story s rows).history was st)
        (sym (lines.command ∙ q))
        (subst (λ (x : CarriedBytes). IsServing part false id x back h.conn (story s rows).history was st)
        (sym next) (status_serves h.opened id now back h.conn (story s rows).history was st (byte_of s rows row)
        (subst (λ (r : Bool). IsServing h.opened r id now back h.conn (story s rows).history was st) q serving))))
        events (λ talk. talks
        (talk_first (base_parts h.opened) (Part.Status (byte_of s rows row) ∷ []) (sym (ap are_talk base) ∙ talk)))
        (from_on s (transcribed rows) (transcript_on rows row part) (story s rows)
        (story_on s rows row c []) h.opened part h.sent id was st same refl from) (kept_on s (transcribed rows)
        (transcript_on rows row part) (story s rows) (story_on s rows row c []) h.sent (λ x. same_id x id) same
        (λ x no. alike_self _ _ (sym (ap (λ (all : List CarriedBytes). carried_of all x) g.carried
        ∙ changed_other (with_byte s rows row) (story s rows).carried h.link.item id x (byte_id s rows row) is no)))
        kept)

status_stands : (s : ScenarioValue) (rows : List Row) (row : Row) (h : StandsLinked s (transcribed rows) (story s rows))
    → ByteRow s rows row h → is_command (story s rows).bus_state.bus ≡ false
    → is_data (story s rows).bus_state.bus ≡ false → is_status_phase (story s rows).bus_state.bus ≡ true
    → Stands s rows row h (with_part h.opened (Part.Status (byte_of s rows row))) h.link
    (byte_story s rows row h.link.item) []
status_stands s rows row h r q d v = record {
  connection = refl;
  link = (changes s rows row h.link.item).link ∙ h.link_is;
  sent = ap (λ (x : Sent). x.sent) (changes s rows row h.link.item).sent;
  item = λ began. refl;
  marked = marked_on s rows row h.link.item r.marked;
  stage = status_stage s rows row h r q d v;
  bytes = λ e. h.bytes (λ i. q i || d i);
  said = λ e. h.said (no_message (story s rows).bus_state.bus r.msg).out;
  crossed = crossed_on s rows row h.link r.crossing;
  undone = λ u e f. filled h.opened.since (Part.Status (byte_of s rows row)) f;
}

-- ---- what stands

pub byte_next : (s : ScenarioValue) (rows : List Row) (row : Row) (h : StandsLinked s (transcribed rows) (story s rows))
    → ByteRow s rows row h → Standing s (row ∷ rows)
byte_next s rows row h r = go (byte_phase (story s rows).bus_state.bus r.msg)
  where
    k' : OpenedValue
    k' = record h.opened { bytes = h.opened.bytes ++ byte_of s rows row ∷ [] }

    part : OpenedValue
    part = with_part h.opened (Part.Status (byte_of s rows row))

    c : Story
    c = byte_story s rows row h.link.item

    is : story_after_crossing s (story s rows) h.link (row_reading (story s rows).bus_state row)
        ≡ byte_story s rows row h.link.item
    is =
        let g = no_message (story s rows).bus_state.bus r.msg in
        carried_story s (story s rows) h.link (row_reading (story s rows).bus_state row)
        (no_out (story s rows).bus_state row g.out) (no_into (story s rows).bus_state row g.into) r.msg

    more : BytePhase (story s rows).bus_state.bus → is_status_phase (story s rows).bus_state.bus ≡ false
        → Standing s (row ∷ rows)
    more phase no_status = linked_next s rows row h k' h.link c [] r.numbered r.on (crossing_makes s rows row h k'
        c r.on r.crossing (with_byte_is s rows row h r ∙ ap (λ (q : Bool). if q then part else k') no_status) is)
        (more_stands s rows row h r phase no_status)

    go : BytePhase (story s rows).bus_state.bus → Standing s (row ∷ rows)
    go (in_command q v) = more (in_command q v) v
    go (in_data q d v) = more (in_data q d v) v
    go (in_status q d v) = linked_next s rows row h part h.link c [] r.numbered r.on (crossing_makes s rows row
        h part c r.on r.crossing (with_byte_is s rows row h r ∙ ap (λ (q : Bool). if q then part else k') v) is)
        (status_stands s rows row h r q d v)

-- A byte of MESSAGE IN crosses: what stands after it.
use Rattle.transcript_laws.proofs
use proofs.Names.{ℕ, ◌≡◌, ◌∙◌, ◌+◌, Bool, true, false, not, ◌&&◌, ◌||◌, List, [], ◌∷◌, ◌++◌, Option, Some, None, refl}
use proofs.Names.{sym, ap, subst, ◌%◌, same_Some, is_none, if◌then◌else◌, wrong', or_second, Event, ProcId, LineSet}
use proofs.Names.{is_command, is_data, is_message_in, is_message_out, Change, Row, MsgIn, ScenarioValue, CmdDef}
use proofs.Names.{same_number, tag_number, same_id, carried_id, RowReading, row_reading, CarriedBytes, carried_of}
use proofs.Names.{with_restored_pointers, carried_after_message, is_status_phase, carried_if, Item, process, abort}
use proofs.Names.{Sent, is_open, command_item, sense_item, Link, last_in, is_of_nexus, is_open_sense, named_item_from}
use proofs.Names.{link_after_name, Story, story_with_carried, carried_after_message_if, story, item_if_is, same_item_if}
use proofs.Names.{none_some, grows_same, named_story, names_begun, OpenedValue, with_said, with_in, with_in_if}
use proofs.Names.{with_part, with_crossing, TranscriberValue, transcribed, Part, AreNumbered, are_talk, base_parts}
use proofs.Names.{is_known, names_item, fits_in, IsBlank, IsServing, no_process, AreAlike, Stage, of_abort, of_none}
use proofs.{Names.{of_process, StandsLinked, Standing, IsMarked}, Parts.Base.{base_in}, Serving.Steps.{in_serves}}
use proofs.{Serving.Talks.{talk_in, talk_first}, Standing.Changed.{changed, KeepsId, changed_own, changed_each}}
use proofs.Standing.Changed.{changed_alike, marks_kept, after_message, message_marks, message_alike, message_blank}
use proofs.Standing.{Changed.{restored_blank, by_message, by_name}, Crossings.{Crosses, crossing_makes, no_out}}
use proofs.Standing.{Crossings.{in_story, message_story}, Linked.{SameLines, transcript_on, story_on, IsOn, books_on}}
use proofs.Standing.{Linked.{Stands, linked_next}, Open.{alike_self, alike_on, SameBooks, kept_on, from_on}}
use proofs.Standing.{Out.{lines_on, crossed_on}, Stages.{stage_on}}
use Rattle.bus_transcript.specs.declared.part.Incoming.TheVariants.{Whole}

-- ---- a process that was known is known

known_by : (q r r' v : Bool) → (q || not r || v) ≡ true → (r' ≡ true → r ≡ true) → (q || not r' || v) ≡ true
known_by true r r' v e f = refl
known_by false false true v e f = wrong' (f refl)
known_by false false false v e f = refl
known_by false true true v e f = e
known_by false true false v e f = refl

-- With more parts than before, in the same phase.
pub known_more : (o k' : OpenedValue) (a b : LineSet) (more : List Part) → k'.connection ≡ o.connection
    → base_parts k' ≡ base_parts o ++ more → is_command b ≡ is_command a → is_known o a ≡ true → is_known k' b ≡ true
known_more o k' a b more con base command e = known_by (not k'.connection.reselected)
    (are_talk (base_parts o)) (are_talk (base_parts k')) (is_command b)
    ((λ i. not (con i).reselected || not (are_talk (base_parts o)) || command i) ∙ e)
    (λ talk. talk_first (base_parts o) more (sym (ap are_talk base) ∙ talk))

-- ---- the row

-- A byte of MESSAGE IN.
pub record InRow (s : ScenarioValue) (rows : List Row) (row : Row)
    (h : StandsLinked s (transcribed rows) (story s rows)) : Type 0 where
  pub on : IsOn s rows row h.opened.connection
  pub crossing : Crosses s rows row h.link
  pub into : is_message_in (story s rows).bus_state.bus ≡ true
  pub numbered : AreNumbered (transcribed rows).processes (names_begun (transcribed rows).items)
  pub marked : (x : ProcId) → IsMarked (story s rows).history (carried_of (story s rows).carried x)

-- In MESSAGE IN there is no other phase.
record IsInOnly (lines : LineSet) : Type 0 where
  out : is_message_out lines ≡ false
  msg : lines.msg ≡ true
  command : is_command lines ≡ false
  data_phase : is_data lines ≡ false

in_only : (lines : LineSet) → is_message_in lines ≡ true → IsInOnly lines
in_only lines e = record {
  out = (go lines.msg lines.cd lines.io e).0;
  msg = (go lines.msg lines.cd lines.io e).1;
  command = (go lines.msg lines.cd lines.io e).2;
  data_phase = (go lines.msg lines.cd lines.io e).3;
}
  where
    go : (m d i : Bool) → (m && d && i) ≡ true
        → ((m && d && not i) ≡ false) × (m ≡ true) × ((not m && d && not i) ≡ false) × ((not m && not d) ≡ false)
    go true true true z = (refl, refl, refl, refl)
    go true true false z = wrong' z
    go true false i z = wrong' z
    go false d i z = wrong' z

with_in_is : (s : ScenarioValue) (rows : List Row) (row : Row) (h : StandsLinked s (transcribed rows) (story s rows))
    → InRow s rows row h
    → with_crossing h.opened (story s rows).bus_state.dialogue.is_last (row_reading (story s rows).bus_state row)
    ≡ with_in_if h.opened (row_reading (story s rows).bus_state row).into
with_in_is s rows row h r = (λ i. if (in_only (story s rows).bus_state.bus r.into).out i
    then with_said h.opened (story s rows).bus_state.dialogue.is_last (row_reading (story s rows).bus_state row).out
    else if is_message_in (story s rows).bus_state.bus
    then with_in_if h.opened (row_reading (story s rows).bus_state row).into
    else if is_status_phase (story s rows).bus_state.bus
    then with_part h.opened (Part.Status ((row_reading (story s rows).bus_state row).change.after.data_bits % 256))
    else record h.opened {
      bytes = h.opened.bytes ++ (row_reading (story s rows).bus_state row).change.after.data_bits % 256 ∷ [];
    })
    ∙ (λ i. if r.into i then with_in_if h.opened (row_reading (story s rows).bus_state row).into
    else if is_status_phase (story s rows).bus_state.bus
    then with_part h.opened (Part.Status ((row_reading (story s rows).bus_state row).change.after.data_bits % 256))
    else record h.opened {
      bytes = h.opened.bytes ++ (row_reading (story s rows).bus_state row).change.after.data_bits % 256 ∷ [];
    })

-- ---- a connection in which nothing changes

-- But for the last message of the link.
pub same_stands :
    (s : ScenarioValue) (rows : List Row) (row : Row) (h : StandsLinked s (transcribed rows) (story s rows)) (c : Story)
    → SameLines (story s rows).bus_state.bus (row_reading (story s rows).bus_state row).change.after
    → ((x : ProcId) → IsMarked (story s rows).history (carried_of (story s rows).carried x)) → ((x : Change)
    → (if (row_reading (story s rows).bus_state row).crosses then Some (row_reading (story s rows).bus_state row).change
    else None) ≡ Some x → is_command x.before ≡ is_command (row_reading (story s rows).bus_state row).change.after)
    → c.link ≡ Some h.link → c.sent ≡ (story s rows).sent
    → ((x : ProcId) → carried_of (story s rows).carried x ≡ carried_of c.carried x)
    → Stands s rows row h h.opened h.link c []
same_stands s rows row h c lines marked crossed link sent same = record {
  connection = refl;
  link = link;
  sent = ap (λ (x : Sent). x.sent) sent;
  item = λ began. refl;
  marked = λ x. subst (λ (y : CarriedBytes). IsMarked (story s rows).history y) (same x) (marked x);
  stage = stage_on s (transcribed rows) (transcript_on rows row h.opened) (story s rows)
      (story_on s rows row c []) h.opened h.opened h.link h.link h.sent h.conn (record {
        same = books_on s rows row h.opened c [] (grows_same (story s rows).sent c.sent sent);
        connection = refl;
        command = lines.command;
        status = lines.status;
        item = refl;
        undo = refl;
      }) refl (λ x. alike_self _ _ (same x)) (λ x e f b. subst IsBlank (same x) b) (λ id back was st is serving. subst
      (λ (now : CarriedBytes). IsServing h.opened (is_command (story s rows).bus_state.bus) id now back h.conn
      (story s rows).history was st) (same id) serving) h.stage;
  bytes = λ e. h.bytes (sym (λ i. lines.command i || lines.data_phase i) ∙ e);
  said = λ e. h.said (sym lines.out ∙ e);
  crossed = crossed;
  undone = λ u e f. h.undone u e f;
}

-- ---- a message

-- What names find is no abort.
found_process : {A : Type 0} (b : Sent) (i t u : ℕ) (tag : Option ℕ) (m : ℕ) (commands : List CmdDef) (l : ℕ)
    → named_item_from b i t u tag m commands ≡ Some (abort l) → A
found_process b i t u tag m [] l e = none_some (abort l) e
found_process b i t u tag m (c ∷ commands) l e =
    go (is_of_nexus c i t u && is_open b m && same_number (tag_number c.tag) tag) (is_of_nexus c i t u
    && is_open_sense b m && same_number None tag) e (λ z. found_process b i t u tag (m + 1) commands l z)
  where
    go : {A : Type 0} (q r : Bool) → (if q then Some (command_item m)
        else if r then Some (sense_item m) else named_item_from b i t u tag (m + 1) commands) ≡ Some (abort l)
        → (named_item_from b i t u tag (m + 1) commands ≡ Some (abort l) → A) → A
    go true r z rest = absurd cc
    go false true z rest = absurd cc
    go false false z rest = rest z

named_abort : (b : Sent) (commands : List CmdDef) (l : Link) (m : MsgIn) (i : ℕ)
    → (link_after_name b commands l m).item ≡ Some (abort i) → l.item ≡ Some (abort i)
named_abort b commands l (MsgIn.Identify lun) i e = found_process b l.initiator l.target lun None 1 commands i e
named_abort b commands l (MsgIn.SimpleTag n) i e = found_process b l.initiator l.target l.unit (Some n) 1 commands i e
named_abort b commands l _ i e = e

-- The item that is named is the one before, once its process is known; before that, where both are there.
item_known : (known : Bool) (was next : Option Item) → names_item known was next ≡ true → known ≡ true → next ≡ was
item_known true was next e h = sym (item_if_is was next e)
item_known false was next e h = wrong' h

item_unknown : (known : Bool) (was next : Option Item) (i y : Item) → names_item known was next ≡ true → was ≡ Some i
    → next ≡ Some y → next ≡ was
item_unknown true was next i y e f g = sym (item_if_is was next e)
item_unknown false was next i y e f g = sym (item_if_is was next
    (or_second (is_none was || is_none next) (same_item_if was next) e ((λ x. is_none (f x) || is_none (g x)))))

abbrev named_carried : List CarriedBytes → Option Item → Option Item → List CarriedBytes
named_carried all None next = changed with_restored_pointers all next
named_carried all (Some i) next = all

record NamesBy (b c : Story) (was next : Option Item) : Type 0 where
  carried : c.carried ≡ named_carried b.carried was next
  sent : c.sent ≡ b.sent

names_by : (b : Story) (was next : Option Item) → NamesBy b (named_story b was next) was next
names_by b None next = let g = by_name b next in record { carried = g.carried; sent = g.sent }
names_by b (Some i) next = record { carried = refl; sent = refl }

restored_alike : (c : CarriedBytes) → AreAlike c (with_restored_pointers c)
restored_alike c = record { status = refl; refused = refl; shown = refl }

named_alike : (all : List CarriedBytes) (was next : Option Item) (x : ProcId)
    → AreAlike (carried_of all x) (carried_of (named_carried all was next) x)
named_alike all None next x = changed_alike with_restored_pointers all next x (λ c. refl) restored_alike
named_alike all (Some i) next x = alike_self _ _ refl

named_marked : (history : List Event) (all : List CarriedBytes) (was next : Option Item) (x : ProcId)
    → IsMarked history (carried_of all x) → IsMarked history (carried_of (named_carried all was next) x)
named_marked history all None next x h =
    changed_each (λ c. IsMarked history c) with_restored_pointers all next x (λ c. refl) (λ c m. marks_kept history c
    (with_restored_pointers c) (record { id = refl; refused = refl; shown = refl; saved = refl }) m) h
named_marked history all (Some i) next x h = h

named_blank : (history : List Event) (all : List CarriedBytes) (was next : Option Item) (id : ProcId)
    → ((x : ProcId) → IsMarked history (carried_of all x)) → next ≡ Some (process id)
    → ((i : Item) → was ≡ Some i → IsBlank (carried_of all id)) → IsBlank (carried_of (named_carried all was next) id)
named_blank history all None next id marked e h = subst IsBlank
    (sym (changed_own with_restored_pointers all next id (λ c. refl) e))
    (restored_blank (carried_of all id) (marked id).saved)
named_blank history all (Some i) next id marked e h = h i refl

-- What the message makes of all that is carried.
abbrev heard_carried : MsgIn → List CarriedBytes → Option Item → Option Item → List CarriedBytes
heard_carried m all was next = changed (after_message m) (named_carried all was next) next

message_id : (m : MsgIn) → KeepsId (after_message m)
message_id m c = (message_marks m c).id

heard_alike : (m : MsgIn) (all : List CarriedBytes) (was next : Option Item) (x : ProcId)
    → AreAlike (carried_of all x) (carried_of (heard_carried m all was next) x)
heard_alike m all was next x = alike_on _ _ _ (named_alike all was next x)
    (changed_alike (after_message m) (named_carried all was next) next x (message_id m) (λ c. message_alike m c))

heard_marked : (history : List Event) (m : MsgIn) (all : List CarriedBytes) (was next : Option Item) (x : ProcId)
    → IsMarked history (carried_of all x) → IsMarked history (carried_of (heard_carried m all was next) x)
heard_marked history m all was next x h = changed_each (λ c. IsMarked history c)
    (after_message m) (named_carried all was next) next x (message_id m)
    (λ c g. marks_kept history c (after_message m c) (message_marks m c) g) (named_marked history all was next x h)

heard_blank : (history : List Event) (m : MsgIn) (all : List CarriedBytes) (was next : Option Item) (id : ProcId)
    → ((x : ProcId) → IsMarked history (carried_of all x)) → next ≡ Some (process id)
    → ((i : Item) → was ≡ Some i → IsBlank (carried_of all id)) → IsBlank (carried_of (heard_carried m all was next) id)
heard_blank history m all was next id marked e h = subst IsBlank
    (sym (changed_own (after_message m) (named_carried all was next) next id (message_id m) e))
    (message_blank m (carried_of (named_carried all was next) id) (named_blank history all was next id marked e h))

-- Where the item stays.
heard_own : (m : MsgIn) (all : List CarriedBytes) (was next : Option Item) (id : ProcId)
    → was ≡ Some (process id) → next ≡ Some (process id)
    → carried_of (heard_carried m all was next) id ≡ carried_after_message (carried_of all id) m
heard_own m all was next id e f = changed_own (after_message m) (named_carried all was next) next id (message_id m) f
    ∙ ap (λ (o : Option Item). after_message m (carried_of (named_carried all o next) id)) e

-- What MESSAGE PARITY ERROR would bring back is what its process has carried.
undo_process : (b : Story) (o : Option Item) (u : CarriedBytes) (P : CarriedBytes → Type 0) → carried_if b o ≡ Some u
    → ((id : ProcId) → o ≡ Some (process id) → P (carried_of b.carried id)) → P u
undo_process b None u P e h = none_some u e
undo_process b (Some (process id)) u P e h = subst P (same_Some (carried_of b.carried id) u e) (h id refl)
undo_process b (Some (abort j)) u P e h = none_some u e

-- ---- what stands after a message

-- A message is whole, and leaves this link and this story.
record Hears (s : ScenarioValue) (rows : List Row) (row : Row) (h : StandsLinked s (transcribed rows) (story s rows))
    (m : MsgIn) (l : Link) (c : Story) : Type 0 where
  names : names_item (is_known h.opened (story s rows).bus_state.bus) h.link.item l.item ≡ true
  plain : (i : ℕ) → l.item ≡ Some (abort i) → h.link.item ≡ Some (abort i)
  undo : l.undo ≡ carried_if (story s rows) h.link.item
  link : c.link ≡ Some l
  sent : c.sent ≡ (story s rows).sent
  carried : c.carried ≡ heard_carried m (story s rows).carried h.link.item l.item

hears_stage : (s : ScenarioValue) (rows : List Row) (row : Row) (h : StandsLinked s (transcribed rows) (story s rows))
    (m : MsgIn) (l : Link) (c : Story) → InRow s rows row h → Hears s rows row h m l c
    → Stage s (transcript_on rows row (with_in h.opened (Whole m))) (story_on s rows row c [])
    (with_in h.opened (Whole m)) l h.sent h.conn
hears_stage s rows row h m l c r g = go h.stage
  where
    t : TranscriberValue
    t = transcribed rows

    b : Story
    b = story s rows

    v : OpenedValue
    v = h.opened

    k' : OpenedValue
    k' = with_in h.opened (Whole m)

    t' : TranscriberValue
    t' = transcript_on rows row (with_in h.opened (Whole m))

    b' : Story
    b' = story_on s rows row c []

    same : SameBooks (transcribed rows) (transcript_on rows row (with_in h.opened (Whole m))) (story s rows)
        (story_on s rows row c [])
    same = books_on s rows row (with_in h.opened (Whole m)) c [] (grows_same (story s rows).sent c.sent g.sent)

    lines : SameLines (story s rows).bus_state.bus (row_reading (story s rows).bus_state row).change.after
    lines = lines_on s rows row h.link r.crossing

    only : IsInOnly (story s rows).bus_state.bus
    only = in_only (story s rows).bus_state.bus r.into

    silent : h.opened.said ≡ []
    silent = h.said only.out

    at :
        (x : ProcId) → carried_of (heard_carried m (story s rows).carried h.link.item l.item) x ≡ carried_of c.carried x
    at x = ap (λ (all : List CarriedBytes). carried_of all x) (sym g.carried)

    alike : (x : ProcId) → AreAlike (carried_of (story s rows).carried x) (carried_of c.carried x)
    alike x = alike_on _ _ _ (heard_alike m (story s rows).carried h.link.item l.item x) (alike_self _ _ (at x))

    go : Stage s (transcribed rows) (story s rows) h.opened h.link h.sent h.conn
        → Stage s (transcript_on rows row (with_in h.opened (Whole m))) (story_on s rows row c [])
        (with_in h.opened (Whole m)) l h.sent h.conn
    go (of_abort j began is undo none talk kept) = of_abort j began (item_known (is_known v b.bus_state.bus)
        h.link.item l.item g.names (λ i. not (began i) || not (are_talk (base_parts v)) || is_command b.bus_state.bus)
        ∙ is) (g.undo ∙ ap (λ (o : Option Item). carried_if b o) is) none (talk_in v m silent talk)
        (kept_on s t t' b b' h.sent no_process same (λ x no. alike x) kept)
    go (of_none re none talk no_command no_status plain blanks undone kept) = of_none re none (talk_in v m silent talk)
        (lines.command ∙ no_command) (lines.status ∙ no_status) (λ j e. plain j (g.plain j e))
        (λ id e. subst IsBlank (at id) (heard_blank b.history m b.carried h.link.item l.item id r.marked e (λ i f.
        blanks id (sym (item_unknown (is_known v b.bus_state.bus) h.link.item l.item i (process id) g.names f e) ∙ e))))
        (λ u e. undo_process b h.link.item u (λ x. IsBlank x × AreAlike x (carried_of c.carried x.id)
        × ((id : ProcId) → l.item ≡ Some (process id) → x.id ≡ id)) (sym g.undo ∙ e) (λ id i. (
          blanks id i,
          alike_on _ _ _ (alike id)
              (alike_self _ _ (ap (λ (y : ProcId). carried_of c.carried y) (sym (carried_id b.carried id)))),
          λ y f. carried_id b.carried id ∙ one_process id y (sym i
              ∙ sym (item_unknown (is_known v b.bus_state.bus) h.link.item l.item (process id) (process y) g.names i f)
              ∙ f),
        ))) (kept_on s t t' b b' h.sent no_process same (λ x no. alike x) kept)
      where
        one_process : (x y : ProcId) → Some (process x) ≡ Some (process y) → x ≡ y
        one_process x y e = cc
    go (of_process id back was st is undone own known serving events talks from kept) =
        let next : l.item ≡ Some (process id) = item_known (is_known v b.bus_state.bus) h.link.item l.item g.names known
        ∙ is in
        let now : CarriedBytes = carried_of b.carried id in
        of_process id now was st next
        (λ u e. undo_process b h.link.item u (λ x. x ≡ carried_of (story s rows).carried id) (sym g.undo ∙ e)
        (λ y i. ap (λ (z : ProcId). carried_of (story s rows).carried z) (one_process y id (sym i ∙ is))))
        (carried_id b.carried id) (known_more v k' b.bus_state.bus (row_reading b.bus_state row).change.after
        (Part.In m ∷ []) refl (base_in v (Whole m) silent) lines.command known)
        (subst (λ (q : Bool). IsServing k' q id (carried_of c.carried id) now h.conn (story s rows).history was st)
        (sym (lines.command ∙ only.command))
        (subst (λ (x : CarriedBytes). IsServing k' false id x now h.conn (story s rows).history was st)
        (sym (heard_own m b.carried h.link.item l.item id is next) ∙ at id)
        (in_serves v id now back h.conn b.history was st m silent (subst (λ (q : Bool). IsServing h.opened q id
        (carried_of (story s rows).carried id) back h.conn (story s rows).history was st) only.command serving))))
        events (λ talk. talks
        (talk_first (base_parts v) (Part.In m ∷ []) (sym (ap are_talk (base_in v (Whole m) silent)) ∙ talk)))
        (from_on s t t' b b' v k' h.sent id was st same refl from)
        (kept_on s t t' b b' h.sent (λ x. same_id x id) same (λ x no. alike x) kept)
      where
        one_process : (x y : ProcId) → Some (process x) ≡ Some (process y) → x ≡ y
        one_process x y e = cc

hears_stands : (s : ScenarioValue) (rows : List Row) (row : Row)
    (h : StandsLinked s (transcribed rows) (story s rows)) (m : MsgIn) (l : Link) (c : Story)
    → InRow s rows row h → Hears s rows row h m l c → Stands s rows row h (with_in h.opened (Whole m)) l c []
hears_stands s rows row h m l c r g = record {
  connection = refl;
  link = g.link;
  sent = ap (λ (x : Sent). x.sent) g.sent;
  item = λ began. item_known (is_known h.opened (story s rows).bus_state.bus) h.link.item l.item g.names
      (λ i. not (began i) || not (are_talk (base_parts h.opened)) || is_command (story s rows).bus_state.bus);
  marked = λ x. subst (λ (all : List CarriedBytes). IsMarked (story s rows).history (carried_of all x)) (sym g.carried)
      (heard_marked (story s rows).history m (story s rows).carried h.link.item l.item x (r.marked x));
  stage = hears_stage s rows row h m l c r g;
  bytes = λ e. h.bytes (sym
      (λ i. (lines_on s rows row h.link r.crossing).command i || (lines_on s rows row h.link r.crossing).data_phase i)
      ∙ e);
  said = λ e. h.said (in_only (story s rows).bus_state.bus r.into).out;
  crossed = crossed_on s rows row h.link r.crossing;
  undone = λ u e f. undo_process (story s rows) h.link.item u (λ x. IsMarked (story s rows).history x) (sym g.undo ∙ e)
      (λ id i. r.marked id);
}

-- ---- what stands

pub in_next : (s : ScenarioValue) (rows : List Row) (row : Row) (h : StandsLinked s (transcribed rows) (story s rows))
    → InRow s rows row h
    → fits_in s (story s rows) h.opened h.link (row_reading (story s rows).bus_state row).into ≡ true
    → Standing s (row ∷ rows)
in_next s rows row h r fits = go (row_reading (story s rows).bus_state row).into refl fits
  where
    b : Story
    b = story s rows

    d : RowReading
    d = row_reading (story s rows).bus_state row

    only : IsInOnly (story s rows).bus_state.bus
    only = in_only (story s rows).bus_state.bus r.into

    out : (row_reading (story s rows).bus_state row).out ≡ None
    out = no_out (story s rows).bus_state row only.out

    go : (o : Option MsgIn) → (row_reading (story s rows).bus_state row).into ≡ o
        → fits_in s (story s rows) h.opened h.link o ≡ true → Standing s (row ∷ rows)
    go None e f = linked_next s rows row h h.opened h.link b [] r.numbered r.on (crossing_makes s rows row h
        h.opened b r.on r.crossing (with_in_is s rows row h r ∙ ap (λ (o : Option MsgIn). with_in_if h.opened o) e)
        (message_story s b h.link d out e only.msg)) (same_stands s rows row h b (lines_on s rows row h.link r.crossing)
        r.marked (crossed_on s rows row h.link r.crossing) h.link_is refl (λ x. refl))
    go (Some m) e f =
        let next : Link = link_after_name b.sent s.commands h.link m in
        let l : Link = record next { last = last_in m; before = h.link.last; undo = carried_if b h.link.item } in
        let named : Story = named_story b h.link.item next.item in
        let c : Story = story_with_carried (record named { link = Some l })
        (carried_after_message_if (carried_if named l.item) m) in
        let x = names_by b h.link.item next.item in
        let y = by_message (record named { link = Some l }) m l.item in
        linked_next s rows row h (with_in h.opened (Whole m)) l c [] r.numbered r.on
        (crossing_makes s rows row h (with_in h.opened (Whole m)) c r.on r.crossing
        (with_in_is s rows row h r ∙ ap (λ (o : Option MsgIn). with_in_if h.opened o) e)
        (in_story s b h.link d m out e)) (hears_stands s rows row h m l c r (record {
          names = f;
          plain = λ j i. named_abort b.sent s.commands h.link m j i;
          undo = refl;
          link = y.link;
          sent = y.sent ∙ x.sent;
          carried = y.carried ∙ ap (λ (all : List CarriedBytes). changed (after_message m) all l.item) x.carried;
        }))

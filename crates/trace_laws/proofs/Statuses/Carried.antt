-- What a row makes of the status areas of all processes, and of what MESSAGE PARITY ERROR would bring back of one.
use Rattle.trace_laws.proofs
use proofs.Names.{◌≡◌, Bool, true, false, ◌%◌, ◌∙◌, ℕ, List, [], ◌∷◌, ◌++◌, Option, Some, None, refl, sym, ap, subst}
use proofs.Names.{same_Some, if◌then◌else◌, is_none, Event, ProcId, LineSet, is_command, is_data, Kind, Drives, Fault}
use proofs.Names.{Row, Change, Connection, PARITY_ERROR, INITIATOR_DETECTED_ERROR, MsgIn, MsgOut, ScenarioValue}
use proofs.Names.{same_id, carried_id, carried_with, byte_link, fault_link, out_link, carried_link, events_link}
use proofs.Names.{free_carried, ends_carried, check_carried, RowReading, row_reading, area_with, CarriedBytes}
use proofs.Names.{carried_of, with_carried, with_restored_pointers, carried_after_message, carried_after_byte}
use proofs.Names.{carried_after_fault, is_status_phase, carried_if, row_events_by, Item, process, abort, Link, link_of}
use proofs.Names.{last_out, last_in, link_after_name, Story, by_abort, is_aborted, is_sense_stopped, marked_refused}
use proofs.Names.{marked_shown, story_after_event, story_after_events, aim_of, story_on_free_bus, story_with_restored}
use proofs.Names.{story_with_sent, story_after_connection, story_with_carried, is_parity_error, story_after_out}
use proofs.Names.{carried_after_message_if, story_after_message, story_after_in, carried_after_byte_if}
use proofs.Names.{story_after_byte, carried_after_fault_if, story_after_fault, story_in_connection, story_on_bus}
use proofs.Names.{story_by_change, RunState, run_state_after, id_is, none_some, StoryWay, story_way}
use Rattle.due_model.specs.story_model.specs.Story.{by_reset}
use Rattle.story_laws.specs.row_laws.proofs.Common.StoryWays as ways

-- It holds of the status area of each process; and of that which would be brought back.
abbrev pub OnAreas : (ProcId → List ℕ → Type 0) → List CarriedBytes → Type 0
OnAreas q all = (id : ProcId) → q id (carried_of all id).status.bytes

abbrev pub OnUndo : (ProcId → List ℕ → Type 0) → Option Link → Type 0
OnUndo q link = (l : Link) (u : CarriedBytes) → link ≡ Some l → l.undo ≡ Some u → q u.id u.status.bytes

puts : (q : ProcId → List ℕ → Type 0) (all : List CarriedBytes) (c : CarriedBytes) → OnAreas q all
    → q c.id c.status.bytes → OnAreas q (with_carried all c)
puts q all c h w id =
    subst (λ (x : CarriedBytes). q id x.status.bytes) (sym (carried_with all c id)) (go (same_id c.id id) refl)
  where
    go : (r : Bool) → same_id c.id id ≡ r → q id (if r then c else carried_of all id).status.bytes
    go true e = subst (λ (x : ProcId). q x c.status.bytes) (id_is c.id id e) w
    go false e = h id

-- What is carried of a process takes the place of what was.
own : (q : ProcId → List ℕ → Type 0) (all : List CarriedBytes) (d : ProcId) (c : CarriedBytes)
    → c.id ≡ (carried_of all d).id → OnAreas q all → q d c.status.bytes → OnAreas q (with_carried all c)
own q all d c same h w = puts q all c h (subst (λ (x : ProcId). q x c.status.bytes) (sym (same ∙ carried_id all d)) w)

as_before : (q : ProcId → List ℕ → Type 0) (before after : List CarriedBytes) → after ≡ before → OnAreas q before
    → OnAreas q after
as_before q before after e h id = subst (λ (x : List CarriedBytes). q id (carried_of x id).status.bytes) (sym e) (h id)

-- ---- events

event_on : (q : ProcId → List ℕ → Type 0) (s : ScenarioValue) (b : Story) (e : Event) → OnAreas q b.carried
    → OnAreas q (story_after_event s b e).carried
event_on q s b (Event.Accept p) h = h
event_on q s b (Event.Refuse p) h = own q b.carried p (marked_refused (carried_of b.carried p)) refl h (h p)
event_on q s b (Event.Run p) h = own q b.carried p (marked_shown (carried_of b.carried p)) refl h (h p)
event_on q s b (Event.Fail p code) h = own q b.carried p (marked_shown (carried_of b.carried p)) refl h (h p)
event_on q s b (Event.End p status) h =
    as_before q b.carried (story_after_event s b (Event.End p status)).carried (check_carried _ p status) h
event_on q s b (Event.Lost p) h = h
event_on q s b (Event.Aborted i t u what) h = as_before q b.carried
    (story_after_event s b (Event.Aborted i t u what)).carried
    (ends_carried (is_aborted i t u what) (is_sense_stopped i t u what) by_abort 1 s.commands b) h
event_on q s b (Event.Reset dev) h = as_before q b.carried (story_after_event s b (Event.Reset dev)).carried
    (ends_carried (λ c. true) (λ c. true) by_reset 1 s.commands b) h

pub events_on : (q : ProcId → List ℕ → Type 0) (s : ScenarioValue) (b : Story) (shown : List Event)
    → OnAreas q b.carried → OnAreas q (story_after_events s b shown).carried
events_on q s b [] h = h
events_on q s b (e ∷ shown) h = event_on q s (story_after_events s b shown) e (events_on q s b shown h)

-- ---- a connection begins

restored : (q : ProcId → List ℕ → Type 0) (b : Story) (item : Option Item) → OnAreas q b.carried
    → OnAreas q (story_with_restored b item).carried
restored q b None h = h
restored q b (Some (process p)) h = own q b.carried p (with_restored_pointers (carried_of b.carried p)) refl h (h p)
restored q b (Some (abort k)) h = h

begun_on : (q : ProcId → List ℕ → Type 0) (b : Story) (n : Connection) → OnAreas q b.carried
    → OnAreas q (story_after_connection b n).carried
begun_on q b n h = go n.reselected (aim_of b.aims n.initiator)
  where
    linked : Story
    linked = record b { link = Some (link_of n (aim_of b.aims n.initiator)) }

    sent : (item : Option Item) → (story_with_sent linked item).carried ≡ b.carried
    sent None = refl
    sent (Some item) = refl

    go : (r : Bool) (item : Option Item) → OnAreas q (if r then record b { link = Some (link_of n None) }
        else story_with_restored (story_with_sent linked item) item).carried
    go true item = h
    go false item = restored q (story_with_sent linked item) item
        (as_before q b.carried (story_with_sent linked item).carried (sent item) h)

-- ---- in a connection

message_on : (q : ProcId → List ℕ → Type 0) (s : ScenarioValue) (b : Story) (l : Link) (m : MsgIn) → OnAreas q b.carried
    → OnAreas q (story_after_message s b l m).carried
message_on q s b l m h = go l.item
  where
    same : (c : CarriedBytes) (d : ProcId) → q d c.status.bytes
        → (x : MsgIn) → ((carried_after_message c x).id ≡ c.id) × q d (carried_after_message c x).status.bytes
    same c d w MsgIn.SavePointer = (refl, w)
    same c d w _ = (refl, w)

    go : (item : Option Item) → OnAreas q
        (story_with_carried (record b { link = Some l }) (carried_after_message_if (carried_if b item) m)).carried
    go None = h
    go (Some (abort k)) = h
    go (Some (process d)) =
        let w = same (carried_of b.carried d) d (h d) m in
        own q b.carried d (carried_after_message (carried_of b.carried d) m) w.0 h w.1

heard_on : (q : ProcId → List ℕ → Type 0) (s : ScenarioValue) (b : Story) (l : Link) (m : MsgIn) → OnAreas q b.carried
    → OnAreas q (story_after_in s b l (Some m)).carried
heard_on q s b l m h = go (is_none l.item)
  where
    after : Link
    after = link_after_name b.sent s.commands l m

    next : Link
    next = record after { last = last_in m; before = l.last; undo = carried_if b l.item }

    go : (r : Bool)
        → OnAreas q (story_after_message s (if r then story_with_restored b after.item else b) next m).carried
    go true = message_on q s (story_with_restored b after.item) next m (restored q b after.item h)
    go false = message_on q s b next m h

byte_on : (q : ProcId → List ℕ → Type 0) (b : Story) (l : Link) (d : RowReading) → OnAreas q b.carried
    → ((i : ProcId) → l.item ≡ Some (process i) → is_status_phase d.change.before ≡ true
    → q i (area_with (carried_of b.carried i).status (d.change.after.data_bits % 256)).bytes)
    → OnAreas q (story_after_byte b l d).carried
byte_on q b l d h takes = go d.change.before.msg l.item refl
  where
    byte : ℕ
    byte = d.change.after.data_bits % 256

    of : (i : ProcId) (c : CarriedBytes) → q i c.status.bytes
        → (is_status_phase d.change.before ≡ true → q i (area_with c.status byte).bytes)
        → ((carried_after_byte c d.change.before byte).id ≡ c.id)
        × q i (carried_after_byte c d.change.before byte).status.bytes
    of i c w f = by (is_command d.change.before) (is_data d.change.before) (is_status_phase d.change.before) refl
      where
        by : (x y z : Bool) → is_status_phase d.change.before ≡ z
            → ((if x then record c { command = area_with c.command byte; block = c.block ++ byte ∷ [] }
            else if y then record c { moved = area_with c.moved byte }
            else if z then record c { status = area_with c.status byte } else c).id ≡ c.id)
            × q i (if x then record c { command = area_with c.command byte; block = c.block ++ byte ∷ [] }
            else if y then record c { moved = area_with c.moved byte }
            else if z then record c { status = area_with c.status byte } else c).status.bytes
        by true y z e = (refl, w)
        by false true z e = (refl, w)
        by false false true e = (refl, f e)
        by false false false e = (refl, w)

    go : (r : Bool) (item : Option Item) → l.item ≡ item
        → OnAreas q (if r then b else story_with_carried b (carried_after_byte_if (carried_if b item) d)).carried
    go true item e = h
    go false None e = h
    go false (Some (abort k)) e = h
    go false (Some (process i)) e =
        let w = of i (carried_of b.carried i) (h i) (takes i e) in
        own q b.carried i (carried_after_byte (carried_of b.carried i) d.change.before byte) w.0 h w.1

fault_on : (q : ProcId → List ℕ → Type 0) (b : Story) (l : Link) (kind : Kind) → OnAreas q b.carried
    → OnAreas q (story_after_fault b l kind).carried
fault_on q b l (Drives lines) h = h
fault_on q b l (Fault bit) h = go l.item b.bus_state.crossed
  where
    of : (d : ProcId) (c : CarriedBytes) (x : LineSet) → q d c.status.bytes
        → ((carried_after_fault c x).id ≡ c.id) × q d (carried_after_fault c x).status.bytes
    of d c x w = by (is_command x) (is_data x)
      where
        code : Option ℕ
        code = Some (if x.io then INITIATOR_DETECTED_ERROR else PARITY_ERROR)

        by : (y z : Bool) → ((if y then record c { struck = true; failure = Some PARITY_ERROR }
            else if z then record c { failure = code } else c).id ≡ c.id)
            × q d (if y then record c { struck = true; failure = Some PARITY_ERROR }
            else if z then record c { failure = code } else c).status.bytes
        by true z = (refl, w)
        by false true = (refl, w)
        by false false = (refl, w)

    go : (item : Option Item) (c : Option Change)
        → OnAreas q (story_with_carried b (carried_after_fault_if (carried_if b item) c)).carried
    go None c = h
    go (Some (abort k)) c = h
    go (Some (process d)) None = own q b.carried d (carried_of b.carried d) refl h (h d)
    go (Some (process d)) (Some c) =
        let w = of d (carried_of b.carried d) c.before (h d) in
        own q b.carried d (carried_after_fault (carried_of b.carried d) c.before) w.0 h w.1

out_on : (q : ProcId → List ℕ → Type 0) (b : Story) (l : Link) (m : MsgOut) → OnAreas q b.carried
    → (is_parity_error m ≡ true → (u : CarriedBytes) → l.undo ≡ Some u → q u.id u.status.bytes)
    → OnAreas q (story_after_out b l (Some m)).carried
out_on q b l m h f = go (is_parity_error m) refl l.undo refl
  where
    go : (r : Bool) → is_parity_error m ≡ r → (o : Option CarriedBytes) → l.undo ≡ o
        → OnAreas q (story_with_carried (record b { link = Some (record l { last = last_out m l }) })
        (if r then o else None)).carried
    go false z o e = h
    go true z None e = h
    go true z (Some u) e = puts q b.carried u h (f z u e)

-- ---- a row, but for its events

-- What is asked of a row of a connection that stands: of a byte of STATUS, and of what MESSAGE PARITY ERROR brings
-- back.
pub record Takes (q : ProcId → List ℕ → Type 0) (b : Story) (d : RowReading) (l : Link) : Type 0 where
  pub status : (i : ProcId) → l.item ≡ Some (process i) → d.crosses ≡ true → is_status_phase d.change.before ≡ true
      → q i (area_with (carried_of b.carried i).status (d.change.after.data_bits % 256)).bytes
  pub undoes : (m : MsgOut) (u : CarriedBytes) → d.out ≡ Some m → is_parity_error m ≡ true → l.undo ≡ Some u
      → q u.id u.status.bytes

crossing_on : (q : ProcId → List ℕ → Type 0) (s : ScenarioValue) (b : Story) (l : Link) (d : RowReading) (row : Row)
    → OnAreas q b.carried → Takes q b d l → OnAreas q (story_in_connection s b (Some l) d row).carried
crossing_on q s b l d row h t = go (story_way s b l d row)
  where
    go : {after : Story} → StoryWay s b l d row after → OnAreas q after.carried
    go (ways.says m _ e) = out_on q b l m h (λ f u g. t.undoes m u e f g)
    go (ways.hears m _ _ _) = heard_on q s b l m h
    go (ways.carries z _ _) = byte_on q b l d h (λ p f g. t.status p f z g)
    go (ways.stays _) = fault_on q b l row.kind h

pub change_on : (q : ProcId → List ℕ → Type 0) (s : ScenarioValue) (b : Story) (d : RowReading) (row : Row)
    → OnAreas q b.carried → ((m n : Connection) (l : Link) → d.change.after.rst ≡ false
    → b.bus_state.connection ≡ Some m → d.next ≡ Some n → b.link ≡ Some l → Takes q b d l)
    → OnAreas q (story_by_change s b d row).carried
change_on q s b d row h t = go d.change.after.rst refl b.bus_state.connection refl d.next refl
  where
    inside : (o : Option Link) → ((l : Link) → o ≡ Some l → Takes q b d l)
        → OnAreas q (story_in_connection s b o d row).carried
    inside None f = h
    inside (Some l) f = crossing_on q s b l d row h (f l refl)

    go : (r : Bool) → d.change.after.rst ≡ r → (x : Option Connection) → b.bus_state.connection ≡ x
        → (y : Option Connection) → d.next ≡ y
        → OnAreas q (if r then record b { link = None } else story_on_bus s b x y d row).carried
    go true e x ex y ey = h
    go false e None ex None ey = as_before q b.carried (story_on_free_bus s b d row).carried (free_carried s b d row) h
    go false e None ex (Some n) ey = begun_on q b n h
    go false e (Some m) ex None ey = h
    go false e (Some m) ex (Some n) ey = inside b.link (λ l f. t m n l e ex ey f)

-- ---- what would be brought back

same_undo : (q : ProcId → List ℕ → Type 0) (before after : Option Link) → after ≡ before → OnUndo q before
    → OnUndo q after
same_undo q before after e h l u f g = h l u (sym e ∙ f) g

one_undo : (q : ProcId → List ℕ → Type 0) (link : Option Link) (x : Link) → link ≡ Some x
    → ((u : CarriedBytes) → x.undo ≡ Some u → q u.id u.status.bytes) → OnUndo q link
one_undo q link x e h l u f g = h u (ap (λ (y : Link). y.undo) (same_Some x l (sym e ∙ f)) ∙ g)

pub own_undo : (q : ProcId → List ℕ → Type 0) (b : Story) (item : Option Item) → OnAreas q b.carried
    → (u : CarriedBytes) → carried_if b item ≡ Some u → q u.id u.status.bytes
own_undo q b None h u e = none_some u e
own_undo q b (Some (abort k)) h u e = none_some u e
own_undo q b (Some (process p)) h u e =
    subst (λ (x : CarriedBytes). q x.id x.status.bytes) (same_Some (carried_of b.carried p) u e)
    (subst (λ (x : ProcId). q x (carried_of b.carried p).status.bytes) (sym (carried_id b.carried p)) (h p))

inside_undo : (q : ProcId → List ℕ → Type 0) (s : ScenarioValue) (b : Story) (l : Link) (d : RowReading) (row : Row)
    → b.link ≡ Some l → OnAreas q b.carried → OnUndo q b.link → OnUndo q (story_in_connection s b (Some l) d row).link
inside_undo q s b l d row el h u = go (story_way s b l d row)
  where
    go : {after : Story} → StoryWay s b l d row after → OnUndo q after.link
    go (ways.says m _ _) =
        one_undo q _ (record l { last = last_out m l }) (out_link b l m) (λ c e. u l c el e)
    go (ways.hears m _ _ _) = one_undo q _ (record (link_after_name b.sent s.commands l m) {
      last = last_in m;
      before = l.last;
      undo = carried_if b l.item;
    }) (carried_link _ _) (λ c e. own_undo q b l.item h c e)
    go (ways.carries _ _ _) = same_undo q b.link _ (byte_link b l d) u
    go (ways.stays _) = same_undo q b.link _ (fault_link b l row.kind) u

begun_link : (q : ProcId → List ℕ → Type 0) (b : Story) (n : Connection) → OnUndo q (story_after_connection b n).link
begun_link q b n = go n.reselected (aim_of b.aims n.initiator)
  where
    linked : Story
    linked = record b { link = Some (link_of n (aim_of b.aims n.initiator)) }

    sent : (item : Option Item) → (story_with_sent linked item).link ≡ linked.link
    sent None = refl
    sent (Some item) = refl

    kept : (x : Story) (item : Option Item) → (story_with_restored x item).link ≡ x.link
    kept x None = refl
    kept x (Some (process p)) = refl
    kept x (Some (abort k)) = refl

    go : (r : Bool) (item : Option Item) → OnUndo q (if r then record b { link = Some (link_of n None) }
        else story_with_restored (story_with_sent linked item) item).link
    go true item = one_undo q _ (link_of n None) refl (λ u e. none_some u e)
    go false item = one_undo q _ (link_of n (aim_of b.aims n.initiator))
        (kept (story_with_sent linked item) item ∙ sent item) (λ u e. none_some u e)

-- Where a connection stands after the row.
pub change_undo :
    (q : ProcId → List ℕ → Type 0) (s : ScenarioValue) (b : Story) (d : RowReading) (row : Row) (n : Connection)
    → d.next ≡ Some n → OnAreas q b.carried → OnUndo q b.link → OnUndo q (story_by_change s b d row).link
change_undo q s b d row n e h u = subst (λ (y : Option Connection). OnUndo q
    (if d.change.after.rst then record b { link = None } else story_on_bus s b b.bus_state.connection y d row).link)
    (sym e) (go d.change.after.rst b.bus_state.connection)
  where
    inside : (o : Option Link) → b.link ≡ o → OnUndo q (story_in_connection s b o d row).link
    inside None f = u
    inside (Some l) f = inside_undo q s b l d row f h u

    go : (r : Bool) (x : Option Connection)
        → OnUndo q (if r then record b { link = None } else story_on_bus s b x (Some n) d row).link
    go true x = λ l c f g. none_some l f
    go false None = begun_link q b n
    go false (Some m) = inside b.link refl

-- ---- a row

abbrev pub IsAsked : (ProcId → List ℕ → Type 0) → RunState → Row → Type 0
IsAsked q k row = (m n : Connection) (l : Link) → (row_reading k.story.bus_state row).change.after.rst ≡ false
    → k.story.bus_state.connection ≡ Some m → (row_reading k.story.bus_state row).next ≡ Some n → k.story.link ≡ Some l
    → Takes q k.story (row_reading k.story.bus_state row) l

pub areas_next : (q : ProcId → List ℕ → Type 0) (s : ScenarioValue) (k : RunState) (row : Row) → IsAsked q k row
    → OnAreas q k.story.carried → OnAreas q (run_state_after s k row).story.carried
areas_next q s k row t h =
    let d : RowReading = row_reading k.story.bus_state row in
    events_on q s (story_by_change s k.story d row) (row_events_by s k.story d row) (change_on q s k.story d row h t)

pub undo_next : (q : ProcId → List ℕ → Type 0) (s : ScenarioValue) (k : RunState) (row : Row) (n : Connection)
    → (row_reading k.story.bus_state row).next ≡ Some n → OnAreas q k.story.carried → OnUndo q k.story.link
    → OnUndo q (run_state_after s k row).story.link
undo_next q s k row n e h u =
    let d : RowReading = row_reading k.story.bus_state row in
    same_undo q (story_by_change s k.story d row).link (run_state_after s k row).story.link
    (events_link s (story_by_change s k.story d row) (row_events_by s k.story d row))
    (change_undo q s k.story d row n e h u)

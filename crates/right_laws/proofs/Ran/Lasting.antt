-- What of a carried record neither pointers, marks nor faults change lasts with each row but where a byte crosses, or
-- MESSAGE PARITY ERROR brings back another (6.4, 6.6.13, 6.6.19).
use Rattle.right_laws.proofs
use proofs.Names.{◌≡◌, Bool, true, false, ◌%◌, ◌∙◌, List, [], ◌∷◌, Option, Some, None, refl, sym, ap, if◌then◌else◌}
use proofs.Names.{is_none, Event, ProcId, LineSet, Kind, Drives, Fault, Row, Change, Connection, MsgIn, MsgOut}
use proofs.Names.{ScenarioValue, same_id, carried_id, carried_with, free_carried, message_id, ends_carried}
use proofs.Names.{check_carried, RowReading, row_reading, CarriedBytes, carried_of, with_carried}
use proofs.Names.{with_restored_pointers, carried_after_message, carried_after_byte, carried_after_fault, carried_if}
use proofs.Names.{row_events_by, Item, process, abort, Link, link_of, last_out, last_in, link_after_name, Story}
use proofs.Names.{by_abort, by_reset, is_aborted, is_sense_stopped, marked_refused, marked_shown, story_with_end}
use proofs.Names.{story_after_event, story_after_events, aim_of, story_with_restored, story_with_sent}
use proofs.Names.{story_after_connection, story_with_carried, is_parity_error, story_after_out}
use proofs.Names.{carried_after_message_if, story_after_message, story_after_in, carried_after_byte_if}
use proofs.Names.{story_after_byte, carried_after_fault_if, story_after_fault, story_in_connection, story_on_bus}
use proofs.Names.{story_by_change, RunState, carried_here, run_state_after, id_is, StoryWay, says, hears, carries}
use proofs.Names.{story_way, byte_id, fault_id}
use Rattle.trace_laws.specs.row_laws.proofs.Common.StoryWays.{stays}

-- Neither pointers, marks nor faults change it.
pub record IsLasting {A : Type 0} (f : CarriedBytes → A) : Type 0 where
  pub restored : (c : CarriedBytes) → f (with_restored_pointers c) ≡ f c
  pub told : (c : CarriedBytes) (m : MsgIn) → f (carried_after_message c m) ≡ f c
  pub faulted : (c : CarriedBytes) (b : LineSet) → f (carried_after_fault c b) ≡ f c
  pub refused : (c : CarriedBytes) → f (marked_refused c) ≡ f c
  pub shown : (c : CarriedBytes) → f (marked_shown c) ≡ f c

-- It is the same of this process.
abbrev pub Lasts : {A : Type 0} → (CarriedBytes → A) → ProcId → List CarriedBytes → List CarriedBytes → Type 0
Lasts f id before after = f (carried_of after id) ≡ f (carried_of before id)

pub puts : {A : Type 0} (f : CarriedBytes → A) (all : List CarriedBytes) (c : CarriedBytes) (id : ProcId)
    → (c.id ≡ id → f c ≡ f (carried_of all id)) → Lasts f id all (with_carried all c)
puts f all c id e = ap f (carried_with all c id) ∙ go (same_id c.id id) refl
  where
    go : (q : Bool) → same_id c.id id ≡ q → f (if q then c else carried_of all id) ≡ f (carried_of all id)
    go true z = e (id_is c.id id z)
    go false z = refl

-- A record of the process itself, changed so that it is the same.
own : {A : Type 0} (f : CarriedBytes → A) (all : List CarriedBytes) (d : ProcId) (c : CarriedBytes) (id : ProcId)
    → c.id ≡ d → (d ≡ id → f c ≡ f (carried_of all d)) → Lasts f id all (with_carried all c)
own f all d c id same e =
    puts f all c id (λ z. e (sym same ∙ z) ∙ ap (λ (x : ProcId). f (carried_of all x)) (sym same ∙ z))

-- ---- events

event_lasts : {A : Type 0} (f : CarriedBytes → A) → IsLasting f
    → (s : ScenarioValue) (b : Story) (e : Event) (id : ProcId) → Lasts f id b.carried (story_after_event s b e).carried
event_lasts f h s b (Event.Accept p) id = refl
event_lasts f h s b (Event.Refuse p) id = own f b.carried p (marked_refused (carried_of b.carried p)) id
    (carried_id b.carried p) (λ z. h.refused (carried_of b.carried p))
event_lasts f h s b (Event.Run p) id = own f b.carried p (marked_shown (carried_of b.carried p)) id
    (carried_id b.carried p) (λ z. h.shown (carried_of b.carried p))
event_lasts f h s b (Event.Fail p code) id = own f b.carried p (marked_shown (carried_of b.carried p)) id
    (carried_id b.carried p) (λ z. h.shown (carried_of b.carried p))
event_lasts f h s b (Event.End p status) id =
    ap (λ (x : List CarriedBytes). f (carried_of x id)) (check_carried (story_with_end b p _) p status)
event_lasts f h s b (Event.Lost p) id = refl
event_lasts f h s b (Event.Aborted i t u what) id = ap (λ (x : List CarriedBytes). f (carried_of x id))
    (ends_carried (is_aborted i t u what) (is_sense_stopped i t u what) by_abort 1 s.commands b)
event_lasts f h s b (Event.Reset dev) id =
    ap (λ (x : List CarriedBytes). f (carried_of x id)) (ends_carried (λ c. true) (λ c. true) by_reset 1 s.commands b)

pub events_last : {A : Type 0} (f : CarriedBytes → A) → IsLasting f
    → (s : ScenarioValue) (b : Story) (shown : List Event) (id : ProcId)
    → Lasts f id b.carried (story_after_events s b shown).carried
events_last f h s b [] id = refl
events_last f h s b (e ∷ shown) id =
    event_lasts f h s (story_after_events s b shown) e id ∙ events_last f h s b shown id

-- ---- a connection begins

restored_lasts : {A : Type 0} (f : CarriedBytes → A) → IsLasting f → (b : Story) (item : Option Item) (id : ProcId)
    → Lasts f id b.carried (story_with_restored b item).carried
restored_lasts f h b None id = refl
restored_lasts f h b (Some (process p)) id = own f b.carried p (with_restored_pointers (carried_of b.carried p)) id
    (carried_id b.carried p) (λ z. h.restored (carried_of b.carried p))
restored_lasts f h b (Some (abort k)) id = refl

begun_lasts : {A : Type 0} (f : CarriedBytes → A) → IsLasting f → (b : Story) (n : Connection) (id : ProcId)
    → Lasts f id b.carried (story_after_connection b n).carried
begun_lasts f h b n id = go n.reselected (aim_of b.aims n.initiator)
  where
    sent : (item : Option Item)
        → (story_with_sent (record b { link = Some (link_of n (aim_of b.aims n.initiator)) }) item).carried ≡ b.carried
    sent None = refl
    sent (Some item) = refl

    go : (q : Bool) (item : Option Item)
        → Lasts f id b.carried (if q then record b { link = Some (link_of n None) } else story_with_restored
        (story_with_sent (record b { link = Some (link_of n (aim_of b.aims n.initiator)) }) item) item).carried
    go true item = refl
    go false item = restored_lasts f h
        (story_with_sent (record b { link = Some (link_of n (aim_of b.aims n.initiator)) }) item) item id
        ∙ ap (λ (x : List CarriedBytes). f (carried_of x id)) (sent item)

-- ---- in a connection

message_lasts : {A : Type 0} (f : CarriedBytes → A) → IsLasting f
    → (s : ScenarioValue) (b : Story) (l : Link) (m : MsgIn) (id : ProcId)
    → Lasts f id b.carried (story_after_message s b l m).carried
message_lasts f h s b l m id = go l.item
  where
    go : (item : Option Item) → Lasts f id b.carried
        (story_with_carried (record b { link = Some l }) (carried_after_message_if (carried_if b item) m)).carried
    go None = refl
    go (Some (abort k)) = refl
    go (Some (process p)) = own f b.carried p (carried_after_message (carried_of b.carried p) m) id
        (message_id (carried_of b.carried p) m ∙ carried_id b.carried p) (λ z. h.told (carried_of b.carried p) m)

heard_lasts : {A : Type 0} (f : CarriedBytes → A) → IsLasting f
    → (s : ScenarioValue) (b : Story) (l : Link) (m : MsgIn) (id : ProcId)
    → Lasts f id b.carried (story_after_in s b l (Some m)).carried
heard_lasts f h s b l m id = go (is_none l.item)
  where
    after : Link
    after = link_after_name b.sent s.commands l m

    next : Link
    next = record after { last = last_in m; before = l.last; undo = carried_if b l.item }

    go : (q : Bool) → Lasts f id b.carried
        (story_after_message s (if q then story_with_restored b after.item else b) next m).carried
    go true = message_lasts f h s (story_with_restored b after.item) next m id ∙ restored_lasts f h b after.item id
    go false = message_lasts f h s b next m id

-- A byte that crosses outside the message phases is carried by this process only as said.
abbrev pub ByteLasts : {A : Type 0} → (CarriedBytes → A) → ProcId → Story → RowReading → Type 0
ByteLasts f id b d =
    (l : Link) → b.link ≡ Some l → l.item ≡ Some (process id) → d.crosses ≡ true → d.change.before.msg ≡ false
    → f (carried_after_byte (carried_of b.carried id) d.change.before (d.change.after.data_bits % 256))
    ≡ f (carried_of b.carried id)

-- What is brought back of this process is as said.
abbrev pub UndoLasts : {A : Type 0} → (CarriedBytes → A) → ProcId → Story → RowReading → Type 0
UndoLasts f id b d = (l : Link) (m : MsgOut) (u : CarriedBytes) → b.link ≡ Some l → d.out ≡ Some m
    → is_parity_error m ≡ true → l.undo ≡ Some u → u.id ≡ id → f u ≡ f (carried_of b.carried id)

byte_lasts : {A : Type 0} (f : CarriedBytes → A) → (b : Story) (l : Link) (d : RowReading) (id : ProcId)
    → (l.item ≡ Some (process id) → d.change.before.msg ≡ false
    → f (carried_after_byte (carried_of b.carried id) d.change.before (d.change.after.data_bits % 256))
    ≡ f (carried_of b.carried id)) → Lasts f id b.carried (story_after_byte b l d).carried
byte_lasts f b l d id e = go d.change.before.msg refl l.item refl
  where
    go : (q : Bool) → d.change.before.msg ≡ q → (item : Option Item) → l.item ≡ item → Lasts f id b.carried
        (if q then b else story_with_carried b (carried_after_byte_if (carried_if b item) d)).carried
    go true m item w = refl
    go false m None w = refl
    go false m (Some (abort k)) w = refl
    go false m (Some (process p)) w = own f b.carried p
        (carried_after_byte (carried_of b.carried p) d.change.before (d.change.after.data_bits % 256)) id
        (byte_id (carried_of b.carried p) d.change.before (d.change.after.data_bits % 256) ∙ carried_id b.carried p)
        (λ z. ap (λ (x : ProcId). f
        (carried_after_byte (carried_of b.carried x) d.change.before (d.change.after.data_bits % 256))) z
        ∙ e (w ∙ ap (λ (x : ProcId). Some (process x)) z) m ∙ ap (λ (x : ProcId). f (carried_of b.carried x)) (sym z))

fault_lasts : {A : Type 0} (f : CarriedBytes → A) → IsLasting f → (b : Story) (l : Link) (kind : Kind) (id : ProcId)
    → Lasts f id b.carried (story_after_fault b l kind).carried
fault_lasts f h b l (Drives lines) id = refl
fault_lasts f h b l (Fault bit) id = go l.item b.bus_state.crossed
  where
    go : (item : Option Item) (c : Option Change)
        → Lasts f id b.carried (story_with_carried b (carried_after_fault_if (carried_if b item) c)).carried
    go None c = refl
    go (Some (abort k)) c = refl
    go (Some (process p)) None = own f b.carried p (carried_of b.carried p) id (carried_id b.carried p) (λ z. refl)
    go (Some (process p)) (Some c) = own f b.carried p (carried_after_fault (carried_of b.carried p) c.before) id
        (fault_id (carried_of b.carried p) c.before ∙ carried_id b.carried p)
        (λ z. h.faulted (carried_of b.carried p) c.before)

out_lasts : {A : Type 0} (f : CarriedBytes → A) → (b : Story) (l : Link) (m : MsgOut) (id : ProcId)
    → (is_parity_error m ≡ true → (u : CarriedBytes) → l.undo ≡ Some u → u.id ≡ id → f u ≡ f (carried_of b.carried id))
    → Lasts f id b.carried (story_after_out b l (Some m)).carried
out_lasts f b l m id h = go (is_parity_error m) h l.undo refl
  where
    go : (q : Bool) → (q ≡ true → (u : CarriedBytes) → l.undo ≡ Some u → u.id ≡ id → f u ≡ f (carried_of b.carried id))
        → (o : Option CarriedBytes) → l.undo ≡ o → Lasts f id b.carried (story_with_carried (record b {
          link = Some (record l { last = last_out m l });
        }) (if q then o else None)).carried
    go false g o e = refl
    go true g None e = refl
    go true g (Some u) e = puts f b.carried u id (λ z. g refl u e z)

-- ---- any row

pub change_lasts : {A : Type 0} (f : CarriedBytes → A) → IsLasting f
    → (s : ScenarioValue) (b : Story) (d : RowReading) (row : Row) (id : ProcId) → ByteLasts f id b d
    → UndoLasts f id b d → Lasts f id b.carried (story_by_change s b d row).carried
change_lasts f h s b d row id byte undo = go d.change.after.rst b.bus_state.connection d.next
  where
    crossing : (l : Link) → b.link ≡ Some l → Lasts f id b.carried (story_in_connection s b (Some l) d row).carried
    crossing l e = by (story_way s b l d row)
      where
        by : {after : Story} → StoryWay s b l d row after → Lasts f id b.carried after.carried
        by (says m w z) = out_lasts f b l m id (λ p u x y. undo l m u e z p x y)
        by (hears m _ _ _) = heard_lasts f h s b l m id
        by (carries w _ _) = byte_lasts f b l d id (λ x y. byte l e x w y)
        by (stays _) = fault_lasts f h b l row.kind id

    inside : (o : Option Link) → b.link ≡ o → Lasts f id b.carried (story_in_connection s b o d row).carried
    inside None e = refl
    inside (Some l) e = crossing l e

    go : (q : Bool) (x y : Option Connection)
        → Lasts f id b.carried (if q then record b { link = None } else story_on_bus s b x y d row).carried
    go true x y = refl
    go false None None = ap (λ (x : List CarriedBytes). f (carried_of x id)) (free_carried s b d row)
    go false None (Some n) = begun_lasts f h b n id
    go false (Some m) None = refl
    go false (Some m) (Some n) = inside b.link refl

pub row_lasts : {A : Type 0} (f : CarriedBytes → A) → IsLasting f
    → (s : ScenarioValue) (k : RunState) (row : Row) (id : ProcId)
    → ByteLasts f id k.story (row_reading k.story.bus_state row)
    → UndoLasts f id k.story (row_reading k.story.bus_state row)
    → f (carried_here (run_state_after s k row) id) ≡ f (carried_here k id)
row_lasts f h s k row id byte undo =
    let d : RowReading = row_reading k.story.bus_state row in
    events_last f h s (story_by_change s k.story d row) (row_events_by s k.story d row) id
    ∙ change_lasts f h s k.story d row id byte undo

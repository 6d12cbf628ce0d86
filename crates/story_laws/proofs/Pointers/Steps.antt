-- What a byte, a message or a fault makes of what one process carried, and of the link.
use Rattle.story_laws.proofs
use proofs.Names.{ℕ, ◌≡◌, Bool, true, false, ◌∙◌, [], ◌∷◌, ◌++◌, Option, Some, None, refl, sym, ap, true≢false, ◌%◌}
use proofs.Names.{same_Some, if◌then◌else◌, is_none, ProcId, LineSet, is_command, is_data, Kind, Drives, Fault, Change}
use proofs.Names.{PARITY_ERROR, INITIATOR_DETECTED_ERROR, MsgIn, MsgOut, ScenarioValue, same_id, carried_id}
use proofs.Names.{carried_with, carried_link, message_id, RowReading, CarriedBytes, area_with, carried_of}
use proofs.Names.{with_restored_pointers, carried_after_message, carried_after_byte, carried_after_fault}
use proofs.Names.{is_status_phase, carried_if, Item, process, abort, Link, last_in, last_out, link_after_name, Story}
use proofs.Names.{story_with_restored, story_with_carried, is_parity_error, story_after_out, carried_after_message_if}
use proofs.Names.{story_after_message, story_after_in, carried_after_byte_if, story_after_byte, carried_after_fault_if}
use proofs.{Names.{story_after_fault, put_own, put_other, none_some, OnUndo}, Pointers.Messages.{or_undone}}
use proofs.Pointers.Stories.{SamePointers, same_self, put_same}

-- ---- a fault

fault_same : (c : CarriedBytes) (b : LineSet) → SamePointers (carried_after_fault c b) c
fault_same c b = go (is_command b) (is_data b)
  where
    go : (q r : Bool) → SamePointers (if q then record c { struck = true; failure = Some PARITY_ERROR }
        else if r then record c { failure = Some (if b.io then INITIATOR_DETECTED_ERROR else PARITY_ERROR) } else c) c
    go true r = record { moved = refl; marked = λ e. e }
    go false true = record { moved = refl; marked = λ e. e }
    go false false = same_self c

pub fault_id : (c : CarriedBytes) (b : LineSet) → (carried_after_fault c b).id ≡ c.id
fault_id c b = go (is_command b) (is_data b)
  where
    go : (q r : Bool) → (if q then record c { struck = true; failure = Some PARITY_ERROR }
        else if r then record c { failure = Some (if b.io then INITIATOR_DETECTED_ERROR else PARITY_ERROR) } else c).id
        ≡ c.id
    go true r = refl
    go false true = refl
    go false false = refl

-- A row with which no byte crosses.
pub fault_story : (b : Story) (l : Link) (kind : Kind) (id : ProcId)
    → SamePointers (carried_of (story_after_fault b l kind).carried id) (carried_of b.carried id)
fault_story b l (Drives lines) id = same_self (carried_of b.carried id)
fault_story b l (Fault bit) id = go l.item b.bus_state.crossed
  where
    go : (item : Option Item) (c : Option Change)
        → SamePointers (carried_of (story_with_carried b (carried_after_fault_if (carried_if b item) c)).carried id)
        (carried_of b.carried id)
    go None c = same_self (carried_of b.carried id)
    go (Some (abort n)) c = same_self (carried_of b.carried id)
    go (Some (process x)) None =
        put_same b.carried (carried_of b.carried x) id x (carried_id b.carried x) (same_self (carried_of b.carried x))
    go (Some (process x)) (Some c) = put_same b.carried (carried_after_fault (carried_of b.carried x) c.before) id x
        (fault_id (carried_of b.carried x) c.before ∙ carried_id b.carried x)
        (fault_same (carried_of b.carried x) c.before)

-- ---- a byte

pub byte_id : (c : CarriedBytes) (b : LineSet) (byte : ℕ) → (carried_after_byte c b byte).id ≡ c.id
byte_id c b byte = go (is_command b) (is_data b) (is_status_phase b)
  where
    go : (q r t : Bool) → (if q then record c { command = area_with c.command byte; block = c.block ++ byte ∷ [] }
        else if r then record c { moved = area_with c.moved byte }
        else if t then record c { status = area_with c.status byte } else c).id ≡ c.id
    go true r t = refl
    go false true t = refl
    go false false true = refl
    go false false false = refl

-- One that is no data changes no data pointer.
pub byte_same : (c : CarriedBytes) (b : LineSet) (byte : ℕ) → is_data b ≡ false
    → SamePointers (carried_after_byte c b byte) c
byte_same c b byte e = go (is_command b) (is_data b) (is_status_phase b) e
  where
    go : (q r t : Bool) → r ≡ false
        → SamePointers (if q then record c { command = area_with c.command byte; block = c.block ++ byte ∷ [] }
        else if r then record c { moved = area_with c.moved byte }
        else if t then record c { status = area_with c.status byte } else c) c
    go true r t z = record { moved = refl; marked = λ e. e }
    go false true t z = absurd (true≢false z)
    go false false true z = record { moved = refl; marked = λ e. e }
    go false false false z = same_self c

pub byte_moves : (c : CarriedBytes) (b : LineSet) (byte : ℕ) → is_command b ≡ false → is_data b ≡ true
    → (carried_after_byte c b byte).moved ≡ area_with c.moved byte
byte_moves c b byte e f =
    ap (λ (q : Bool). (if q then record c { command = area_with c.command byte; block = c.block ++ byte ∷ [] }
    else if is_data b then record c { moved = area_with c.moved byte }
    else if is_status_phase b then record c { status = area_with c.status byte } else c).moved) e
    ∙ ap (λ (q : Bool). (if q then record c { moved = area_with c.moved byte }
    else if is_status_phase b then record c { status = area_with c.status byte } else c).moved) f

pub byte_story : (b : Story) (l : Link) (d : RowReading) (id : ProcId) → l.item ≡ Some (process id)
    → d.change.before.msg ≡ false → carried_of (story_after_byte b l d).carried id
    ≡ carried_after_byte (carried_of b.carried id) d.change.before (d.change.after.data_bits % 256)
byte_story b l d id e f = ap (λ (q : Bool). carried_of
    (if q then b else story_with_carried b (carried_after_byte_if (carried_if b l.item) d)).carried id) f
    ∙ ap
    (λ (x : Option Item). carried_of (story_with_carried b (carried_after_byte_if (carried_if b x) d)).carried id) e
    ∙ put_own b.carried (carried_after_byte (carried_of b.carried id) d.change.before (d.change.after.data_bits % 256))
    id (byte_id (carried_of b.carried id) d.change.before (d.change.after.data_bits % 256) ∙ carried_id b.carried id)

pub message_byte : (b : Story) (l : Link) (d : RowReading) → d.change.before.msg ≡ true → story_after_byte b l d ≡ b
message_byte b l d f =
    ap (λ (q : Bool). if q then b else story_with_carried b (carried_after_byte_if (carried_if b l.item) d)) f

-- ---- a message to the target

pub out_story : (b : Story) (l : Link) (m : MsgOut) (id : ProcId) → OnUndo (λ (u : CarriedBytes). u.id ≡ id) l.undo
    → carried_of (story_after_out b l (Some m)).carried id
    ≡ or_undone (is_parity_error m) l.undo (carried_of b.carried id)
out_story b l m id own = go (is_parity_error m) l.undo own
  where
    go : (q : Bool) (u : Option CarriedBytes) → OnUndo (λ (v : CarriedBytes). v.id ≡ id) u
        → carried_of (story_with_carried (record b { link = Some (record l { last = last_out m l }) })
        (if q then u else None)).carried id ≡ or_undone q u (carried_of b.carried id)
    go false u e = refl
    go true None e = refl
    go true (Some v) e = put_own b.carried v id e

-- ---- a message to the initiator

-- The story before it is told: the process that it has just named has its pointers restored.
abbrev pub named_story : Story → Option Item → Option Item → Story
named_story b item next = if is_none item then story_with_restored b next else b

abbrev told_link : Story → Link → Link → MsgIn → Link
told_link b l next m = record next { last = last_in m; before = l.last; undo = carried_if b l.item }

told : (b : Story) (l : Link) (m : MsgIn) (id : ProcId) → l.item ≡ Some (process id) → (s : ScenarioValue)
    → carried_of (story_after_message s b l m).carried id ≡ carried_after_message (carried_of b.carried id) m
told b l m id e s = ap (λ (x : Option Item). carried_of
    (story_with_carried (record b { link = Some l }) (carried_after_message_if (carried_if b x) m)).carried id) e
    ∙ put_own b.carried (carried_after_message (carried_of b.carried id) m) id
    (message_id (carried_of b.carried id) m ∙ carried_id b.carried id)

untold : (b : Story) (l : Link) (m : MsgIn) (id : ProcId) → l.item ≡ None
    → (s : ScenarioValue) → carried_of (story_after_message s b l m).carried id ≡ carried_of b.carried id
untold b l m id e s = ap (λ (x : Option Item). carried_of
    (story_with_carried (record b { link = Some l }) (carried_after_message_if (carried_if b x) m)).carried id) e

-- The process was known, and still is.
pub in_known : (s : ScenarioValue) (b : Story) (l : Link) (m : MsgIn) (id : ProcId)
    → l.item ≡ Some (process id) → (link_after_name b.sent s.commands l m).item ≡ Some (process id)
    → carried_of (story_after_in s b l (Some m)).carried id ≡ carried_after_message (carried_of b.carried id) m
in_known s b l m id e f = ap (λ (x : Option Item). carried_of
    (story_after_message s (named_story b x (link_after_name b.sent s.commands l m).item)
    (told_link b l (link_after_name b.sent s.commands l m) m) m).carried id) e
    ∙ told b (told_link b l (link_after_name b.sent s.commands l m) m) m id f s

-- A name finds it no more.
pub in_unknown : (s : ScenarioValue) (b : Story) (l : Link) (m : MsgIn) (id : ProcId)
    → l.item ≡ Some (process id) → (link_after_name b.sent s.commands l m).item ≡ None
    → carried_of (story_after_in s b l (Some m)).carried id ≡ carried_of b.carried id
in_unknown s b l m id e f = ap (λ (x : Option Item). carried_of
    (story_after_message s (named_story b x (link_after_name b.sent s.commands l m).item)
    (told_link b l (link_after_name b.sent s.commands l m) m) m).carried id) e
    ∙ untold b (told_link b l (link_after_name b.sent s.commands l m) m) m id f s

-- None is known, before it and after it.
pub in_none : (s : ScenarioValue) (b : Story) (l : Link) (m : MsgIn) (id : ProcId)
    → l.item ≡ None → (link_after_name b.sent s.commands l m).item ≡ None
    → carried_of (story_after_in s b l (Some m)).carried id ≡ carried_of b.carried id
in_none s b l m id e f = (λ i. carried_of (story_after_message s (named_story b (e i) (f i))
    (told_link b l (link_after_name b.sent s.commands l m) m) m).carried id)
    ∙ untold b (told_link b l (link_after_name b.sent s.commands l m) m) m id f s

-- It is named with it.
pub in_found : (s : ScenarioValue) (b : Story) (l : Link) (m : MsgIn) (id : ProcId)
    → l.item ≡ None → (link_after_name b.sent s.commands l m).item ≡ Some (process id)
    → carried_of (story_after_in s b l (Some m)).carried id
    ≡ carried_after_message (with_restored_pointers (carried_of b.carried id)) m
in_found s b l m id e f = (λ i. carried_of (story_after_message s (named_story b (e i) (f i))
    (told_link b l (link_after_name b.sent s.commands l m) m) m).carried id)
    ∙ told (story_with_restored b (Some (process id)))
    (told_link b l (link_after_name b.sent s.commands l m) m) m id f s
    ∙ ap (λ (x : CarriedBytes). carried_after_message x m)
    (put_own b.carried (with_restored_pointers (carried_of b.carried id)) id (carried_id b.carried id))

pub in_link : (s : ScenarioValue) (b : Story) (l : Link) (m : MsgIn) → (story_after_in s b l (Some m)).link ≡ Some
    (record (link_after_name b.sent s.commands l m) { last = last_in m; before = l.last; undo = carried_if b l.item })
in_link s b l m = carried_link (record (named_story b l.item (link_after_name b.sent s.commands l m).item) {
  link = Some (told_link b l (link_after_name b.sent s.commands l m) m);
}) (carried_after_message_if (carried_if (named_story b l.item (link_after_name b.sent s.commands l m).item)
    (link_after_name b.sent s.commands l m).item) m)

-- ---- other processes

abbrev pub IsNot : ProcId → Option Item → Type 0
IsNot id item = (x : ProcId) → item ≡ Some (process x) → same_id x id ≡ false

put_not : (b : Story) (o : Option CarriedBytes) (id : ProcId)
    → ((y : CarriedBytes) → o ≡ Some y → same_id y.id id ≡ false)
    → carried_of (story_with_carried b o).carried id ≡ carried_of b.carried id
put_not b None id h = refl
put_not b (Some y) id h =
    carried_with b.carried y id ∙ ap (λ (q : Bool). if q then y else carried_of b.carried id) (h y refl)

if_not : (b : Story) (id : ProcId) (item : Option Item) (f : CarriedBytes → CarriedBytes)
    → ((c : CarriedBytes) → (f c).id ≡ c.id) → IsNot id item → (y : CarriedBytes) → (z : CarriedBytes)
    → carried_if b item ≡ Some z → Some (f z) ≡ Some y → same_id y.id id ≡ false
if_not b id None f g h y z e w = none_some z e
if_not b id (Some (abort n)) f g h y z e w = none_some z e
if_not b id (Some (process x)) f g h y z e w =
    let is : y.id ≡ x = ap (λ (c : CarriedBytes). c.id) (sym (same_Some (f z) y w)) ∙ g z
    ∙ ap (λ (c : CarriedBytes). c.id) (sym (same_Some (carried_of b.carried x) z e)) ∙ carried_id b.carried x in
    ap (λ (i : ProcId). same_id i id) is ∙ h x refl

pub byte_other : (b : Story) (l : Link) (d : RowReading) (id : ProcId) → IsNot id l.item
    → carried_of (story_after_byte b l d).carried id ≡ carried_of b.carried id
byte_other b l d id h = go d.change.before.msg
  where
    by : (o : Option CarriedBytes) → carried_if b l.item ≡ o → (y : CarriedBytes) → carried_after_byte_if o d ≡ Some y
        → same_id y.id id ≡ false
    by None e y w = none_some y w
    by (Some z) e y w = if_not b id l.item (λ c. carried_after_byte c d.change.before (d.change.after.data_bits % 256))
        (λ c. byte_id c d.change.before (d.change.after.data_bits % 256)) h y z e w

    go : (q : Bool)
        → carried_of (if q then b else story_with_carried b (carried_after_byte_if (carried_if b l.item) d)).carried id
        ≡ carried_of b.carried id
    go true = refl
    go false = put_not b (carried_after_byte_if (carried_if b l.item) d) id (by (carried_if b l.item) refl)

pub out_other : (b : Story) (l : Link) (m : MsgOut) (id : ProcId)
    → ((u : CarriedBytes) → l.undo ≡ Some u → same_id u.id id ≡ false)
    → carried_of (story_after_out b l (Some m)).carried id ≡ carried_of b.carried id
out_other b l m id h = put_not (record b { link = Some (record l { last = last_out m l }) })
    (if is_parity_error m then l.undo else None) id (go (is_parity_error m))
  where
    go : (q : Bool) → (y : CarriedBytes) → (if q then l.undo else None) ≡ Some y → same_id y.id id ≡ false
    go true y e = h y e
    go false y e = none_some y e

restored_other : (b : Story) (item : Option Item) (id : ProcId) → IsNot id item
    → carried_of (story_with_restored b item).carried id ≡ carried_of b.carried id
restored_other b None id h = refl
restored_other b (Some (abort n)) id h = refl
restored_other b (Some (process x)) id h =
    put_other b.carried (with_restored_pointers (carried_of b.carried x)) x id (carried_id b.carried x) (h x refl)

pub in_other : (s : ScenarioValue) (b : Story) (l : Link) (m : MsgIn) (id : ProcId)
    → IsNot id (link_after_name b.sent s.commands l m).item
    → carried_of (story_after_in s b l (Some m)).carried id ≡ carried_of b.carried id
in_other s b l m id h = put_not (record (named_story b l.item next) {
  link = Some (told_link b l (link_after_name b.sent s.commands l m) m);
}) (carried_after_message_if (carried_if (named_story b l.item next) next) m) id
    (by (carried_if (named_story b l.item next) next) refl) ∙ go (is_none l.item)
  where
    next : Option Item
    next = (link_after_name b.sent s.commands l m).item

    by : (o : Option CarriedBytes) → carried_if (named_story b l.item next) next ≡ o
        → (y : CarriedBytes) → carried_after_message_if o m ≡ Some y → same_id y.id id ≡ false
    by None e y w = none_some y w
    by (Some z) e y w =
        if_not (named_story b l.item next) id next (λ c. carried_after_message c m) (λ c. message_id c m) h y z e w

    go : (q : Bool) → carried_of (if q then story_with_restored b next else b).carried id ≡ carried_of b.carried id
    go true = restored_other b next id h
    go false = refl

-- What a row of a connection makes of the block that a process has taken, and of what MESSAGE PARITY ERROR would bring
-- back.
use Rattle.story_laws.proofs
use proofs.Names.{ℕ, ◌≡◌, Bool, true, false, ◌∙◌, List, [], ◌∷◌, ◌++◌, Option, Some, None, refl, sym, ap, subst, ◌%◌}
use proofs.Names.{if◌then◌else◌, is_some, is_none, Event, ProcId, LineSet, is_command, is_data, receiver_in, Kind}
use proofs.Names.{Drives, Fault, Row, Change, Connection, PARITY_ERROR, INITIATOR_DETECTED_ERROR, MsgIn, MsgOut}
use proofs.Names.{ScenarioValue, same_id, carried_id, carried_with, ends_keep, check_keeps, carried_link, message_id}
use proofs.Names.{RowReading, row_reading, CarriedBytes, carried_of, with_carried, with_restored_pointers}
use proofs.Names.{carried_after_message, carried_after_byte, carried_after_fault, is_status_phase, area_with}
use proofs.Names.{carried_if, row_events_by, Item, process, abort, Link, link_after_name, last_in, last_out, Story}
use proofs.Names.{by_abort, by_reset, is_aborted, is_sense_stopped, marked_refused, marked_shown, story_with_end}
use proofs.Names.{story_after_event, story_after_events, story_with_restored, story_with_carried, is_parity_error}
use proofs.Names.{story_after_out, carried_after_message_if, story_after_in, carried_after_byte_if, story_after_byte}
use proofs.Names.{carried_after_fault_if, story_after_fault, story_after_crossing, story_in_connection, story_on_bus}
use proofs.Names.{story_by_change, RunState, run_state_after, reading_is, id_is, self_id, IsRowIn, reading_in}
use proofs.Commands.Counts.{is_refusal}

abbrev pub block_in : Story → ProcId → List ℕ
block_in b id = (carried_of b.carried id).block

abbrev pub undo_of : Option Link → Option CarriedBytes
undo_of None = None
undo_of (Some l) = l.undo

-- ---- one is put in the list

put_block : (all : List CarriedBytes) (c : CarriedBytes) (id : ProcId) (q : List ℕ → Type 0)
    → (c.id ≡ id → q c.block) → q (carried_of all id).block → q (carried_of (with_carried all c) id).block
put_block all c id q own other =
    subst (λ (x : CarriedBytes). q x.block) (sym (carried_with all c id)) (go (same_id c.id id) refl)
  where
    go : (r : Bool) → same_id c.id id ≡ r → q (if r then c else carried_of all id).block
    go true e = own (id_is c.id id e)
    go false e = other

-- Only flags change.
put_flags : (all : List CarriedBytes) (c : CarriedBytes) (x id : ProcId) → c.id ≡ x → c.block ≡ (carried_of all x).block
    → (carried_of (with_carried all c) id).block ≡ (carried_of all id).block
put_flags all c x id ex eb = put_block all c id (λ bytes. bytes ≡ (carried_of all id).block)
    (λ e. eb ∙ ap (λ (y : ProcId). (carried_of all y).block) (sym ex ∙ e)) refl

put_own_block : (all : List CarriedBytes) (c : CarriedBytes) (id : ProcId) → c.id ≡ id
    → (carried_of (with_carried all c) id).block ≡ c.block
put_own_block all c id e = ap (λ (x : CarriedBytes). x.block) (carried_with all c id
    ∙ ap (λ (q : Bool). if q then c else carried_of all id) (ap (λ (x : ProcId). same_id x id) e ∙ self_id id))

-- ---- events

event_block : (s : ScenarioValue) (b : Story) (event : Event) (id : ProcId)
    → block_in (story_after_event s b event) id ≡ block_in b id
event_block s b (Event.Accept x) id = refl
event_block s b (Event.Refuse x) id =
    put_flags b.carried (marked_refused (carried_of b.carried x)) x id (carried_id b.carried x) refl
event_block s b (Event.Run x) id =
    put_flags b.carried (marked_shown (carried_of b.carried x)) x id (carried_id b.carried x) refl
event_block s b (Event.Fail x code) id =
    put_flags b.carried (marked_shown (carried_of b.carried x)) x id (carried_id b.carried x) refl
event_block s b (Event.End x status) id =
    ap (λ (all : List CarriedBytes). (carried_of all id).block) (check_keeps (story_with_end b x _) x status).0
event_block s b (Event.Lost x) id = refl
event_block s b (Event.Aborted host target unit what) id = ap (λ (all : List CarriedBytes). (carried_of all id).block)
    (ends_keep (is_aborted host target unit what) (is_sense_stopped host target unit what) by_abort 1 s.commands b).0
event_block s b (Event.Reset dev) id = ap (λ (all : List CarriedBytes). (carried_of all id).block)
    (ends_keep (λ c. true) (λ c. true) by_reset 1 s.commands b).0

pub events_block : (s : ScenarioValue) (b : Story) (shown : List Event) (id : ProcId)
    → block_in (story_after_events s b shown) id ≡ block_in b id
events_block s b [] id = refl
events_block s b (event ∷ shown) id = event_block s (story_after_events s b shown) event id ∙ events_block s b shown id

-- A row of a connection.
pub block_after :
    (s : ScenarioValue) (k : RunState) (row : Row) (n : Connection) (c : Change) (now : Bool) (id : ProcId)
    → IsRowIn k row n c → is_some (receiver_in n c) ≡ now → block_in (run_state_after s k row).story id
    ≡ block_in (story_in_connection s k.story k.story.link (reading_in k.story.bus_state n c now) row) id
block_after s k row n c now id h e =
    let d = reading_is k row n c now h e in
    events_block s (story_by_change s k.story (row_reading k.story.bus_state row) row)
    (row_events_by s k.story (row_reading k.story.bus_state row) row) id
    ∙ ap (λ (x : RowReading). block_in (story_by_change s k.story x row) id) d
    ∙ ap (λ (q : Bool). block_in (if q then record k.story { link = None }
    else story_on_bus s k.story k.story.bus_state.connection (Some n) (reading_in k.story.bus_state n c now) row) id)
    h.calm
    ∙ ap (λ (x : Option Connection). block_in
    (story_on_bus s k.story x (Some n) (reading_in k.story.bus_state n c now) row) id) h.connection_is

-- ---- no byte crosses

no_flags : (b : Story) (item : Option Item) (c : Option Change) (id : ProcId)
    → block_in (story_with_carried b (carried_after_fault_if (carried_if b item) c)) id ≡ block_in b id
no_flags b None c id = refl
no_flags b (Some (abort x)) c id = refl
no_flags b (Some (process x)) None id = put_flags b.carried (carried_of b.carried x) x id (carried_id b.carried x) refl
no_flags b (Some (process x)) (Some c) id = put_flags b.carried
    (carried_after_fault (carried_of b.carried x) c.before) x id (flags.0 ∙ carried_id b.carried x) flags.1
  where
    flags : ((carried_after_fault (carried_of b.carried x) c.before).id ≡ (carried_of b.carried x).id)
        × ((carried_after_fault (carried_of b.carried x) c.before).block ≡ (carried_of b.carried x).block)
    flags = go (is_command c.before) (is_data c.before) (carried_of b.carried x)
      where
        go : (q r : Bool) (y : CarriedBytes)
            → ((if q then record y { struck = true; failure = Some PARITY_ERROR } else if r then record y {
              failure = Some (if c.before.io then INITIATOR_DETECTED_ERROR else PARITY_ERROR);
            } else y).id ≡ y.id)
            × ((if q then record y { struck = true; failure = Some PARITY_ERROR } else if r then record y {
              failure = Some (if c.before.io then INITIATOR_DETECTED_ERROR else PARITY_ERROR);
            } else y).block ≡ y.block)
        go true r y = (refl, refl)
        go false true y = (refl, refl)
        go false false y = (refl, refl)

pub quiet_block : (s : ScenarioValue) (b : Story) (l : Option Link) (d : RowReading) (row : Row) (id : ProcId)
    → d.crosses ≡ false → block_in (story_in_connection s b l d row) id ≡ block_in b id
quiet_block s b None d row id e = refl
quiet_block s b (Some l) d row id e =
    ap (λ (q : Bool). block_in (if q then story_after_crossing s b l d else story_after_fault b l row.kind) id) e
    ∙ go row.kind
  where
    go : (kind : Kind) → block_in (story_after_fault b l kind) id ≡ block_in b id
    go (Drives lines) = refl
    go (Fault bit) = no_flags b l.item b.bus_state.crossed id

pub quiet_link : (s : ScenarioValue) (b : Story) (l : Option Link) (d : RowReading) (row : Row) → d.crosses ≡ false
    → (story_in_connection s b l d row).link ≡ b.link
quiet_link s b None d row e = refl
quiet_link s b (Some l) d row e =
    ap (λ (q : Bool). (if q then story_after_crossing s b l d else story_after_fault b l row.kind).link) e ∙ go row.kind
  where
    go : (kind : Kind) → (story_after_fault b l kind).link ≡ b.link
    go (Drives lines) = refl
    go (Fault bit) = carried_link b (carried_after_fault_if (carried_if b l.item) b.bus_state.crossed)

-- ---- a byte of MESSAGE OUT

pub out_block : (b : Story) (l : Link) (m : Option MsgOut) (id : ProcId) (q : List ℕ → Type 0)
    → ((c : CarriedBytes) → l.undo ≡ Some c → q c.block) → q (block_in b id) → q (block_in (story_after_out b l m) id)
out_block b l None id q undo here = here
out_block b l (Some m) id q undo here = go (is_parity_error m) l.undo refl
  where
    c : Story
    c = record b { link = Some (record l { last = last_out m l }) }

    go : (r : Bool) (u : Option CarriedBytes) → l.undo ≡ u
        → q (block_in (story_with_carried c (if r then u else None)) id)
    go false u e = here
    go true None e = here
    go true (Some x) e = put_block b.carried x id q (λ z. undo x e) here

-- Without MESSAGE PARITY ERROR nothing is.
pub said_block : (b : Story) (l : Link) (m : Option MsgOut) (id : ProcId) → is_refusal m ≡ false
    → block_in (story_after_out b l m) id ≡ block_in b id
said_block b l None id e = refl
said_block b l (Some m) id e = ap (λ (r : Bool). block_in
    (story_with_carried (record b { link = Some (record l { last = last_out m l }) }) (if r then l.undo else None)) id)
    e

pub out_undo : (b : Story) (l : Link) (m : Option MsgOut) → b.link ≡ Some l
    → undo_of (story_after_out b l m).link ≡ l.undo
out_undo b l None e = ap undo_of e
out_undo b l (Some m) e = ap undo_of (carried_link (record b { link = Some (record l { last = last_out m l }) })
    (if is_parity_error m then l.undo else None))

-- ---- a byte of MESSAGE IN

message_block : (c : CarriedBytes) (m : MsgIn) (q : List ℕ → Type 0) → q [] → q c.block
    → q (carried_after_message c m).block
message_block c MsgIn.RestorePointers q none here = none
message_block c _ q none here = here

restored_block : (b : Story) (item : Option Item) (id : ProcId) (q : List ℕ → Type 0) → q [] → q (block_in b id)
    → q (block_in (story_with_restored b item) id)
restored_block b None id q none here = here
restored_block b (Some (process x)) id q none here =
    put_block b.carried (with_restored_pointers (carried_of b.carried x)) id q (λ e. none) here
restored_block b (Some (abort x)) id q none here = here

pub restored_own : (b : Story) (id : ProcId) → block_in (story_with_restored b (Some (process id))) id ≡ []
restored_own b id =
    put_own_block b.carried (with_restored_pointers (carried_of b.carried id)) id (carried_id b.carried id)

heard_block : (b : Story) (l : Link) (item : Option Item) (m : MsgIn) (id : ProcId) (q : List ℕ → Type 0)
    → q [] → q (block_in b id)
    → q (block_in (story_with_carried (record b { link = Some l }) (carried_after_message_if (carried_if b item) m)) id)
heard_block b l None m id q none here = here
heard_block b l (Some (abort x)) m id q none here = here
heard_block b l (Some (process x)) m id q none here = put_block b.carried
    (carried_after_message (carried_of b.carried x) m) id q
    (λ e. message_block (carried_of b.carried x) m q none (subst (λ (y : ProcId). q (block_in b y))
    (sym (sym (message_id (carried_of b.carried x) m ∙ carried_id b.carried x) ∙ e)) here)) here

pub in_block : (s : ScenarioValue) (b : Story) (l : Link) (m : Option MsgIn) (id : ProcId) (q : List ℕ → Type 0) → q []
    → q (block_in b id) → q (block_in (story_after_in s b l m) id)
in_block s b l None id q none here = here
in_block s b l (Some m) id q none here = go (is_none l.item)
  where
    next : Link
    next = link_after_name b.sent s.commands l m

    go : (r : Bool) → q (block_in (story_with_carried (record (if r then story_with_restored b next.item else b) {
      link = Some (record next { last = last_in m; before = l.last; undo = carried_if b l.item });
    }) (carried_after_message_if (carried_if (if r then story_with_restored b next.item else b) next.item) m)) id)
    go true = heard_block (story_with_restored b next.item)
        (record next { last = last_in m; before = l.last; undo = carried_if b l.item }) next.item m id q none
        (restored_block b next.item id q none here)
    go false = heard_block b (record next { last = last_in m; before = l.last; undo = carried_if b l.item }) next.item m
        id q none here

-- With RESTORE POINTERS nothing of the block is taken.
pub restores_block : (s : ScenarioValue) (b : Story) (l : Link) (id : ProcId) → l.item ≡ Some (process id)
    → block_in (story_after_in s b l (Some MsgIn.RestorePointers)) id ≡ []
restores_block s b l id e =
    (λ i. block_in (story_with_carried (record (if is_none (e i) then story_with_restored b (e i) else b) {
      link = Some
          (record l { item = e i; last = last_in MsgIn.RestorePointers; before = l.last; undo = carried_if b (e i) });
    }) (carried_after_message_if
    (carried_if (if is_none (e i) then story_with_restored b (e i) else b) (e i)) MsgIn.RestorePointers)) id)
    ∙ put_own_block b.carried (carried_after_message (carried_of b.carried id) MsgIn.RestorePointers) id
    (carried_id b.carried id)

-- What is put back then is what stood before the message.
pub in_undo : (s : ScenarioValue) (b : Story) (l : Link) (m : Option MsgIn) (q : List ℕ → Type 0) → b.link ≡ Some l
    → ((c : CarriedBytes) → l.undo ≡ Some c → q c.block) → ((x : ProcId) → l.item ≡ Some (process x) → q (block_in b x))
    → (c : CarriedBytes) → undo_of (story_after_in s b l m).link ≡ Some c → q c.block
in_undo s b l None q el was here c e = was c (sym (ap undo_of el) ∙ e)
in_undo s b l (Some m) q el was here c e = go l.item refl (sym is ∙ e)
  where
    next : Link
    next = link_after_name b.sent s.commands l m

    is : undo_of (story_after_in s b l (Some m)).link ≡ carried_if b l.item
    is = ap undo_of (carried_link (record (if is_none l.item then story_with_restored b next.item else b) {
      link = Some (record next { last = last_in m; before = l.last; undo = carried_if b l.item });
    }) (carried_after_message_if (carried_if (if is_none l.item then story_with_restored b next.item else b) next.item)
        m))

    no_bytes : (let o : Option CarriedBytes = None in o) ≡ Some c → q c.block
    no_bytes z = absurd cc

    or_bytes : CarriedBytes → Option CarriedBytes → CarriedBytes
    or_bytes y None = y
    or_bytes y (Some z) = z

    go : (item : Option Item) → l.item ≡ item → carried_if b item ≡ Some c → q c.block
    go None f z = no_bytes z
    go (Some (abort x)) f z = no_bytes z
    go (Some (process x)) f z =
        subst (λ (y : CarriedBytes). q y.block) (ap (or_bytes (carried_of b.carried x)) z) (here x f)

-- ---- a byte of COMMAND

byte_block : (c : CarriedBytes) (lines : LineSet) (byte : ℕ) → is_command lines ≡ true
    → ((carried_after_byte c lines byte).id ≡ c.id) × ((carried_after_byte c lines byte).block ≡ c.block ++ byte ∷ [])
byte_block c lines byte e = (
  ap (λ (q : Bool). (if q then record c { command = area_with c.command byte; block = c.block ++ byte ∷ [] }
      else if is_data lines then record c { moved = area_with c.moved byte }
      else if is_status_phase lines then record c { status = area_with c.status byte } else c).id) e,
  ap (λ (q : Bool). (if q then record c { command = area_with c.command byte; block = c.block ++ byte ∷ [] }
      else if is_data lines then record c { moved = area_with c.moved byte }
      else if is_status_phase lines then record c { status = area_with c.status byte } else c).block) e,
)

pub takes_block : (b : Story) (l : Link) (d : RowReading) (id : ProcId)
    → l.item ≡ Some (process id) → is_command d.change.before ≡ true → d.change.before.msg ≡ false
    → block_in (story_after_byte b l d) id ≡ block_in b id ++ d.change.after.data_bits % 256 ∷ []
takes_block b l d id e ec em =
    let w = byte_block (carried_of b.carried id) d.change.before (d.change.after.data_bits % 256) ec in
    (λ i. block_in (if em i then b else story_with_carried b (carried_after_byte_if (carried_if b (e i)) d)) id)
    ∙ put_own_block b.carried (carried_after_byte (carried_of b.carried id) d.change.before
    (d.change.after.data_bits % 256)) id (w.0 ∙ carried_id b.carried id)
    ∙ w.1

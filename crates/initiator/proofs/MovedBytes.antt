-- The bytes of data that each process moved change by a byte of data alone, and by a message taken back.
use Rattle.std.proofs.Common.{ℕ, ◌≡◌, ◌+◌, ◌<◌, ◌≤◌, Bool, true, false, List, [], ◌∷◌, ◌∙◌, refl, sym, subst, arith}
use Rattle.std.proofs.Common.{length, Option, Some, None}
use Rattle.std.specs.Prelude.{if◌then◌else◌, not, ◌&&◌, ◌==◌, ◌++◌, ◌%◌, ⊤, is_some, is_none, nat_lt, slice_set}
use Rattle.std.proofs.lemmas.Bool.Decides.{nat_tests}
use Rattle.std.proofs.lemmas.List.{length-set, length-append}
use Rattle.bus_base.specs.declared.ProcId.{ProcId}
use Rattle.bus_base.specs.declared.Event.{Event}
use Rattle.bus_base.specs.declared.Event.TheVariants as events
use Rattle.cdb_codec.specs.declared.sense.TheConstants.{PARITY_ERROR, INITIATOR_DETECTED_ERROR}
use Rattle.cdb_codec.specs.declared.status.TheConstants.{CHECK_CONDITION}
use Rattle.bus_trace.specs.Phases.{is_data, is_command}
use Rattle.bus_trace.specs.declared.Kind.{Kind}
use Rattle.bus_trace.specs.declared.Kind.TheVariants.{Drives, Fault}
use Rattle.bus_trace.specs.declared.Row.{Row}
use Rattle.bus_trace.specs.declared.changes.Change.{Change}
use Rattle.bus_trace.specs.declared.connection.Connection.{Connection}
use Rattle.bus_trace.specs.Terms.{receiver_of}
use Rattle.msg_grammar.specs.declared.message.MsgOut.{MsgOut}
use Rattle.msg_grammar.specs.declared.message.MsgIn.{MsgIn}
use Rattle.msg_grammar.specs.declared.message.MsgIn.TheVariants as to_initiator
use Rattle.scenario.specs.Value.{ScenarioValue}
use Rattle.due_model.specs.array_model.specs.Processes.{same_id}
use Rattle.bus_phases.specs.declared.dialogue.Dialogue.{Dialogue}
use Rattle.story_model.specs.BusState.{RowReading, row_reading, change_by, message_out, message_in, whole_out, whole_in}
use Rattle.msg_grammar.specs.Messages.{got_out, got_in}
use Rattle.bus_phases.specs.Dialogue.{fresh_bytes}
use Rattle.story_model.specs.CarriedBytes.{Area, CarriedBytes, bytes_with, area_with, carried_of, with_carried}
use Rattle.story_model.specs.CarriedBytes.{with_restored_pointers, carried_after_message, carried_after_fault}
use Rattle.story_model.specs.HistoryEvents.{carried_if}
use Rattle.story_model.specs.Items.{Item, process, abort}
use Rattle.story_model.specs.Links.{Link, link_of, last_out, last_in, link_after_name}
use Rattle.story_model.specs.Story.{Story, by_status, by_abort, by_reset, story_with_end, is_aborted, is_sense_stopped}
use Rattle.story_model.specs.Story.{marked_refused, marked_shown, story_after_event, story_after_events}
use Rattle.story_model.specs.TraceHistory.{aim_of, story_with_restored, story_with_sent, story_after_connection}
use Rattle.story_model.specs.TraceHistory.{story_with_carried, story_after_out, story_after_message, story_after_name}
use Rattle.story_model.specs.TraceHistory.{story_after_in, story_after_byte, story_after_crossing, story_after_fault}
use Rattle.story_model.specs.TraceHistory.{story_in_connection, story_on_bus, story_by_change, is_parity_error}
use Rattle.story_model.specs.TraceHistory.{carried_after_message_if, carried_after_byte_if, carried_after_fault_if}
use Rattle.due_model.specs.RunState.{item_of}
use Rattle.due_model.specs.RunSteps.{run_state, events_of_row}
use Rattle.due_model.specs.Telling.{id_of}
use Rattle.initiator.specs.Received.{undone_by, has_bytes_of}
use Rattle.story_model.proofs.CarriedLists.{carried_id, carried_with}
use Rattle.initiator.proofs.OwnedLinks.{begun_link, name_link}
use Rattle.bus_base.proofs.Tests.{length_more}
use Rattle.story_model.proofs.StorySteps.{byte_link, out_link, events_link, sent_carried, free_carried, message_id}
use Rattle.story_model.proofs.StorySteps.{free_link, fault_link, ends_carried}
use Rattle.story_model.proofs.SameBytes.{bytes_are}
use Rattle.due_model.specs.array_model.proofs.SeatLookups.{same_id_is}

-- ---- no pointer stands past the bytes

pub record IsPlaced (a : Area) : Type 0 where
  pub active : a.active ≤ length a.bytes
  pub saved : a.saved ≤ length a.bytes

pub record ArePlaced (all : List CarriedBytes) : Type 0 where
  pub placed : (id : ProcId) → IsPlaced (carried_of all id).moved

abbrev pub IsPlacedIf : Option CarriedBytes → Type 0
IsPlacedIf None = ⊤
IsPlacedIf (Some k) = IsPlaced k.moved

abbrev pub IsUndoPlaced : Option Link → Type 0
IsUndoPlaced None = ⊤
IsUndoPlaced (Some l) = IsPlacedIf l.undo

-- ---- what becomes of the bytes of each process, where a byte comes to this one, if this test holds

abbrev pub brought : Option ProcId → ProcId → ℕ → Area → List ℕ
brought None id byte a = a.bytes
brought (Some p) id byte a = if same_id p id then bytes_with a.bytes a.active byte else a.bytes

pub record Moves (t : Bool) (p : Option ProcId) (byte : ℕ) (all others : List CarriedBytes) : Type 0 where
  pub bytes :
      t ≡ true → (id : ProcId) → (carried_of others id).moved.bytes ≡ brought p id byte (carried_of all id).moved
  pub placed : ArePlaced all → ArePlaced others

-- None of them changes.
abbrev Stays : Bool → ℕ → List CarriedBytes → List CarriedBytes → Type 0
Stays t byte all others = Moves t None byte all others

stays : (t : Bool) (byte : ℕ) (all : List CarriedBytes) → Stays t byte all all
stays t byte all = record { bytes = λ z id. refl; placed = λ x. x }

followed : (t : Bool) (p : Option ProcId) (byte : ℕ) (all others third : List CarriedBytes) → Moves t p byte all others
    → Stays t byte others third → Moves t p byte all third
followed t p byte all others third x y =
    record { bytes = λ z id. y.bytes z id ∙ x.bytes z id; placed = λ h. y.placed (x.placed h) }

one_placed : (all : List CarriedBytes) (k : CarriedBytes) → ArePlaced all → IsPlaced k.moved
    → ArePlaced (with_carried all k)
one_placed all k x y = record {
  placed = λ id. subst (λ (z : CarriedBytes). IsPlaced z.moved) (sym (carried_with all k id)) (go id (same_id k.id id));
}
  where
    go : (id : ProcId) (q : Bool) → IsPlaced (if q then k else carried_of all id).moved
    go id true = y
    go id false = x.placed id

one_stays : (t : Bool) (byte : ℕ) (all : List CarriedBytes) (k : CarriedBytes)
    → (t ≡ true → k.moved.bytes ≡ (carried_of all k.id).moved.bytes) → (ArePlaced all → IsPlaced k.moved)
    → Stays t byte all (with_carried all k)
one_stays t byte all k same placed = record {
  bytes = λ z id. (λ i. (carried_with all k id i).moved.bytes) ∙ go z id (same_id k.id id) refl;
  placed = λ x. one_placed all k x (placed x);
}
  where
    go : t ≡ true → (id : ProcId) (q : Bool) → same_id k.id id ≡ q
        → (if q then k else carried_of all id).moved.bytes ≡ (carried_of all id).moved.bytes
    go z id true e = same z ∙ (λ i. (carried_of all (same_id_is k.id id e i)).moved.bytes)
    go z id false e = refl

-- What is done to one of them.
op_stays : (t : Bool) (byte : ℕ) (all : List CarriedBytes) (id : ProcId) (k : CarriedBytes)
    → k.id ≡ (carried_of all id).id → k.moved.bytes ≡ (carried_of all id).moved.bytes
    → (IsPlaced (carried_of all id).moved → IsPlaced k.moved) → Stays t byte all (with_carried all k)
op_stays t byte all id k name same placed = one_stays t byte all k
    (λ z. same ∙ (λ i. (carried_of all (sym (name ∙ carried_id all id) i)).moved.bytes)) (λ x. placed (x.placed id))

-- ---- the parts of a row

restored_stays : (t : Bool) (byte : ℕ) (b : Story) (item : Option Item)
    → Stays t byte b.carried (story_with_restored b item).carried
restored_stays t byte b None = stays t byte b.carried
restored_stays t byte b (Some (process id)) = op_stays t byte b.carried id
    (with_restored_pointers (carried_of b.carried id)) refl refl (λ x. record { active = x.saved; saved = x.saved })
restored_stays t byte b (Some (abort n)) = stays t byte b.carried

connection_stays : (t : Bool) (byte : ℕ) (b : Story) (n : Connection)
    → Stays t byte b.carried (story_after_connection b n).carried
connection_stays t byte b n = go n.reselected
  where
    selected : (item : Option Item) → Stays t byte b.carried
        (story_with_restored (story_with_sent (record b { link = Some (link_of n item) }) item) item).carried
    selected None = stays t byte b.carried
    selected (Some item) = restored_stays t byte
        (story_with_sent (record b { link = Some (link_of n (Some item)) }) (Some item)) (Some item)

    go : (q : Bool)
        → Stays t byte b.carried (if q then record b { link = Some (link_of n None) } else story_with_restored
        (story_with_sent (record b { link = Some (link_of n (aim_of b.aims n.initiator)) }) (aim_of b.aims n.initiator))
        (aim_of b.aims n.initiator)).carried
    go true = stays t byte b.carried
    go false = selected (aim_of b.aims n.initiator)

message_bytes : (k : CarriedBytes) (m : MsgIn) → (carried_after_message k m).moved.bytes ≡ k.moved.bytes
message_bytes k to_initiator.SavePointer = refl
message_bytes k to_initiator.RestorePointers = refl
message_bytes k (to_initiator.Identify lun) = refl
message_bytes k (to_initiator.SimpleTag n) = refl
message_bytes k to_initiator.CommandComplete = refl
message_bytes k to_initiator.Disconnect = refl
message_bytes k (to_initiator.Sdtr a) = refl
message_bytes k to_initiator.Reject = refl

message_placed : (k : CarriedBytes) (m : MsgIn) → IsPlaced k.moved → IsPlaced (carried_after_message k m).moved
message_placed k to_initiator.SavePointer x = record { active = x.active; saved = x.active }
message_placed k to_initiator.RestorePointers x = record { active = x.saved; saved = x.saved }
message_placed k (to_initiator.Identify lun) x = x
message_placed k (to_initiator.SimpleTag n) x = x
message_placed k to_initiator.CommandComplete x = x
message_placed k to_initiator.Disconnect x = x
message_placed k (to_initiator.Sdtr a) x = x
message_placed k to_initiator.Reject x = x

message_stays : (s : ScenarioValue) (t : Bool) (byte : ℕ) (b : Story) (l : Link) (m : MsgIn)
    → Stays t byte b.carried (story_after_message s b l m).carried
message_stays s t byte b l m = go l.item
  where
    go : (item : Option Item) → Stays t byte b.carried
        (story_with_carried (record b { link = Some l }) (carried_after_message_if (carried_if b item) m)).carried
    go None = stays t byte b.carried
    go (Some (process id)) =
        let k : CarriedBytes = carried_of b.carried id in
        op_stays t byte b.carried id (carried_after_message k m) (message_id k m) (message_bytes k m)
        (λ x. message_placed k m x)
    go (Some (abort n)) = stays t byte b.carried

name_stays : (s : ScenarioValue) (t : Bool) (byte : ℕ) (b : Story) (l next : Link) (m : MsgIn)
    → Stays t byte b.carried (story_after_name s b l next m).carried
name_stays s t byte b l next m = go (is_none l.item)
  where
    go : (q : Bool) → Stays t byte b.carried (story_after_message s (if q then story_with_restored b next.item else b)
        (record next { last = last_in m; before = l.last; undo = carried_if b l.item }) m).carried
    go true = followed t None byte b.carried (story_with_restored b next.item).carried _
        (restored_stays t byte b next.item) (message_stays s t byte (story_with_restored b next.item)
        (record next { last = last_in m; before = l.last; undo = carried_if b l.item }) m)
    go false =
        message_stays s t byte b (record next { last = last_in m; before = l.last; undo = carried_if b l.item }) m

in_stays : (s : ScenarioValue) (t : Bool) (byte : ℕ) (b : Story) (l : Link) (m : Option MsgIn)
    → Stays t byte b.carried (story_after_in s b l m).carried
in_stays s t byte b l None = stays t byte b.carried
in_stays s t byte b l (Some m) = name_stays s t byte b l (link_after_name b.sent s.commands l m) m

undo_stays : (t : Bool) (byte : ℕ) (b c : Story) (o : Option CarriedBytes)
    → c.carried ≡ b.carried → (t ≡ true → has_bytes_of b.carried o ≡ true) → IsPlacedIf o
    → Stays t byte b.carried (story_with_carried c o).carried
undo_stays t byte b c None e h x =
    subst (λ (z : List CarriedBytes). Stays t byte b.carried z) (sym e) (stays t byte b.carried)
undo_stays t byte b c (Some k) e h x =
    subst (λ (z : List CarriedBytes). Stays t byte b.carried (with_carried z k)) (sym e)
    (one_stays t byte b.carried k (λ z. bytes_are k.moved.bytes (carried_of b.carried k.id).moved.bytes (h z)) (λ y. x))

out_stays : (t : Bool) (byte : ℕ) (b : Story) (l : Link) (m : Option MsgOut)
    → (t ≡ true → has_bytes_of b.carried (undone_by (Some l) m) ≡ true) → IsPlacedIf l.undo
    → Stays t byte b.carried (story_after_out b l m).carried
out_stays t byte b l None h x = stays t byte b.carried
out_stays t byte b l (Some m) h x = undo_stays t byte b (record b { link = Some (record l { last = last_out m l }) })
    (if is_parity_error m then l.undo else None) refl h (go (is_parity_error m))
  where
    go : (q : Bool) → IsPlacedIf (if q then l.undo else None)
    go true = x
    go false = tt

fault_stays : (t : Bool) (byte : ℕ) (b : Story) (l : Link) (k : Kind)
    → Stays t byte b.carried (story_after_fault b l k).carried
fault_stays t byte b l (Drives lines) = stays t byte b.carried
fault_stays t byte b l (Fault bit) = go l.item b.bus_state.crossed
  where
    struck : (id : ProcId) (c : Change)
        → Stays t byte b.carried (with_carried b.carried (carried_after_fault (carried_of b.carried id) c.before))
    struck id c = by_phase (is_command c.before) (is_data c.before)
      where
        by_phase : (p q : Bool) → Stays t byte b.carried (with_carried b.carried
            (if p then record (carried_of b.carried id) { struck = true; failure = Some PARITY_ERROR }
            else if q then record (carried_of b.carried id) {
              failure = Some (if c.before.io then INITIATOR_DETECTED_ERROR else PARITY_ERROR);
            } else carried_of b.carried id))
        by_phase true q = op_stays t byte b.carried id _ refl refl (λ x. record { active = x.active; saved = x.saved })
        by_phase false true =
            op_stays t byte b.carried id _ refl refl (λ x. record { active = x.active; saved = x.saved })
        by_phase false false = op_stays t byte b.carried id _ refl refl (λ x. x)

    go : (item : Option Item) (c : Option Change)
        → Stays t byte b.carried (story_with_carried b (carried_after_fault_if (carried_if b item) c)).carried
    go None c = stays t byte b.carried
    go (Some (process id)) None = op_stays t byte b.carried id (carried_of b.carried id) refl refl (λ x. x)
    go (Some (process id)) (Some c) = struck id c
    go (Some (abort n)) c = stays t byte b.carried

-- ---- a byte

area_placed : (a : Area) (byte : ℕ) → IsPlaced a → IsPlaced (area_with a byte)
area_placed a byte x = go (nat_lt a.active (length a.bytes)) refl
  where
    go : (q : Bool) → nat_lt a.active (length a.bytes) ≡ q → IsPlaced (record a {
      bytes =
          if q then slice_set a.bytes a.active byte else a.bytes ++ byte ∷ [];
      active = a.active + 1;
    })
    go true e =
        let below : a.active < length a.bytes = grind (arith, nat_tests) in
        let same = length-set a.bytes a.active byte in
        let saved = x.saved in
        record { active = omega arith; saved = omega arith }
    go false e =
        let more = length_more a.bytes byte in
        let saved = x.saved in
        let active = x.active in
        record { active = omega arith; saved = omega arith }

data_moves : (t : Bool) (byte : ℕ) (all : List CarriedBytes) (id : ProcId) → Moves t (Some id) byte all
    (with_carried all (record (carried_of all id) { moved = area_with (carried_of all id).moved byte }))
data_moves t byte all id = record {
  bytes = λ z other. (λ i. (carried_with all
      (record (carried_of all id) { moved = area_with (carried_of all id).moved byte }) other i).moved.bytes)
      ∙ (λ i. (if same_id (carried_id all id i) other then record (carried_of all id) {
        moved = area_with (carried_of all id).moved byte;
      } else carried_of all other).moved.bytes) ∙ go other (same_id id other) refl;
  placed = λ h. one_placed all (record (carried_of all id) { moved = area_with (carried_of all id).moved byte }) h
      (area_placed (carried_of all id).moved byte (h.placed id));
}
  where
    go : (other : ProcId) (q : Bool) → same_id id other ≡ q
        → (if q then record (carried_of all id) { moved = area_with (carried_of all id).moved byte }
        else carried_of all other).moved.bytes
        ≡ (if q then bytes_with (carried_of all other).moved.bytes (carried_of all other).moved.active byte
        else (carried_of all other).moved.bytes)
    go other true e = λ i. bytes_with (carried_of all (same_id_is id other e i)).moved.bytes
        (carried_of all (same_id_is id other e i)).moved.active byte
    go other false e = refl

-- What a byte brings in the phase of lines with this MSG, C/D and I/O.
byte_by : CarriedBytes → ℕ → Bool → Bool → Bool → CarriedBytes
byte_by k byte msg cd io =
    if not msg && cd && not io then record k { command = area_with k.command byte; block = k.block ++ byte ∷ [] }
    else if not msg && not cd then record k { moved = area_with k.moved byte }
    else if not msg && cd && io then record k { status = area_with k.status byte }
    else k

process_byte : (t : Bool) (byte : ℕ) (all : List CarriedBytes) (id : ProcId) (msg cd io : Bool)
    → Moves t (if not msg && not cd then Some id else None) byte all
    (if msg then all else with_carried all (byte_by (carried_of all id) byte msg cd io))
unfolding byte_by
process_byte t byte all id true cd io = stays t byte all
process_byte t byte all id false true true = op_stays t byte all id _ refl refl (λ x. x)
process_byte t byte all id false true false = op_stays t byte all id _ refl refl (λ x. x)
process_byte t byte all id false false io = data_moves t byte all id

byte_moves : (t : Bool) (b : Story) (l : Link) (d : RowReading)
    → Moves t (if is_data d.change.before then id_of l.item else None) (d.change.after.data_bits % 256) b.carried
    (story_after_byte b l d).carried
unfolding byte_by
byte_moves t b l d = go l.item
  where
    split : (id : ProcId) (msg : Bool) → Moves t (if not msg && not d.change.before.cd then Some id else None)
        (d.change.after.data_bits % 256) b.carried (if msg then b.carried else with_carried b.carried
        (byte_by (carried_of b.carried id) (d.change.after.data_bits % 256) msg d.change.before.cd d.change.before.io))
        → Moves t (if not msg && not d.change.before.cd then Some id else None)
        (d.change.after.data_bits % 256) b.carried (if msg then b else record b {
          carried = with_carried b.carried (byte_by (carried_of b.carried id)
              (d.change.after.data_bits % 256) msg d.change.before.cd d.change.before.io);
        }).carried
    split id true x = x
    split id false x = x

    none : (q msg : Bool)
        → Moves t (if q then None else None) (d.change.after.data_bits % 256) b.carried (if msg then b else b).carried
    none true true = stays t _ b.carried
    none true false = stays t _ b.carried
    none false true = stays t _ b.carried
    none false false = stays t _ b.carried

    go : (item : Option Item)
        → Moves t (if is_data d.change.before then id_of item else None) (d.change.after.data_bits % 256) b.carried
        (if d.change.before.msg then b else story_with_carried b (carried_after_byte_if (carried_if b item) d)).carried
    go None = none (is_data d.change.before) d.change.before.msg
    go (Some (process id)) = split id d.change.before.msg (process_byte t
        (d.change.after.data_bits % 256) b.carried id d.change.before.msg d.change.before.cd d.change.before.io)
    go (Some (abort n)) = none (is_data d.change.before) d.change.before.msg

-- ---- in a connection

-- What is asked of a reading: no message is whole as a byte of data crosses, and nothing crosses without a connection.
pub record IsReading (b : Story) (d : RowReading) : Type 0 where
  pub no_out : is_some d.out ≡ true → is_data d.change.before ≡ false
  pub no_in : is_some d.into ≡ true → is_data d.change.before ≡ false
  pub idle : b.bus_state.connection ≡ None → d.crosses ≡ false

crossing_moves : (s : ScenarioValue) (t : Bool) (b : Story) (l : Link) (d : RowReading) → IsReading b d
    → (t ≡ true → has_bytes_of b.carried (undone_by (Some l) d.out) ≡ true) → IsPlacedIf l.undo
    → Moves t (if is_data d.change.before then id_of l.item else None) (d.change.after.data_bits % 256) b.carried
    (story_after_crossing s b l d).carried
crossing_moves s t b l d reads h x = go (is_some d.out) refl (is_some d.into) refl
  where
    dataless : (others : List CarriedBytes) → is_data d.change.before ≡ false
        → Stays t (d.change.after.data_bits % 256) b.carried others
        → Moves t (if is_data d.change.before then id_of l.item else None)
        (d.change.after.data_bits % 256) b.carried others
    dataless others e y = subst (λ (q : Bool). Moves t (if q then id_of l.item else None)
        (d.change.after.data_bits % 256) b.carried others) (sym e) y

    go : (p : Bool) → is_some d.out ≡ p → (q : Bool) → is_some d.into ≡ q
        → Moves t (if is_data d.change.before then id_of l.item else None)
        (d.change.after.data_bits % 256) b.carried (if p then story_after_out b l d.out
        else if q then story_after_in s b l d.into else story_after_byte b l d).carried
    go true e q f = dataless _ (reads.no_out e) (out_stays t _ b l d.out h x)
    go false e true f = dataless _ (reads.no_in f) (in_stays s t _ b l d.into)
    go false e false f = byte_moves t b l d

connected_moves : (s : ScenarioValue) (t : Bool) (b : Story) (l : Option Link) (d : RowReading) (row : Row)
    → IsReading b d → (t ≡ true → has_bytes_of b.carried (undone_by l d.out) ≡ true) → IsUndoPlaced l
    → Moves t (if d.crosses && is_data d.change.before then id_of (item_of l) else None)
    (d.change.after.data_bits % 256) b.carried (story_in_connection s b l d row).carried
connected_moves s t b None d row reads h x = go (d.crosses && is_data d.change.before)
  where
    go : (q : Bool) → Moves t (if q then None else None) (d.change.after.data_bits % 256) b.carried b.carried
    go true = stays t _ b.carried
    go false = stays t _ b.carried
connected_moves s t b (Some l) d row reads h x = go d.crosses
  where
    go : (q : Bool)
        → Moves t (if q && is_data d.change.before then id_of l.item else None) (d.change.after.data_bits % 256)
        b.carried (if q then story_after_crossing s b l d else story_after_fault b l row.kind).carried
    go true = crossing_moves s t b l d reads h x
    go false = fault_stays t _ b l row.kind

-- ---- a row before its events

-- A byte of data crosses, and the connection stays.
abbrev pub brings : RowReading → Bool
brings d = d.crosses && is_data d.change.before && is_some d.next && not d.change.after.rst

change_moves : (s : ScenarioValue) (t : Bool) (b : Story) (d : RowReading) (row : Row) → IsReading b d
    → (t ≡ true → has_bytes_of b.carried (undone_by b.link d.out) ≡ true) → IsUndoPlaced b.link
    → Moves t (if brings d then id_of (item_of b.link) else None) (d.change.after.data_bits % 256) b.carried
    (story_by_change s b d row).carried
change_moves s t b d row reads h x = go d.change.after.rst
  where
    in_reset : (p q r : Bool) → (p && q && r && false) ≡ false
    in_reset true true true = refl
    in_reset true true false = refl
    in_reset true false r = refl
    in_reset false q r = refl

    at_end : (p q : Bool) → (p && q && false && true) ≡ false
    at_end true true = refl
    at_end true false = refl
    at_end false q = refl

    within : (p q : Bool) → (p && q && true && true) ≡ (p && q)
    within true true = refl
    within true false = refl
    within false q = refl

    by : (p q : Bool) (others : List CarriedBytes) → p ≡ q
        → Moves t (if q then id_of (item_of b.link) else None) (d.change.after.data_bits % 256) b.carried others
        → Moves t (if p then id_of (item_of b.link) else None) (d.change.after.data_bits % 256) b.carried others
    by p q others e y = subst (λ (z : Bool). Moves t (if z then id_of (item_of b.link) else None)
        (d.change.after.data_bits % 256) b.carried others) (sym e) y

    on_bus : (m : Option Connection) → b.bus_state.connection ≡ m → (n : Option Connection)
        → Moves t (if d.crosses && is_data d.change.before && is_some n && true then id_of (item_of b.link) else None)
        (d.change.after.data_bits % 256) b.carried (story_on_bus s b m n d row).carried
    on_bus None c None = by (d.crosses && is_data d.change.before && false && true) false _
        (at_end d.crosses (is_data d.change.before))
        (subst (λ (z : List CarriedBytes). Stays t (d.change.after.data_bits % 256) b.carried z)
        (sym (free_carried s b d row)) (stays t _ b.carried))
    on_bus None c (Some n) = by (d.crosses && is_data d.change.before && true && true) false _
        (λ i. reads.idle c i && is_data d.change.before && true && true) (connection_stays t _ b n)
    on_bus (Some m) c None = by (d.crosses && is_data d.change.before && false && true) false _
        (at_end d.crosses (is_data d.change.before)) (stays t _ b.carried)
    on_bus (Some m) c (Some n) = by (d.crosses && is_data d.change.before && true && true)
        (d.crosses && is_data d.change.before) _ (within d.crosses (is_data d.change.before))
        (connected_moves s t b b.link d row reads h x)

    go : (r : Bool) → Moves t
        (if d.crosses && is_data d.change.before && is_some d.next && not r then id_of (item_of b.link) else None)
        (d.change.after.data_bits % 256) b.carried
        (if r then record b { link = None } else story_on_bus s b b.bus_state.connection d.next d row).carried
    go true = by (d.crosses && is_data d.change.before && is_some d.next && false) false _
        (in_reset d.crosses (is_data d.change.before) (is_some d.next)) (stays t _ b.carried)
    go false = on_bus b.bus_state.connection refl d.next

-- ---- events

same_stays : (t : Bool) (byte : ℕ) (all others : List CarriedBytes) → others ≡ all → Stays t byte all others
same_stays t byte all others e = subst (λ (z : List CarriedBytes). Stays t byte all z) (sym e) (stays t byte all)

event_stays : (s : ScenarioValue) (t : Bool) (byte : ℕ) (b : Story) (e : Event)
    → Stays t byte b.carried (story_after_event s b e).carried
event_stays s t byte b (events.Accept id) = stays t byte b.carried
event_stays s t byte b (events.Refuse id) = op_stays t byte b.carried id
    (marked_refused (carried_of b.carried id)) refl refl (λ x. record { active = x.active; saved = x.saved })
event_stays s t byte b (events.Run id) = op_stays t byte b.carried id (marked_shown (carried_of b.carried id)) refl refl
    (λ x. record { active = x.active; saved = x.saved })
event_stays s t byte b (events.Fail id code) = op_stays t byte b.carried id
    (marked_shown (carried_of b.carried id)) refl refl (λ x. record { active = x.active; saved = x.saved })
event_stays s t byte b (events.End id status) =
    same_stays t byte b.carried _ (go (not id.sense && status == CHECK_CONDITION))
  where
    go : (q : Bool) → (if q then record (story_with_end b id (by_status status)) {
      sent = record (story_with_end b id (by_status status)).sent { checks = b.sent.checks ++ id.command ∷ [] };
    } else story_with_end b id (by_status status)).carried ≡ b.carried
    go true = refl
    go false = refl
event_stays s t byte b (events.Lost id) = stays t byte b.carried
event_stays s t byte b (events.Aborted host target unit what) = same_stays t byte b.carried _
    (ends_carried (is_aborted host target unit what) (is_sense_stopped host target unit what) by_abort 1 s.commands b)
event_stays s t byte b (events.Reset dev) =
    same_stays t byte b.carried _ (ends_carried (λ c. true) (λ c. true) by_reset 1 s.commands b)

events_stay : (s : ScenarioValue) (t : Bool) (byte : ℕ) (b : Story) (shown : List Event)
    → Stays t byte b.carried (story_after_events s b shown).carried
events_stay s t byte b [] = stays t byte b.carried
events_stay s t byte b (e ∷ shown) = followed t None byte b.carried (story_after_events s b shown).carried _
    (events_stay s t byte b shown) (event_stays s t byte (story_after_events s b shown) e)

-- ---- the pointers of what a message would bring back

linked_placed : (s : ScenarioValue) (b : Story) (l : Option Link) (d : RowReading) (row : Row) → b.link ≡ l
    → ArePlaced b.carried → IsUndoPlaced l → IsUndoPlaced (story_in_connection s b l d row).link
linked_placed s b None d row e a x = subst (λ (z : Option Link). IsUndoPlaced z) (sym e) tt
linked_placed s b (Some l) d row e a x = go d.crosses
  where
    kept : IsUndoPlaced b.link
    kept = subst (λ (z : Option Link). IsUndoPlaced z) (sym e) x

    out : (m : Option MsgOut) → IsUndoPlaced (story_after_out b l m).link
    out None = kept
    out (Some m) = subst (λ (z : Option Link). IsUndoPlaced z) (sym (out_link b l m)) x

    held : (item : Option Item) → IsPlacedIf (carried_if b item)
    held None = tt
    held (Some (process id)) = a.placed id
    held (Some (abort n)) = tt

    into : (m : Option MsgIn) → IsUndoPlaced (story_after_in s b l m).link
    into None = kept
    into (Some m) = subst (λ (z : Option Link). IsUndoPlaced z)
        (sym (name_link s b l (link_after_name b.sent s.commands l m) m)) (held l.item)

    crossing : (p q : Bool) → IsUndoPlaced (if p then story_after_out b l d.out
        else if q then story_after_in s b l d.into else story_after_byte b l d).link
    crossing true q = out d.out
    crossing false true = into d.into
    crossing false false = subst (λ (z : Option Link). IsUndoPlaced z) (sym (byte_link b l d)) kept

    go : (q : Bool) → IsUndoPlaced (if q then story_after_crossing s b l d else story_after_fault b l row.kind).link
    go true = crossing (is_some d.out) (is_some d.into)
    go false = subst (λ (z : Option Link). IsUndoPlaced z) (sym (fault_link b l row.kind)) kept

begun_placed : (b : Story) (n : Connection) → IsUndoPlaced (story_after_connection b n).link
begun_placed b n = go n.reselected
  where
    go : (q : Bool) → IsUndoPlaced (if q then record b { link = Some (link_of n None) } else story_with_restored
        (story_with_sent (record b { link = Some (link_of n (aim_of b.aims n.initiator)) }) (aim_of b.aims n.initiator))
        (aim_of b.aims n.initiator)).link
    go true = tt
    go false = subst (λ (z : Option Link). IsUndoPlaced z)
        (sym (begun_link b n (link_of n (aim_of b.aims n.initiator)) (aim_of b.aims n.initiator))) tt

change_placed : (s : ScenarioValue) (b : Story) (d : RowReading) (row : Row) → ArePlaced b.carried → IsUndoPlaced b.link
    → IsUndoPlaced (story_by_change s b d row).link
change_placed s b d row a x = go d.change.after.rst
  where
    on_bus : (m n : Option Connection) → IsUndoPlaced (story_on_bus s b m n d row).link
    on_bus None None = subst (λ (z : Option Link). IsUndoPlaced z) (sym (free_link s b d row)) x
    on_bus None (Some n) = begun_placed b n
    on_bus (Some m) None = tt
    on_bus (Some m) (Some n) = linked_placed s b b.link d row refl a x

    go : (q : Bool) → IsUndoPlaced
        (if q then record b { link = None } else story_on_bus s b b.bus_state.connection d.next d row).link
    go true = tt
    go false = on_bus b.bus_state.connection d.next

-- ---- a row

-- A byte of data makes no message whole.
no_message_out : (e : Dialogue) (c : Change) (crosses : Bool) → is_some (message_out e c crosses) ≡ true
    → is_data c.before ≡ false
no_message_out e c false h = cc
no_message_out e c true h = go c.before.msg (whole_out (got_out (fresh_bytes e ++ c.after.data_bits % 256 ∷ []))) h
  where
    go : (q : Bool) (x : Option MsgOut) → is_some (if q && c.before.cd && not c.before.io then x else None) ≡ true
        → (not q && not c.before.cd) ≡ false
    go true x z = refl
    go false x z = cc

no_message_in : (e : Dialogue) (c : Change) (crosses : Bool) → is_some (message_in e c crosses) ≡ true
    → is_data c.before ≡ false
no_message_in e c false h = cc
no_message_in e c true h = go c.before.msg (whole_in (got_in (e.half ++ c.after.data_bits % 256 ∷ []))) h
  where
    go : (q : Bool) (x : Option MsgIn) → is_some (if q && c.before.cd && c.before.io then x else None) ≡ true
        → (not q && not c.before.cd) ≡ false
    go true x z = refl
    go false x z = cc

pub reading_of : (b : Story) (row : Row) → IsReading b (row_reading b.bus_state row)
reading_of b row = record {
  no_out = λ e. no_message_out b.bus_state.dialogue (change_by b.bus_state row)
      (is_some (receiver_of b.bus_state.connection (change_by b.bus_state row))) e;
  no_in = λ e. no_message_in b.bus_state.dialogue (change_by b.bus_state row)
      (is_some (receiver_of b.bus_state.connection (change_by b.bus_state row))) e;
  idle = λ e i. is_some (receiver_of (e i) (change_by b.bus_state row));
}

pub record IsPlacedStory (b : Story) : Type 0 where
  pub all : ArePlaced b.carried
  pub undo : IsUndoPlaced b.link

-- After all rows no data pointer stands past the bytes of data.
pub placed_are : (s : ScenarioValue) (rows : List Row) → IsPlacedStory (run_state s rows).story
placed_are s [] =
    record { all = record { placed = λ id. record { active = omega arith; saved = omega arith } }; undo = tt }
placed_are s (row ∷ rows) =
    let b : Story = (run_state s rows).story in
    let d : RowReading = row_reading b.bus_state row in
    let c : Story = story_by_change s b d row in
    let shown : List Event = events_of_row s rows row in
    let before = placed_are s rows in
    let untested : false ≡ true → has_bytes_of b.carried (undone_by b.link d.out) ≡ true = λ z. no z in
    record {
      all = (events_stay s false (d.change.after.data_bits % 256) c shown).placed
          ((change_moves s false b d row (reading_of b row) untested before.undo).placed before.all);
      undo = subst (λ (z : Option Link). IsUndoPlaced z) (sym (events_link s c shown))
          (change_placed s b d row before.all before.undo);
    }
  where
    no : {x : Bool} → false ≡ true → x ≡ true
    no z = cc

-- What a row makes of the bytes of data, if a message that it takes back took none.
pub row_moves : (s : ScenarioValue) (rows : List Row) (row : Row) → has_bytes_of (run_state s rows).story.carried
    (undone_by (run_state s rows).story.link (row_reading (run_state s rows).story.bus_state row).out) ≡ true
    → Moves true
    (if brings (row_reading (run_state s rows).story.bus_state row) then id_of (item_of (run_state s rows).story.link)
    else None) ((row_reading (run_state s rows).story.bus_state row).change.after.data_bits % 256)
    (run_state s rows).story.carried (run_state s (row ∷ rows)).story.carried
row_moves s rows row h =
    let b : Story = (run_state s rows).story in
    let d : RowReading = row_reading b.bus_state row in
    let c : Story = story_by_change s b d row in
    followed true (if brings d then id_of (item_of b.link) else None) (d.change.after.data_bits % 256)
    b.carried c.carried _ (change_moves s true b d row (reading_of b row) (λ z. h) (placed_are s rows).undo)
    (events_stay s true (d.change.after.data_bits % 256) c (events_of_row s rows row))

-- A command fails only where a byte of it was struck.
use Rattle.book_laws.proofs
use proofs.Names.{ℕ, ◌≡◌, Bool, true, false, List, [], ◌∷◌, ◌++◌, ◌∙◌, refl, sym, subst, Option, Some, None, ◌+◌, not}
use proofs.Names.{◌&&◌, ◌||◌, inl, inr, and_parts, eqb-true, or_right, or_left, cases_Bool, list_any, if◌then◌else◌}
use proofs.Names.{◌==◌, is_some, is_none, nat_lt, all_three, wrong, Event, ProcId, rises, falls, LineSet, is_data}
use proofs.Names.{is_command, changes_phase, is_fault, Kind, Drives, Fault, Row, Change, Connection, Call, Calling}
use proofs.Names.{PARITY_ERROR, INITIATOR_DETECTED_ERROR, CHECK_CONDITION, MsgIn, MsgOut, ScenarioValue, CmdDef}
use proofs.Names.{same_id_is, id_self, same_id, carried_id, RowReading, row_reading, CarriedBytes, nothing_carried}
use proofs.Names.{with_restored_pointers, carried_after_message, carried_after_byte, carried_after_fault}
use proofs.Names.{is_status_phase, is_whole_block, carried_at, carried_or_nothing, carried_of, with_carried, carried_if}
use proofs.Names.{row_events_by, Item, process, abort, sense_item, is_open, count_item, Link, link_of, last_out}
use proofs.Names.{last_in, link_after_name, Story, Ending, by_abort, by_reset, by_status, story_with_over}
use proofs.Names.{story_with_end, with_check, story_with_ends, is_aborted, is_sense_stopped, marked_refused}
use proofs.Names.{marked_shown, story_after_event, story_after_events, story_with_end_if, story, trace_history, aim_of}
use proofs.Names.{retries_of, is_counted, is_parity_error, story_by_change, story_on_bus, story_with_restored}
use proofs.Names.{story_with_carried, same_event, has_event, is_item_of, is_link_of, fails_with, has_failing_byte}
use proofs.Names.{is_strike, has_strike}
use Rattle.due_model.specs.story_model.specs.HistoryEvents
use Rattle.due_model.specs.story_model.specs.TraceHistory

-- ---- what a process has carried: a failure has its fault row

abbrev IsFailure : ScenarioValue → List Row → ProcId → Option ℕ → Type 0
IsFailure s rows id None = Unit {0}
IsFailure s rows id (Some code) = has_strike s rows id code ≡ true

abbrev IsCarried : ScenarioValue → List Row → CarriedBytes → Type 0
IsCarried s rows c = IsFailure s rows c.id c.failure

abbrev AreCarried : ScenarioValue → List Row → List CarriedBytes → Type 0
AreCarried s rows [] = Unit {0}
AreCarried s rows (c ∷ all) = IsCarried s rows c × AreCarried s rows all

abbrev IsCarriedIf : ScenarioValue → List Row → Option CarriedBytes → Type 0
IsCarriedIf s rows None = Unit {0}
IsCarriedIf s rows (Some c) = IsCarried s rows c

abbrev IsUndo : ScenarioValue → List Row → Option Link → Type 0
IsUndo s rows None = Unit {0}
IsUndo s rows (Some l) = IsCarriedIf s rows l.undo

record Struck (s : ScenarioValue) (rows : List Row) (b : Story) : Type 0 where
  carried : AreCarried s rows b.carried
  undo : IsUndo s rows b.link

-- ---- a row more

failure_more : (s : ScenarioValue) (rows : List Row) (row : Row) (id : ProcId) (x : Option ℕ) → IsFailure s rows id x
    → IsFailure s (row ∷ rows) id x
failure_more s rows row id None h = tt
failure_more s rows row id (Some code) h = or_right (is_strike (story s rows) row id code) (has_strike s rows id code) h

carried_more : (s : ScenarioValue) (rows : List Row) (row : Row) (all : List CarriedBytes) → AreCarried s rows all
    → AreCarried s (row ∷ rows) all
carried_more s rows row [] h = tt
carried_more s rows row (c ∷ all) h = (failure_more s rows row c.id c.failure h.0, carried_more s rows row all h.1)

if_more : (s : ScenarioValue) (rows : List Row) (row : Row) (o : Option CarriedBytes) → IsCarriedIf s rows o
    → IsCarriedIf s (row ∷ rows) o
if_more s rows row None h = tt
if_more s rows row (Some c) h = failure_more s rows row c.id c.failure h

undo_more : (s : ScenarioValue) (rows : List Row) (row : Row) (o : Option Link) → IsUndo s rows o
    → IsUndo s (row ∷ rows) o
undo_more s rows row None h = tt
undo_more s rows row (Some l) h = if_more s rows row l.undo h

-- ---- the list of what was carried

with_is : (s : ScenarioValue) (rows : List Row) (all : List CarriedBytes) (x : CarriedBytes) → AreCarried s rows all
    → IsCarried s rows x → AreCarried s rows (with_carried all x)
with_is s rows [] x h c = (c, tt)
with_is s rows (l ∷ all) x h c =
    elim (cases_Bool (same_id l.id x.id)) [ inl e ↦ rw e (c, h.1) | inr e ↦ rw e (h.0, (with_is s rows all x h.1 c)) ]

at_is : (s : ScenarioValue) (rows : List Row) (all : List CarriedBytes) (id : ProcId) → AreCarried s rows all
    → IsCarriedIf s rows (carried_at all id)
at_is s rows [] id h = tt
at_is s rows (c ∷ all) id h =
    elim (cases_Bool (same_id c.id id)) [ inl e ↦ rw e h.0 | inr e ↦ rw e (at_is s rows all id h.1) ]

of_is : (s : ScenarioValue) (rows : List Row) (all : List CarriedBytes) (id : ProcId) → AreCarried s rows all
    → IsCarried s rows (carried_of all id)
of_is s rows all id h = go (carried_at all id) (at_is s rows all id h)
  where
    go : (o : Option CarriedBytes) → IsCarriedIf s rows o → IsCarried s rows (carried_or_nothing o id)
    go None m = tt
    go (Some c) m = m

carried_if_is : (s : ScenarioValue) (rows : List Row) (b : Story) (o : Option Item) → AreCarried s rows b.carried
    → IsCarriedIf s rows (carried_if b o)
carried_if_is s rows b None h = tt
carried_if_is s rows b (Some (process id)) h = of_is s rows b.carried id h
carried_if_is s rows b (Some (abort n)) h = tt

-- ---- parts of a story that neither change what was carried nor the link

record Same (b c : Story) : Type 0 where
  carried : c.carried ≡ b.carried
  link : c.link ≡ b.link

same_struck : (s : ScenarioValue) (rows : List Row) (b c : Story) → Same b c → Struck s rows b → Struck s rows c
same_struck s rows b c e h = record {
  carried = subst (λ (all : List CarriedBytes). AreCarried s rows all) (sym e.carried) h.carried;
  undo = subst (λ (o : Option Link). IsUndo s rows o) (sym e.link) h.undo;
}

same_twice : (a b c : Story) → Same a b → Same b c → Same a c
same_twice a b c x y = record { carried = y.carried ∙ x.carried; link = y.link ∙ x.link }

with_ends_same : (drops stops : CmdDef → Bool) (e : Ending) (m : ℕ) (commands : List CmdDef) (b : Story)
    → Same b (story_with_ends drops stops e m commands b)
with_ends_same drops stops e m [] b = record { carried = refl; link = refl }
with_ends_same drops stops e m (c ∷ commands) b =
    same_twice b next (story_with_ends drops stops e (m + 1) commands next) (go (is_open b.sent m && drops c)
    (stops c && list_any (λ k. k == m) b.sent.checks)) (with_ends_same drops stops e (m + 1) commands next)
  where
    next : Story
    next = story_with_end_if drops stops e m c b

    go : (r q : Bool) → Same b (if r then story_with_end b (record { command = m; sense = false }) e
        else if q then story_with_over b (sense_item m) else b)
    go true q = record { carried = refl; link = refl }
    go false true = record { carried = refl; link = refl }
    go false false = record { carried = refl; link = refl }

try_same : (s : ScenarioValue) (b : Story) (dev : ℕ) (o : Option Item) → Same b (TraceHistory.story_with_try s b dev o)
try_same s b dev None = record { carried = refl; link = refl }
try_same s b dev (Some item) =
    go item (is_counted item && nat_lt (retries_of s.hosts dev) (count_item next.sent.tries item))
  where
    next : Story
    next = record b { sent = record b.sent { tries = item ∷ b.sent.tries } }

    go : (i : Item) (q : Bool) → Same b (if q then TraceHistory.story_without_answer next i else next)
    go (process id) true = record { carried = refl; link = refl }
    go (abort k) true = record { carried = refl; link = refl }
    go i false = record { carried = refl; link = refl }

calling_same : (s : ScenarioValue) (b : Story) (o : Option Call) → Same b (TraceHistory.story_after_calling s b o)
calling_same s b None = record { carried = refl; link = refl }
calling_same s b (Some c) = by c.calling
  where
    by : (o : Option Calling) → Same b (TraceHistory.story_after_calling_by s b c.caller o)
    by None = record { carried = refl; link = refl }
    by (Some x) =
        elim (cases_Bool (is_none x.answered && not x.reselects)) [
          | inl e ↦ rw e (try_same s b c.caller (aim_of b.aims c.caller))
          | inr e ↦ rw e (record { carried = refl; link = refl })
        ]

free_same : (s : ScenarioValue) (b : Story) (d : RowReading) (row : Row)
    → Same b (TraceHistory.story_on_free_bus s b d row)
free_same s b d row = go (TraceHistory.is_arbitration_entry b d) (falls d.change.before.sel d.change.after.sel)
  where
    go : (r q : Bool) → Same b (if r then TraceHistory.story_with_aim s b row
        else if q then TraceHistory.story_after_calling s b b.bus_state.call else b)
    go true q = record { carried = refl; link = refl }
    go false true = calling_same s b b.bus_state.call
    go false false = record { carried = refl; link = refl }

-- ---- a connection begins

restored_struck : (s : ScenarioValue) (rows : List Row) (b : Story) (o : Option Item) → Struck s rows b
    → Struck s rows (story_with_restored b o)
restored_struck s rows b None h = h
restored_struck s rows b (Some (process id)) h = record {
  carried = with_is s rows b.carried (with_restored_pointers (carried_of b.carried id)) h.carried
      (of_is s rows b.carried id h.carried);
  undo = h.undo;
}
restored_struck s rows b (Some (abort k)) h = h

sent_same : (b : Story) (o : Option Item) → Same b (TraceHistory.story_with_sent b o)
sent_same b None = record { carried = refl; link = refl }
sent_same b (Some item) = record { carried = refl; link = refl }

linked_struck : (s : ScenarioValue) (rows : List Row) (b : Story) (n : Connection) → Struck s rows b
    → Struck s rows (TraceHistory.story_after_connection b n)
linked_struck s rows b n h = go n.reselected
  where
    item : Option Item
    item = aim_of b.aims n.initiator

    c : Story
    c = record b { link = Some (link_of n item) }

    go : (q : Bool) → Struck s rows (if q then record b { link = Some (link_of n None) }
        else story_with_restored (TraceHistory.story_with_sent c item) item)
    go true = record { carried = h.carried; undo = tt }
    go false = restored_struck s rows (TraceHistory.story_with_sent c item) item (same_struck s rows c
        (TraceHistory.story_with_sent c item) (sent_same c item) (record { carried = h.carried; undo = tt }))

-- ---- in a connection

with_struck : (s : ScenarioValue) (rows : List Row) (b : Story) (o : Option CarriedBytes) → Struck s rows b
    → IsCarriedIf s rows o → Struck s rows (story_with_carried b o)
with_struck s rows b None h c = h
with_struck s rows b (Some x) h c = record { carried = with_is s rows b.carried x h.carried c; undo = h.undo }

out_struck : (s : ScenarioValue) (rows : List Row) (b : Story) (l : Link) (o : Option MsgOut) → b.link ≡ Some l
    → Struck s rows b → Struck s rows (TraceHistory.story_after_out b l o)
out_struck s rows b l None e h = h
out_struck s rows b l (Some m) e h =
    let undo : IsCarriedIf s rows l.undo = subst (λ (o : Option Link). IsUndo s rows o) e h.undo in
    with_struck s rows (record b { link = Some (record l { last = last_out m l }) })
    (if is_parity_error m then l.undo else None) (record { carried = h.carried; undo = undo })
    (go undo (is_parity_error m))
  where
    go : IsCarriedIf s rows l.undo → (q : Bool) → IsCarriedIf s rows (if q then l.undo else None)
    go undo true = undo
    go undo false = tt

message_is : (s : ScenarioValue) (rows : List Row) (c : CarriedBytes) (m : MsgIn) → IsCarried s rows c
    → IsCarried s rows (carried_after_message c m)
message_is s rows c MsgIn.RestorePointers h = tt
message_is s rows c _ h = h

message_if : (s : ScenarioValue) (rows : List Row) (o : Option CarriedBytes) (m : MsgIn) → IsCarriedIf s rows o
    → IsCarriedIf s rows (TraceHistory.carried_after_message_if o m)
message_if s rows None m h = tt
message_if s rows (Some c) m h = message_is s rows c m h

name_struck : (s : ScenarioValue) (rows : List Row) (b : Story) (l next : Link) (m : MsgIn) → Struck s rows b
    → Struck s rows (TraceHistory.story_after_name s b l next m)
name_struck s rows b l next m h =
    after (if is_none l.item then story_with_restored b next.item else b) (go (is_none l.item))
  where
    go : (q : Bool) → Struck s rows (if q then story_with_restored b next.item else b)
    go true = restored_struck s rows b next.item h
    go false = h

    last : Link
    last = record next { last = last_in m; before = l.last; undo = carried_if b l.item }

    after : (c : Story) → Struck s rows c → Struck s rows (TraceHistory.story_after_message s c last m)
    after c e = with_struck s rows (record c { link = Some last }) (TraceHistory.carried_after_message_if
        (carried_if c next.item) m) (record { carried = e.carried; undo = carried_if_is s rows b l.item h.carried })
        (message_if s rows (carried_if c next.item) m (carried_if_is s rows c next.item e.carried))

in_struck : (s : ScenarioValue) (rows : List Row) (b : Story) (l : Link) (o : Option MsgIn) → Struck s rows b
    → Struck s rows (TraceHistory.story_after_in s b l o)
in_struck s rows b l None h = h
in_struck s rows b l (Some m) h = name_struck s rows b l (link_after_name b.sent s.commands l m) m h

byte_is : (s : ScenarioValue) (rows : List Row) (c : CarriedBytes) (lines : LineSet) (byte : ℕ) → IsCarried s rows c
    → IsCarried s rows (carried_after_byte c lines byte)
byte_is s rows c lines byte h = go (is_command lines) (is_data lines) (is_status_phase lines)
  where
    go : (b q r : Bool) → IsCarried s rows (if b then record c {
      command = Rattle.due_model.specs.story_model.specs.CarriedBytes.area_with c.command byte;
      block = c.block ++ byte ∷ [];
    } else if q then record c { moved = Rattle.due_model.specs.story_model.specs.CarriedBytes.area_with c.moved byte }
        else if r
        then record c { status = Rattle.due_model.specs.story_model.specs.CarriedBytes.area_with c.status byte } else c)
    go true q r = h
    go false true r = h
    go false false true = h
    go false false false = h

byte_if : (s : ScenarioValue) (rows : List Row) (o : Option CarriedBytes) (d : RowReading) → IsCarriedIf s rows o
    → IsCarriedIf s rows (TraceHistory.carried_after_byte_if o d)
byte_if s rows None d h = tt
byte_if s rows (Some c) d h = byte_is s rows c d.change.before _ h

byte_struck : (s : ScenarioValue) (rows : List Row) (b : Story) (l : Link) (d : RowReading) → Struck s rows b
    → Struck s rows (TraceHistory.story_after_byte b l d)
byte_struck s rows b l d h = go d.change.before.msg
  where
    go : (q : Bool) → Struck s rows
        (if q then b else story_with_carried b (TraceHistory.carried_after_byte_if (carried_if b l.item) d))
    go true = h
    go false = with_struck s rows b (TraceHistory.carried_after_byte_if (carried_if b l.item) d) h
        (byte_if s rows (carried_if b l.item) d (carried_if_is s rows b l.item h.carried))

crossing_struck : (s : ScenarioValue) (rows : List Row) (b : Story) (l : Link) (d : RowReading) → b.link ≡ Some l
    → Struck s rows b → Struck s rows (TraceHistory.story_after_crossing s b l d)
crossing_struck s rows b l d e h = go (is_some d.out) (is_some d.into)
  where
    go : (r q : Bool) → Struck s rows (if r then TraceHistory.story_after_out b l d.out
        else if q then TraceHistory.story_after_in s b l d.into else TraceHistory.story_after_byte b l d)
    go true q = out_struck s rows b l d.out e h
    go false true = in_struck s rows b l d.into h
    go false false = byte_struck s rows b l d h

-- ---- a fault strikes a byte

fault_code : (s : ScenarioValue) (rows : List Row) (id : ProcId) (lines : LineSet) (c : CarriedBytes) → c.id ≡ id
    → ((code : ℕ) → fails_with lines code ≡ true → has_strike s rows id code ≡ true) → IsCarried s rows c
    → IsCarried s rows (carried_after_fault c lines)
fault_code s rows id lines c same now h = go (is_command lines) refl (is_data lines) refl lines.io refl
  where
    at : (code : ℕ) → fails_with lines code ≡ true → has_strike s rows c.id code ≡ true
    at code e = subst (λ (other : ProcId). has_strike s rows other code ≡ true) (sym same) (now code e)

    go : (r : Bool) → is_command lines ≡ r → (q : Bool) → is_data lines ≡ q → (io : Bool) → lines.io ≡ io
        → IsCarried s rows (if r then record c { struck = true; failure = Some PARITY_ERROR }
        else if q then record c { failure = Some (if io then INITIATOR_DETECTED_ERROR else PARITY_ERROR) } else c)
    go true e q f io g = at PARITY_ERROR (λ i. if e i then PARITY_ERROR == PARITY_ERROR else if is_data lines
        then (if lines.io then PARITY_ERROR == INITIATOR_DETECTED_ERROR else PARITY_ERROR == PARITY_ERROR) else false)
    go false e true f true g = at INITIATOR_DETECTED_ERROR (λ i. if e i then INITIATOR_DETECTED_ERROR == PARITY_ERROR
        else if f i then (if g i then INITIATOR_DETECTED_ERROR == INITIATOR_DETECTED_ERROR
        else INITIATOR_DETECTED_ERROR == PARITY_ERROR) else false)
    go false e true f false g = at PARITY_ERROR (λ i. if e i then PARITY_ERROR == PARITY_ERROR
        else if f i then (if g i then PARITY_ERROR == INITIATOR_DETECTED_ERROR else PARITY_ERROR == PARITY_ERROR)
        else false)
    go false e false f io g = h

fault_struck : (s : ScenarioValue) (rows : List Row) (row : Row) (l : Link)
    → (story s rows).link ≡ Some l → Struck s (row ∷ rows) (story s rows)
    → Struck s (row ∷ rows) (TraceHistory.story_after_fault (story s rows) l row.kind)
fault_struck s rows row l e h = by row.kind refl
  where
    b : Story
    b = story s rows

    now : (id : ProcId) (c : Change) (bit : ℕ) → l.item ≡ Some (process id) → b.bus_state.crossed ≡ Some c
        → row.kind ≡ Fault bit → (code : ℕ) → fails_with c.before code ≡ true → has_strike s (row ∷ rows) id code ≡ true
    now id c bit item crossed kind code f = or_left (is_strike b row id code) (has_strike s rows id code)
        (all_three (is_fault row.kind) (is_link_of b.link id) (has_failing_byte b.bus_state.crossed code)
        (λ i. is_fault (kind i)) ((λ i. is_link_of (e i) id) ∙ (λ i. is_item_of (item i) id) ∙ id_self id)
        ((λ i. has_failing_byte (crossed i) code) ∙ f))

    struck_if : (bit : ℕ) → row.kind ≡ Fault bit → (o : Option Item) → l.item ≡ o → (c : Option Change)
        → b.bus_state.crossed ≡ c → IsCarriedIf s (row ∷ rows) (TraceHistory.carried_after_fault_if (carried_if b o) c)
    struck_if bit kind None item c crossed = tt
    struck_if bit kind (Some (abort n)) item c crossed = tt
    struck_if bit kind (Some (process id)) item None crossed = of_is s (row ∷ rows) b.carried id h.carried
    struck_if bit kind (Some (process id)) item (Some c) crossed = fault_code s (row ∷ rows) id c.before
        (carried_of b.carried id) (carried_id b.carried id) (now id c bit item crossed kind)
        (of_is s (row ∷ rows) b.carried id h.carried)

    by : (kind : Kind) → row.kind ≡ kind → Struck s (row ∷ rows) (TraceHistory.story_after_fault b l kind)
    by (Drives lines) kind = h
    by (Fault bit) kind = with_struck s (row ∷ rows) b (TraceHistory.carried_after_fault_if
        (carried_if b l.item) b.bus_state.crossed) h (struck_if bit kind l.item refl b.bus_state.crossed refl)

-- ---- a row

change_struck : (s : ScenarioValue) (rows : List Row) (row : Row) (d : RowReading)
    → Struck s (row ∷ rows) (story s rows) → Struck s (row ∷ rows) (story_by_change s (story s rows) d row)
change_struck s rows row d h = go d.change.after.rst
  where
    b : Story
    b = story s rows

    in_link : (o : Option Link) → b.link ≡ o → Struck s (row ∷ rows) (TraceHistory.story_in_connection s b o d row)
    in_link None e = h
    in_link (Some l) e = either d.crosses
      where
        either : (q : Bool) → Struck s (row ∷ rows)
            (if q then TraceHistory.story_after_crossing s b l d else TraceHistory.story_after_fault b l row.kind)
        either true = crossing_struck s (row ∷ rows) b l d e h
        either false = fault_struck s rows row l e h

    on_bus : (m x : Option Connection) → Struck s (row ∷ rows) (story_on_bus s b m x d row)
    on_bus None None = same_struck s (row ∷ rows) b (TraceHistory.story_on_free_bus s b d row) (free_same s b d row) h
    on_bus None (Some n) = linked_struck s (row ∷ rows) b n h
    on_bus (Some m) None = record { carried = h.carried; undo = tt }
    on_bus (Some m) (Some n) = in_link b.link refl

    go : (q : Bool) → Struck s (row ∷ rows)
        (if q then record b { link = None } else story_on_bus s b b.bus_state.connection d.next d row)
    go true = record { carried = h.carried; undo = tt }
    go false = on_bus b.bus_state.connection d.next

check_same : (b : Story) (id : ProcId) (status : ℕ) → Same b (with_check b id status)
check_same b id status =
    elim (cases_Bool (not id.sense && status == CHECK_CONDITION)) [
      | inl e ↦ rw e (record { carried = refl; link = refl })
      | inr e ↦ rw e (record { carried = refl; link = refl })
    ]

event_struck : (s : ScenarioValue) (rows : List Row) (b : Story) (e : Event) → Struck s rows b
    → Struck s rows (story_after_event s b e)
event_struck s rows b (Event.Accept id) h = h
event_struck s rows b (Event.Refuse id) h = record {
  carried = with_is s rows b.carried (marked_refused (carried_of b.carried id)) h.carried
      (of_is s rows b.carried id h.carried);
  undo = h.undo;
}
event_struck s rows b (Event.Run id) h = record {
  carried =
      with_is s rows b.carried (marked_shown (carried_of b.carried id)) h.carried (of_is s rows b.carried id h.carried);
  undo = h.undo;
}
event_struck s rows b (Event.Fail id code) h = record {
  carried =
      with_is s rows b.carried (marked_shown (carried_of b.carried id)) h.carried (of_is s rows b.carried id h.carried);
  undo = h.undo;
}
event_struck s rows b (Event.End id status) h =
    same_struck s rows b (with_check (story_with_end b id (by_status status)) id status) (same_twice b
    (story_with_end b id (by_status status)) (with_check (story_with_end b id (by_status status)) id status)
    (record { carried = refl; link = refl }) (check_same (story_with_end b id (by_status status)) id status)) h
event_struck s rows b (Event.Lost id) h = record { carried = h.carried; undo = h.undo }
event_struck s rows b (Event.Aborted i t n what) h = same_struck s rows b
    (story_with_ends (is_aborted i t n what) (is_sense_stopped i t n what) by_abort 1 s.commands b)
    (with_ends_same (is_aborted i t n what) (is_sense_stopped i t n what) by_abort 1 s.commands b) h
event_struck s rows b (Event.Reset dev) h = same_struck s rows b (story_with_ends (λ c. true)
    (λ c. true) by_reset 1 s.commands b) (with_ends_same (λ c. true) (λ c. true) by_reset 1 s.commands b) h

events_struck : (s : ScenarioValue) (rows : List Row) (b : Story) (shown : List Event) → Struck s rows b
    → Struck s rows (story_after_events s b shown)
events_struck s rows b [] h = h
events_struck s rows b (e ∷ shown) h =
    event_struck s rows (story_after_events s b shown) e (events_struck s rows b shown h)

row_struck : (s : ScenarioValue) (rows : List Row) (row : Row) → Struck s rows (story s rows)
    → Struck s (row ∷ rows) (story s (row ∷ rows))
row_struck s rows row h =
    let b : Story = story s rows in
    let d : RowReading = row_reading b.bus_state row in
    let lifted : Struck s (row ∷ rows) b = record {
      carried = carried_more s rows row b.carried h.carried;
      undo = undo_more s rows row b.link h.undo;
    } in
    let after : Struck s (row ∷ rows) (story_after_events s (story_by_change s b d row) (row_events_by s b d row)) =
    events_struck s (row ∷ rows) (story_by_change s b d row)
    (row_events_by s b d row) (change_struck s rows row d lifted) in
    record { carried = after.carried; undo = after.undo }

struck_after : (s : ScenarioValue) (rows : List Row) → Struck s rows (story s rows)
struck_after s [] = record { carried = tt; undo = tt }
struck_after s (row ∷ rows) = row_struck s rows row (struck_after s rows)

-- ---- a failure is shown

no_failure : (e : Event) (xs : List Event) (f : Event) → same_event e f ≡ false → has_event (e ∷ xs) f ≡ true
    → has_event xs f ≡ true
no_failure e xs f g h = (λ i. sym g i || has_event xs f) ∙ h

queue_none : (s : ScenarioValue) (b : Story) (o : Option CarriedBytes) (lines : LineSet) (id : ProcId) (code : ℕ)
    → has_event (HistoryEvents.queue_events s b o lines) (Event.Fail id code) ≡ false
queue_none s b None lines id code = refl
queue_none s b (Some c) lines id code = go (is_command lines && is_whole_block c)
    (is_some (Rattle.due_model.specs.array_model.specs.ArrayHistory.array_after s (Event.Accept c.id ∷ b.history)))
  where
    go : (r q : Bool)
        → has_event (if r then (if q then Event.Accept c.id else Event.Refuse c.id) ∷ [] else []) (Event.Fail id code)
        ≡ false
    go true true = refl
    go _ _ = refl

status_is : (s : ScenarioValue) (rows : List Row) (o : Option CarriedBytes) (lines : LineSet) (arrived : List Event)
    (id : ProcId) (code : ℕ) → IsCarriedIf s rows o → has_event arrived (Event.Fail id code) ≡ false
    → has_event (HistoryEvents.status_events o lines arrived) (Event.Fail id code) ≡ true
    → has_strike s rows id code ≡ true
status_is s rows None lines arrived id code c g h = wrong (sym h ∙ g)
status_is s rows (Some y) lines arrived id code c g h = go
    (is_status_phase lines && not y.shown && not y.refused && not (list_any (λ e. HistoryEvents.is_refuse e) arrived)) h
  where
    same : (x : ℕ) → has_strike s rows y.id x ≡ true → same_event (Event.Fail y.id x) (Event.Fail id code) ≡ true
        → has_strike s rows id code ≡ true
    same x m e =
        let two = and_parts (same_id y.id id) (x == code) e in
        (λ i. has_strike s rows (sym (same_id_is y.id id two.0) i) (sym (eqb-true x code two.1) i)) ∙ m

    of_event : (x : Option ℕ) → IsFailure s rows y.id x
        → (q : Bool) → same_event (HistoryEvents.status_event y.id x) (Event.Fail id code) ≡ q
        → (q || has_event arrived (Event.Fail id code)) ≡ true → has_strike s rows id code ≡ true
    of_event None m true e f = cc
    of_event (Some x) m true e f = same x m e
    of_event x m false e f = wrong (sym f ∙ g)

    go : (q : Bool)
        → has_event (if q then HistoryEvents.status_event y.id y.failure ∷ arrived else arrived) (Event.Fail id code)
        ≡ true → has_strike s rows id code ≡ true
    go false e = wrong (sym e ∙ g)
    go true e =
        of_event y.failure c (same_event (HistoryEvents.status_event y.id y.failure) (Event.Fail id code)) refl e

end_none : (o : Option CarriedBytes) (id : ProcId) (code : ℕ)
    → has_event (HistoryEvents.end_events o) (Event.Fail id code) ≡ false
end_none None id code = refl
end_none (Some c) id code = refl

free_none : (s : ScenarioValue) (l : Link)
    (last : Rattle.due_model.specs.story_model.specs.Links.LastMessage) (id : ProcId) (code : ℕ)
    → has_event (HistoryEvents.bus_free_events s l last) (Event.Fail id code) ≡ false
free_none s l Rattle.due_model.specs.story_model.specs.Links.plain id code = go l.item
  where
    go : (o : Option Item) → has_event (HistoryEvents.item_loss_events o) (Event.Fail id code) ≡ false
    go None = refl
    go (Some (process p)) = refl
    go (Some (abort k)) = refl
free_none s l Rattle.due_model.specs.story_model.specs.Links.complete id code = refl
free_none s l Rattle.due_model.specs.story_model.specs.Links.disconnect id code = refl
free_none s l Rattle.due_model.specs.story_model.specs.Links.abortive id code = go l.item
  where
    line : (o : Option Rattle.due_model.specs.scenario.specs.declared.value.AbortDef.AbortDef)
        → has_event (HistoryEvents.abort_line_events o) (Event.Fail id code) ≡ false
    line None = refl
    line (Some a) = refl

    go : (o : Option Item) → has_event (HistoryEvents.item_abort_events s o) (Event.Fail id code) ≡ false
    go None = refl
    go (Some (process p)) = refl
    go (Some (abort k)) = line (HistoryEvents.abort_line_at s.aborts k)

shown_is : (s : ScenarioValue) (rows : List Row) (row : Row) (id : ProcId) (code : ℕ)
    → has_event (row_events_by s (story s rows) (row_reading (story s rows).bus_state row) row) (Event.Fail id code)
    ≡ true → has_strike s rows id code ≡ true
shown_is s rows row id code h = go d.change.after.rst (rises d.change.own.rst d.change.next.rst) h
  where
    b : Story
    b = story s rows

    d : RowReading
    d = row_reading b.bus_state row

    by_link : (l : Link) (c q r : Bool)
        → has_event (if c then (if q then HistoryEvents.phase_events s b (carried_if b l.item) d.change
        else if r then HistoryEvents.end_events (carried_if b l.item) else [])
        else HistoryEvents.bus_free_events s l l.last) (Event.Fail id code) ≡ true
        → has_strike s rows id code ≡ true
    by_link l true true r e = status_is s rows (carried_if b l.item) d.change.after (HistoryEvents.queue_events s b
        (carried_if b l.item) d.change.before) id code (carried_if_is s rows b l.item (struck_after s rows).carried)
        (queue_none s b (carried_if b l.item) d.change.before id code) e
    by_link l true false true e = wrong (sym e ∙ end_none (carried_if b l.item) id code)
    by_link l true false false e = cc
    by_link l false q r e = wrong (sym e ∙ free_none s l l.last id code)

    linked : (o : Option Link) → has_event (HistoryEvents.link_events s b o d) (Event.Fail id code) ≡ true
        → has_strike s rows id code ≡ true
    linked None e = cc
    linked (Some l) e = by_link l (is_some d.next) (changes_phase d.change) (HistoryEvents.is_completion l d.change) e

    go : (q r : Bool)
        → has_event (if q then (if r then Event.Reset row.dev ∷ [] else []) else HistoryEvents.link_events s b b.link d)
        (Event.Fail id code) ≡ true → has_strike s rows id code ≡ true
    go true true e = cc
    go true false e = cc
    go false r e = linked b.link e

pub either_list : (shown history : List Event) (e : Event) (z : Bool) → (has_event shown e ≡ true → z ≡ true)
    → (has_event history e ≡ true → z ≡ true) → has_event (shown ++ history) e ≡ true → z ≡ true
either_list [] history e z now before h = before h
either_list (x ∷ shown) history e z now before h = go (λ f. either_list shown history e z
    (λ y. now (or_right (same_event x e) (has_event shown e) y)) before f) (same_event x e) refl h
  where
    go : (has_event (shown ++ history) e ≡ true → z ≡ true) → (q : Bool) → same_event x e ≡ q
        → (q || has_event (shown ++ history) e) ≡ true → z ≡ true
    go later true w f = now (λ i. w i || has_event shown e)
    go later false w f = later f

pub strikes_are : (s : ScenarioValue) (rows : List Row) (id : ProcId) (code : ℕ)
    → has_event (trace_history s rows) (Event.Fail id code) ≡ true → has_strike s rows id code ≡ true
strikes_are s [] id code h = cc
strikes_are s (row ∷ rows) id code h =
    let b : Story = story s rows in
    let d : RowReading = row_reading b.bus_state row in
    or_right (is_strike b row id code) (has_strike s rows id code)
    (either_list (row_events_by s b d row) b.history (Event.Fail id code) (has_strike s rows id code)
    (λ x. shown_is s rows row id code x) (λ x. strikes_are s rows id code x) h)

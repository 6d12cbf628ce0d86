-- What holds of what is carried of each process, and of what MESSAGE PARITY ERROR would bring back, lasts with each
-- row, where pointers, messages, marks and faults keep it, and each byte that crosses does (6.4, 6.6.13, 6.6.19).
use Rattle.book_laws.proofs
use proofs.Names.{ℕ, ◌≡◌, Bool, true, false, not, ◌&&◌, ◌∙◌, List, [], ◌∷◌, Option, Some, None, refl, sym, ap, subst}
use proofs.Names.{same_Some, if◌then◌else◌, is_some, is_none, ◌%◌, Event, ProcId, falls, LineSet, Kind, Drives, Fault}
use proofs.Names.{Row, Change, Connection, Call, Calling, MsgIn, MsgOut, ScenarioValue, same_id, carried_with}
use proofs.Names.{ends_keep, check_keeps, RowReading, row_reading, CarriedBytes, carried_of, with_carried}
use proofs.Names.{with_restored_pointers, carried_after_message, carried_after_byte, carried_after_fault, carried_if}
use proofs.Names.{row_events_by, Item, process, abort, Link, link_of, last_out, last_in, link_after_name, Story}
use proofs.Names.{by_abort, by_reset, is_aborted, is_sense_stopped, marked_refused, marked_shown, story_with_end}
use proofs.Names.{story_after_event, story_after_events, aim_of, is_arbitration_entry, story_with_aim}
use proofs.Names.{story_without_answer, story_with_try, story_after_calling_by, story_after_calling, story_on_free_bus}
use proofs.Names.{story_with_restored, story_with_sent, story_after_connection, story_with_carried, is_parity_error}
use proofs.Names.{story_after_out, carried_after_message_if, story_after_message, story_after_in, carried_after_byte_if}
use proofs.Names.{story_after_byte, carried_after_fault_if, story_after_fault, story_in_connection, story_on_bus}
use proofs.Names.{story_by_change, RunState, run_state_after}

-- Pointers, messages, marks and faults keep it.
pub record IsKept (q : CarriedBytes → Type 0) : Type 0 where
  pub restored : (c : CarriedBytes) → q c → q (with_restored_pointers c)
  pub told : (c : CarriedBytes) (m : MsgIn) → q c → q (carried_after_message c m)
  pub faulted : (c : CarriedBytes) (b : LineSet) → q c → q (carried_after_fault c b)
  pub refused : (c : CarriedBytes) → q c → q (marked_refused c)
  pub shown : (c : CarriedBytes) → q c → q (marked_shown c)

abbrev IsOfUndo : (CarriedBytes → Type 0) → Option Link → Type 0
IsOfUndo q link = (l : Link) (c : CarriedBytes) → link ≡ Some l → l.undo ≡ Some c → q c

-- It holds of each process, and of what would be brought back.
pub record IsCarried (q : CarriedBytes → Type 0) (b : Story) : Type 0 where
  pub each : (id : ProcId) → q (carried_of b.carried id)
  pub undone : (l : Link) (c : CarriedBytes) → b.link ≡ Some l → l.undo ≡ Some c → q c

-- ---- of a list, and of a link

with_each : (q : CarriedBytes → Type 0) (all : List CarriedBytes) (c : CarriedBytes)
    → ((id : ProcId) → q (carried_of all id)) → q c → (id : ProcId) → q (carried_of (with_carried all c) id)
with_each q all c h own id = subst q (sym (carried_with all c id)) (go (same_id c.id id))
  where
    go : (r : Bool) → q (if r then c else carried_of all id)
    go true = own
    go false = h id

carried_by : (q : CarriedBytes → Type 0) (a b : Story) → a.carried ≡ b.carried → a.link ≡ b.link → IsCarried q b
    → IsCarried q a
carried_by q a b ec el h = record {
  each = λ id. subst (λ (x : List CarriedBytes). q (carried_of x id)) (sym ec) (h.each id);
  undone = subst (λ (x : Option Link). IsOfUndo q x) (sym el) h.undone;
}

pub no_link : (q : CarriedBytes → Type 0) → IsOfUndo q None
no_link q l c e f = absurd (none_link l e)
  where
    none_link : (x : Link) → (let a : Option Link = None in a) ≡ Some x → ⊥
    none_link x z = cc

link_undo : (q : CarriedBytes → Type 0) (l : Link) → ((c : CarriedBytes) → l.undo ≡ Some c → q c) → IsOfUndo q (Some l)
link_undo q l h m c e f = h c (ap (λ (x : Link). x.undo) (same_Some l m e) ∙ f)

-- ---- events

event_carried : (q : CarriedBytes → Type 0) → IsKept q → (s : ScenarioValue) (b : Story) (event : Event) → IsCarried q b
    → IsCarried q (story_after_event s b event)
event_carried q kept s b (Event.Accept id) h = h
event_carried q kept s b (Event.Refuse id) h = record {
  each = with_each q b.carried (marked_refused (carried_of b.carried id)) h.each
      (kept.refused (carried_of b.carried id) (h.each id));
  undone = h.undone;
}
event_carried q kept s b (Event.Run id) h = record {
  each = with_each q b.carried (marked_shown (carried_of b.carried id)) h.each
      (kept.shown (carried_of b.carried id) (h.each id));
  undone = h.undone;
}
event_carried q kept s b (Event.Fail id code) h = record {
  each = with_each q b.carried (marked_shown (carried_of b.carried id)) h.each
      (kept.shown (carried_of b.carried id) (h.each id));
  undone = h.undone;
}
event_carried q kept s b (Event.End id status) h =
    let k = check_keeps (story_with_end b id _) id status in
    carried_by q (story_after_event s b (Event.End id status)) b k.0 k.1 h
event_carried q kept s b (Event.Lost id) h = record { each = h.each; undone = h.undone }
event_carried q kept s b (Event.Aborted host target unit what) h =
    let k = ends_keep (is_aborted host target unit what)
    (is_sense_stopped host target unit what) by_abort 1 s.commands b in
    carried_by q (story_after_event s b (Event.Aborted host target unit what)) b k.0 k.1 h
event_carried q kept s b (Event.Reset dev) h =
    let k = ends_keep (λ c. true) (λ c. true) by_reset 1 s.commands b in
    carried_by q (story_after_event s b (Event.Reset dev)) b k.0 k.1 h

events_carried : (q : CarriedBytes → Type 0) → IsKept q → (s : ScenarioValue) (b : Story) (shown : List Event)
    → IsCarried q b → IsCarried q (story_after_events s b shown)
events_carried q kept s b [] h = h
events_carried q kept s b (event ∷ shown) h =
    event_carried q kept s (story_after_events s b shown) event (events_carried q kept s b shown h)

-- ---- outside a connection

pub free_keeps : (s : ScenarioValue) (b : Story) (d : RowReading) (row : Row)
    → ((story_on_free_bus s b d row).carried ≡ b.carried) × ((story_on_free_bus s b d row).link ≡ b.link)
free_keeps s b d row = go (is_arbitration_entry b d) (falls d.change.before.sel d.change.after.sel)
  where
    tried : (dev : ℕ) (item : Option Item)
        → ((story_with_try s b dev item).carried ≡ b.carried) × ((story_with_try s b dev item).link ≡ b.link)
    tried dev None = (refl, refl)
    tried dev (Some item) = by _ item
      where
        by : (q : Bool) (i : Item)
            → ((if q then story_without_answer (record b { sent = record b.sent { tries = item ∷ b.sent.tries } }) i
            else record b { sent = record b.sent { tries = item ∷ b.sent.tries } }).carried ≡ b.carried)
            × ((if q then story_without_answer (record b { sent = record b.sent { tries = item ∷ b.sent.tries } }) i
            else record b { sent = record b.sent { tries = item ∷ b.sent.tries } }).link ≡ b.link)
        by true (process id) = (refl, refl)
        by _ _ = (refl, refl)

    called : (call : Option Call)
        → ((story_after_calling s b call).carried ≡ b.carried) × ((story_after_calling s b call).link ≡ b.link)
    called None = (refl, refl)
    called (Some c) = by c.calling
      where
        by : (g : Option Calling) → ((story_after_calling_by s b c.caller g).carried ≡ b.carried)
            × ((story_after_calling_by s b c.caller g).link ≡ b.link)
        by None = (refl, refl)
        by (Some g) = one (is_none g.answered && not g.reselects)
          where
            one : (q : Bool)
                → ((if q then story_with_try s b c.caller (aim_of b.aims c.caller) else b).carried ≡ b.carried)
                × ((if q then story_with_try s b c.caller (aim_of b.aims c.caller) else b).link ≡ b.link)
            one true = tried c.caller (aim_of b.aims c.caller)
            one false = (refl, refl)

    go : (q r : Bool)
        → ((if q then story_with_aim s b row else if r then story_after_calling s b b.bus_state.call else b).carried
        ≡ b.carried)
        × ((if q then story_with_aim s b row else if r then story_after_calling s b b.bus_state.call else b).link
        ≡ b.link)
    go true r = (refl, refl)
    go false true = called b.bus_state.call
    go false false = (refl, refl)

-- ---- a connection begins

restored_carried : (q : CarriedBytes → Type 0) → IsKept q → (b : Story) (item : Option Item) → IsCarried q b
    → IsCarried q (story_with_restored b item)
restored_carried q kept b None h = h
restored_carried q kept b (Some (process id)) h = record {
  each = with_each q b.carried (with_restored_pointers (carried_of b.carried id)) h.each
      (kept.restored (carried_of b.carried id) (h.each id));
  undone = h.undone;
}
restored_carried q kept b (Some (abort k)) h = h

sent_carried : (q : CarriedBytes → Type 0) (b : Story) (item : Option Item) → IsCarried q b
    → IsCarried q (story_with_sent b item)
sent_carried q b None h = h
sent_carried q b (Some item) h = record { each = h.each; undone = h.undone }

some_none : (q : CarriedBytes → Type 0) (c : CarriedBytes) → (let a : Option CarriedBytes = None in a) ≡ Some c → q c
some_none q c e = absurd cc

linked_carried : (q : CarriedBytes → Type 0) (b : Story) (n : Connection) (item : Option Item) → IsCarried q b
    → IsCarried q (record b { link = Some (link_of n item) })
linked_carried q b n item h = record { each = h.each; undone = link_undo q (link_of n item) (λ c e. some_none q c e) }

begun_carried : (q : CarriedBytes → Type 0) → IsKept q → (b : Story) (n : Connection) → IsCarried q b
    → IsCarried q (story_after_connection b n)
begun_carried q kept b n h = go n.reselected (aim_of b.aims n.initiator)
  where
    go : (r : Bool) (item : Option Item) → IsCarried q (if r then record b { link = Some (link_of n None) }
        else story_with_restored (story_with_sent (record b { link = Some (link_of n item) }) item) item)
    go true item = linked_carried q b n None h
    go false item = restored_carried q kept _ item (sent_carried q _ item (linked_carried q b n item h))

-- ---- in a connection

put_carried : (q : CarriedBytes → Type 0) (b : Story) (c : Option CarriedBytes) → IsCarried q b
    → ((x : CarriedBytes) → c ≡ Some x → q x) → IsCarried q (story_with_carried b c)
put_carried q b None h own = h
put_carried q b (Some c) h own = record { each = with_each q b.carried c h.each (own c refl); undone = h.undone }

carried_so : (q : CarriedBytes → Type 0) (b : Story) (item : Option Item)
    → ((id : ProcId) → q (carried_of b.carried id)) → (x : CarriedBytes) → carried_if b item ≡ Some x → q x
carried_so q b None h x e = some_none q x e
carried_so q b (Some (process id)) h x e = subst q (same_Some (carried_of b.carried id) x e) (h id)
carried_so q b (Some (abort k)) h x e = some_none q x e

out_carried : (q : CarriedBytes → Type 0) (b : Story) (l : Link) (m : Option MsgOut) → b.link ≡ Some l → IsCarried q b
    → IsCarried q (story_after_out b l m)
out_carried q b l None el h = h
out_carried q b l (Some m) el h = put_carried q (record b { link = Some (record l { last = last_out m l }) })
    (if is_parity_error m then l.undo else None) (record {
      each = h.each;
      undone = link_undo q (record l { last = last_out m l }) (λ c f. h.undone l c el f);
    }) (go (is_parity_error m))
  where
    go : (r : Bool) → (x : CarriedBytes) → (if r then l.undo else None) ≡ Some x → q x
    go true x e = h.undone l x el e
    go false x e = some_none q x e

in_carried : (q : CarriedBytes → Type 0) → IsKept q → (s : ScenarioValue) (b : Story) (l : Link) (m : Option MsgIn)
    → IsCarried q b → IsCarried q (story_after_in s b l m)
in_carried q kept s b l None h = h
in_carried q kept s b l (Some m) h = go (is_none l.item)
  where
    made : (c : Story) → IsCarried q c
        → IsCarried q (story_after_message s c (record (link_after_name b.sent s.commands l m) {
          last = last_in m;
          before = l.last;
          undo = carried_if b l.item;
        }) m)
    made c g = put_carried q (record c {
      link = Some (record (link_after_name b.sent s.commands l m) {
        last = last_in m;
        before = l.last;
        undo = carried_if b l.item;
      });
    }) (carried_after_message_if (carried_if c (link_after_name b.sent s.commands l m).item) m) (record {
      each = g.each;
      undone = link_undo q (record (link_after_name b.sent s.commands l m) {
        last = last_in m;
        before = l.last;
        undo = carried_if b l.item;
      }) (λ x e. carried_so q b l.item h.each x e);
    }) (by (carried_if c (link_after_name b.sent s.commands l m).item)
        (carried_so q c (link_after_name b.sent s.commands l m).item g.each))
      where
        by : (y : Option CarriedBytes) → ((x : CarriedBytes) → y ≡ Some x → q x) → (x : CarriedBytes)
            → carried_after_message_if y m ≡ Some x → q x
        by None own x e = some_none q x e
        by (Some y) own x e = subst q (same_Some (carried_after_message y m) x e) (kept.told y m (own y refl))

    go : (r : Bool) → IsCarried q
        (story_after_message s (if r then story_with_restored b (link_after_name b.sent s.commands l m).item else b)
        (record (link_after_name b.sent s.commands l m) {
          last = last_in m;
          before = l.last;
          undo = carried_if b l.item;
        }) m)
    go true = made (story_with_restored b (link_after_name b.sent s.commands l m).item)
        (restored_carried q kept b (link_after_name b.sent s.commands l m).item h)
    go false = made b h

faulted_carried : (q : CarriedBytes → Type 0) → IsKept q → (b : Story) (l : Link) (kind : Kind) → IsCarried q b
    → IsCarried q (story_after_fault b l kind)
faulted_carried q kept b l (Drives lines) h = h
faulted_carried q kept b l (Fault bit) h = go l.item b.bus_state.crossed
  where
    go : (item : Option Item) (c : Option Change)
        → IsCarried q (story_with_carried b (carried_after_fault_if (carried_if b item) c))
    go None c = h
    go (Some (abort n)) c = h
    go (Some (process id)) None =
        record { each = with_each q b.carried (carried_of b.carried id) h.each (h.each id); undone = h.undone }
    go (Some (process id)) (Some c) = record {
      each = with_each q b.carried (carried_after_fault (carried_of b.carried id) c.before) h.each
          (kept.faulted (carried_of b.carried id) c.before (h.each id));
      undone = h.undone;
    }

-- A byte that crosses keeps it, of the process of the connection.
abbrev pub TakesByte : (CarriedBytes → Type 0) → Story → RowReading → Type 0
TakesByte q b d = (l : Link) (id : ProcId) → b.link ≡ Some l
    → l.item ≡ Some (process id) → d.crosses ≡ true → q (carried_of b.carried id)
    → q (carried_after_byte (carried_of b.carried id) d.change.before (d.change.after.data_bits % 256))

crossed_carried : (q : CarriedBytes → Type 0) (b : Story) (l : Link) (d : RowReading) → b.link ≡ Some l
    → d.crosses ≡ true → TakesByte q b d → IsCarried q b → IsCarried q (story_after_byte b l d)
crossed_carried q b l d el crosses takes h = go d.change.before.msg l.item refl
  where
    go : (r : Bool) (item : Option Item) → l.item ≡ item
        → IsCarried q (if r then b else story_with_carried b (carried_after_byte_if (carried_if b item) d))
    go false (Some (process id)) e = record {
      each = with_each q b.carried (carried_after_byte (carried_of b.carried id) d.change.before
          (d.change.after.data_bits % 256)) h.each (takes l id el e crosses (h.each id));
      undone = h.undone;
    }
    go _ _ e = h

-- ---- a row

connected_carried : (q : CarriedBytes → Type 0) → IsKept q
    → (s : ScenarioValue) (b : Story) (l : Option Link) (d : RowReading) (row : Row) → b.link ≡ l → TakesByte q b d
    → IsCarried q b → IsCarried q (story_in_connection s b l d row)
connected_carried q kept s b None d row el takes h = h
connected_carried q kept s b (Some l) d row el takes h = go d.crosses refl (is_some d.out) (is_some d.into)
  where
    go : (x : Bool) → d.crosses ≡ x → (r t : Bool) → IsCarried q (if x then (if r then story_after_out b l d.out
        else if t then story_after_in s b l d.into else story_after_byte b l d) else story_after_fault b l row.kind)
    go true e true t = out_carried q b l d.out el h
    go true e false true = in_carried q kept s b l d.into h
    go true e false false = crossed_carried q b l d el e takes h
    go false e r t = faulted_carried q kept b l row.kind h

bus_carried : (q : CarriedBytes → Type 0) → IsKept q
    → (s : ScenarioValue) (b : Story) (m o : Option Connection) (d : RowReading) (row : Row) → TakesByte q b d
    → IsCarried q b → IsCarried q (story_on_bus s b m o d row)
bus_carried q kept s b None None d row takes h =
    let e = free_keeps s b d row in
    carried_by q (story_on_free_bus s b d row) b e.0 e.1 h
bus_carried q kept s b None (Some n) d row takes h = begun_carried q kept b n h
bus_carried q kept s b (Some m) None d row takes h = record { each = h.each; undone = no_link q }
bus_carried q kept s b (Some m) (Some n) d row takes h = connected_carried q kept s b b.link d row refl takes h

change_carried : (q : CarriedBytes → Type 0) → IsKept q → (s : ScenarioValue) (b : Story) (d : RowReading) (row : Row)
    → TakesByte q b d → IsCarried q b → IsCarried q (story_by_change s b d row)
change_carried q kept s b d row takes h = go d.change.after.rst
  where
    go : (r : Bool)
        → IsCarried q (if r then record b { link = None } else story_on_bus s b b.bus_state.connection d.next d row)
    go true = record { each = h.each; undone = no_link q }
    go false = bus_carried q kept s b b.bus_state.connection d.next d row takes h

pub row_carried : (q : CarriedBytes → Type 0) → IsKept q → (s : ScenarioValue) (k : RunState) (row : Row)
    → TakesByte q k.story (row_reading k.story.bus_state row) → IsCarried q k.story
    → IsCarried q (run_state_after s k row).story
row_carried q kept s k row takes h =
    let d : RowReading = row_reading k.story.bus_state row in
    let on = events_carried q kept s (story_by_change s k.story d row)
    (row_events_by s k.story d row) (change_carried q kept s k.story d row takes h) in
    record { each = on.each; undone = on.undone }

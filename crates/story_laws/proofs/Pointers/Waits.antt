-- The data pointers of a process that is not served stay where they are, whatever the row does.
use Rattle.story_laws.proofs
use proofs.Names.{ℕ, ◌≡◌, ◌⊎◌, inl, inr, ◌*◌, Bool, true, false, not, ◌&&◌, ◌∙◌, List, ◌∷◌, Option, Some, None, refl}
use proofs.Names.{sym, ap, subst, true≢false, if◌then◌else◌, is_some, is_none, nat_lt, ProcId, falls, changes_phase}
use proofs.Names.{receiver_in, Row, Change, Connection, Call, Calling, MsgIn, ScenarioValue, Process, process_of}
use proofs.Names.{same_id, carried_id, restored_sent, sent_carried, RowReading, row_reading, Area, CarriedBytes}
use proofs.Names.{carried_of, with_restored_pointers, row_events_by, link_events, Item, process, abort, has_item, Link}
use proofs.Names.{link_of, link_after_name, Story, story_after_events, aim_of, is_arbitration_entry, story_with_aim}
use proofs.Names.{story_without_answer, is_counted, retries_of, story_with_try, story_after_calling_by}
use proofs.Names.{story_after_calling, story_on_free_bus, story_with_restored, story_with_sent, story_after_connection}
use proofs.Names.{story_after_out, story_after_in, story_after_byte, story_after_fault, story_in_connection}
use proofs.Names.{story_on_bus, story_by_change, Leaving, other_kept, ProcessProgress, progress_in, RunState}
use proofs.Names.{carried_here, process_item, process_served, run_state_after, progress_after, progress_by_leaving}
use proofs.Names.{leaving_of, Knows, IsRowIn, reading_in, StoryWay, story_way, not_unless, by_bool, is_marked}
use proofs.{Names.{run_start, run_step, IsWaiting, UndoesServed}, Items.Stays.{inside_sent}, Pointers.Steps.{IsNot}}
use proofs.Pointers.{Steps.{fault_story, byte_other, out_other, in_other}, Stories.{SamePointers, events_same}}
use proofs.Pointers.Stories.{events_over, over_more, story_row}
use Rattle.due_model.specs.array_model.proofs.SoundArrays.{id_is}
use Rattle.row_laws.proofs.Common.StoryWays as ways

-- ---- what is asked of one that waits

-- The saved pointer is the same, and a mark stays.
pub record SameSaved (a b : CarriedBytes) : Type 0 where
  pub saved : a.moved.saved ≡ b.moved.saved
  pub marked : is_marked b ≡ true → is_marked a ≡ true

pub saved_same : (a b : CarriedBytes) → SamePointers a b → SameSaved a b
saved_same a b h = record { saved = ap (λ (x : Area). x.saved) h.moved; marked = h.marked }

pub saved_on : (a b c : CarriedBytes) → SamePointers a b → SameSaved b c → SameSaved a c
saved_on a b c h g =
    record { saved = ap (λ (x : Area). x.saved) h.moved ∙ g.saved; marked = λ e. h.marked (g.marked e) }

pub wait_on : (s : ScenarioValue) (k j : RunState) (q : Process) → SameSaved (carried_here j q.id) (carried_here k q.id)
    → (has_item k.story.sent.over (process q.id) ≡ true → has_item j.story.sent.over (process q.id) ≡ true)
    → run_start s j q ≡ run_start s k q → IsWaiting s k q → IsWaiting s j q
wait_on s k j q c over start h = record {
  saved = λ o m. c.saved ∙ h.saved
      (not_unless (has_item k.story.sent.over (process q.id)) (has_item j.story.sent.over (process q.id)) over o)
      (not_unless (is_marked (carried_here k q.id)) (is_marked (carried_here j q.id)) c.marked m)
      ∙ sym start;
}

-- ---- what is over

pub connection_sent : (s : ScenarioValue) (b : Story) (link : Option Link) (d : RowReading) (row : Row)
    → (story_in_connection s b link d row).sent ≡ b.sent
connection_sent s b None d row = refl
connection_sent s b (Some l) d row = inside_sent s b l d row

begun_over : (b : Story) (n : Connection) → (story_after_connection b n).sent.over ≡ b.sent.over
begun_over b n = go n.reselected (aim_of b.aims n.initiator)
  where
    sent : (c : Story) (item : Option Item) → (story_with_sent c item).sent.over ≡ c.sent.over
    sent c None = refl
    sent c (Some item) = refl

    go : (q : Bool) (item : Option Item) → (if q then record b { link = Some (link_of n None) }
        else story_with_restored (story_with_sent (record b { link = Some (link_of n item) }) item) item).sent.over
        ≡ b.sent.over
    go true item = refl
    go false item =
        ap (λ x. x.over) (restored_sent (story_with_sent (record b { link = Some (link_of n item) }) item) item)
        ∙ sent (record b { link = Some (link_of n item) }) item

-- Outside a connection commands are given up, and nothing is carried.
record Freed (b c : Story) (x : Item) : Type 0 where
  over : has_item b.sent.over x ≡ true → has_item c.sent.over x ≡ true
  carried : c.carried ≡ b.carried

freed_self : (b : Story) (x : Item) → Freed b b x
freed_self b x = record { over = λ e. e; carried = refl }

free_story : (s : ScenarioValue) (b : Story) (d : RowReading) (row : Row) (x : Item)
    → Freed b (story_on_free_bus s b d row) x
free_story s b d row x = go (is_arbitration_entry b d) (falls d.change.before.sel d.change.after.sel)
  where
    tried : (dev : ℕ) (item : Option Item) → Freed b (story_with_try s b dev item) x
    tried dev None = freed_self b x
    tried dev (Some item) = by (is_counted item && nat_lt (retries_of s.hosts dev)
        (Rattle.due_model.specs.story_model.specs.Items.count_item (item ∷ b.sent.tries) item)) item
      where
        by : (q : Bool) (i : Item) → Freed b
            (if q then story_without_answer (record b { sent = record b.sent { tries = item ∷ b.sent.tries } }) i
            else record b { sent = record b.sent { tries = item ∷ b.sent.tries } }) x
        by true (process id) = record { over = λ e. over_more (process id) b.sent.over x e; carried = refl }
        by true (abort c) = record { over = λ e. over_more (abort c) b.sent.over x e; carried = refl }
        by false i = record { over = λ e. e; carried = refl }

    called : (call : Option Call) → Freed b (story_after_calling s b call) x
    called None = freed_self b x
    called (Some c) = by c.calling
      where
        by : (g : Option Calling) → Freed b (story_after_calling_by s b c.caller g) x
        by None = freed_self b x
        by (Some g) = one (is_none g.answered && not g.reselects)
          where
            one : (q : Bool) → Freed b (if q then story_with_try s b c.caller (aim_of b.aims c.caller) else b) x
            one true = tried c.caller (aim_of b.aims c.caller)
            one false = freed_self b x

    go : (q r : Bool)
        → Freed b (if q then story_with_aim s b row else if r then story_after_calling s b b.bus_state.call else b) x
    go true r = record { over = λ e. e; carried = refl }
    go false true = called b.bus_state.call
    go false false = freed_self b x

bus_over : (s : ScenarioValue) (b : Story) (m o : Option Connection) (d : RowReading) (row : Row) (x : Item)
    → has_item b.sent.over x ≡ true → has_item (story_on_bus s b m o d row).sent.over x ≡ true
bus_over s b None None d row x e = (free_story s b d row x).over e
bus_over s b None (Some n) d row x e = ap (λ (y : List Item). has_item y x) (begun_over b n) ∙ e
bus_over s b (Some m) None d row x e = e
bus_over s b (Some m) (Some n) d row x e = ap (λ y. has_item y.over x) (connection_sent s b b.link d row) ∙ e

-- What is over stays so with any change of the bus, and with any row.
pub change_over : (s : ScenarioValue) (b : Story) (d : RowReading) (row : Row) (x : Item)
    → has_item b.sent.over x ≡ true → has_item (story_by_change s b d row).sent.over x ≡ true
change_over s b d row x e = go d.change.after.rst
  where
    go : (q : Bool) → has_item
        (if q then record b { link = None } else story_on_bus s b b.bus_state.connection d.next d row).sent.over x
        ≡ true
    go true = e
    go false = bus_over s b b.bus_state.connection d.next d row x e

pub over_row : (s : ScenarioValue) (k : RunState) (row : Row) (x : Item) → has_item k.story.sent.over x ≡ true
    → has_item (run_state_after s k row).story.sent.over x ≡ true
over_row s k row x e =
    let d = row_reading k.story.bus_state row in
    events_over s (story_by_change s k.story d row) (row_events_by s k.story d row) x (change_over s k.story d row x e)

-- ---- runs

-- Only the process that is served makes runs.
progress_other : (s : ScenarioValue) (k : RunState) (row : Row) (id : ProcId) → IsNot id k.served
    → progress_in (run_state_after s k row).progress id ≡ progress_in k.progress id
progress_other s k row id other = go k.story.bus_state.connection (row_reading k.story.bus_state row).next
    (leaving_of s k k.story.bus_state.connection)
  where
    d : RowReading
    d = row_reading k.story.bus_state row

    served : (l : Leaving) (item : Option Item) → IsNot id item
        → progress_in (progress_by_leaving k (process_item s item) l) id ≡ progress_in k.progress id
    served l None h = refl
    served l (Some (abort n)) h = refl
    served l (Some (process x)) h = by (process_of s x) refl
      where
        by : (c : Option Process) → process_of s x ≡ c
            → progress_in (progress_by_leaving k c l) id ≡ progress_in k.progress id
        by None e = refl
        by (Some c) e =
            other_kept k.progress c.id id l.done l.counts (ap (λ (y : ProcId). same_id y id) (id_is s x c e) ∙ h x refl)

    go : (m o : Option Connection) (l : Leaving)
        → progress_in (progress_after s k d m o l) id ≡ progress_in k.progress id
    go None None l = refl
    go None (Some n) l = refl
    go (Some m) None l = refl
    go (Some m) (Some n) l = by (changes_phase d.change && k.exchange.begun)
      where
        by : (q : Bool) → progress_in (if q then progress_by_leaving k (process_served s k) l else k.progress) id
            ≡ progress_in k.progress id
        by true = served l k.served other
        by false = refl

pub start_other : (s : ScenarioValue) (k : RunState) (row : Row) (q : Process) → IsNot q.id k.served
    → run_start s (run_state_after s k row) q ≡ run_start s k q
start_other s k row q other = ap (λ (x : ProcessProgress). x.runs * run_step s q) (progress_other s k row q.id other)

-- ---- what is carried

-- As long as the story before its events has the same of it.
pub carried_row : (s : ScenarioValue) (k : RunState) (row : Row) (id : ProcId) → SameSaved
    (carried_of (story_by_change s k.story (row_reading k.story.bus_state row) row).carried id) (carried_here k id)
    → SameSaved (carried_here (run_state_after s k row) id) (carried_here k id)
carried_row s k row id h =
    let d = row_reading k.story.bus_state row in
    saved_on (carried_here (run_state_after s k row) id) (carried_of (story_by_change s k.story d row).carried id)
    (carried_here k id) (events_same s (story_by_change s k.story d row) (row_events_by s k.story d row) id) h

saved_self : (c : CarriedBytes) → SameSaved c c
saved_self c = record { saved = refl; marked = λ e. e }

-- Outside a connection, and as RST is true.
pub apart_same : (s : ScenarioValue) (k : RunState) (row : Row) (id : ProcId)
    → ((row_reading k.story.bus_state row).change.after.rst ≡ true)
    ⊎ ((k.story.bus_state.connection ≡ None) × ((row_reading k.story.bus_state row).next ≡ None))
    → SameSaved (carried_here (run_state_after s k row) id) (carried_here k id)
apart_same s k row id h = carried_row s k row id (go h)
  where
    d : RowReading
    d = row_reading k.story.bus_state row

    by : (q : Bool) → (m y : Option Connection) → (q ≡ true) ⊎ ((m ≡ None) × (y ≡ None)) → SameSaved
        (carried_of (if q then record k.story { link = None } else story_on_bus s k.story m y d row).carried id)
        (carried_here k id)
    by true m y z = saved_self (carried_here k id)
    by false None None z = subst (λ (x : List CarriedBytes). SameSaved (carried_of x id) (carried_here k id))
        (sym (free_story s k.story d row (process id)).carried) (saved_self (carried_here k id))
    by false None (Some n) (inl z) = absurd (true≢false (sym z))
    by false None (Some n) (inr z) = none_some n z.1
      where
        none_some : (x : Connection) → (let o : Option Connection = Some x in o) ≡ None
            → SameSaved (carried_of (story_on_bus s k.story None (Some n) d row).carried id) (carried_here k id)
        none_some x e = absurd cc
    by false (Some m) y (inl z) = absurd (true≢false (sym z))
    by false (Some m) y (inr z) = none_some m z.0
      where
        none_some : (x : Connection) → (let o : Option Connection = Some x in o) ≡ None
            → SameSaved (carried_of (story_on_bus s k.story (Some m) y d row).carried id) (carried_here k id)
        none_some x e = absurd cc

    go : (d.change.after.rst ≡ true) ⊎ ((k.story.bus_state.connection ≡ None) × (d.next ≡ None))
        → SameSaved (carried_of (story_by_change s k.story d row).carried id) (carried_here k id)
    go z = by d.change.after.rst k.story.bus_state.connection d.next z

-- A connection ends.
pub ends_same : (s : ScenarioValue) (k : RunState) (row : Row) (n : Connection) (id : ProcId)
    → k.story.bus_state.connection ≡ Some n → (row_reading k.story.bus_state row).next ≡ None
    → SameSaved (carried_here (run_state_after s k row) id) (carried_here k id)
ends_same s k row n id con next = carried_row s k row id (go d.change.after.rst)
  where
    d : RowReading
    d = row_reading k.story.bus_state row

    go : (q : Bool) → SameSaved (carried_of (if q then record k.story { link = None }
        else story_on_bus s k.story k.story.bus_state.connection d.next d row).carried id) (carried_here k id)
    go true = saved_self (carried_here k id)
    go false = subst (λ (x : List CarriedBytes). SameSaved (carried_of x id) (carried_here k id))
        (sym (λ i. (story_on_bus s k.story (con i) (next i) d row).carried)) (saved_self (carried_here k id))

-- A connection begins: the active pointers of its process are restored, no saved one changes.
restored_same : (b : Story) (item : Option Item) (id : ProcId)
    → SameSaved (carried_of (story_with_restored b item).carried id) (carried_of b.carried id)
restored_same b None id = saved_self (carried_of b.carried id)
restored_same b (Some (abort n)) id = saved_self (carried_of b.carried id)
restored_same b (Some (process x)) id = by_bool (same_id x id)
    (λ e. let is : x ≡ id = Rattle.row_laws.specs.book_laws.proofs.Common.Lookups.id_is x id e in
    subst (λ (y : CarriedBytes). SameSaved y (carried_of b.carried id))
    (sym (Rattle.row_laws.specs.book_laws.proofs.Common.Lookups.put_own b.carried
    (with_restored_pointers (carried_of b.carried x)) id (carried_id b.carried x ∙ is)))
    (subst (λ (y : ProcId). SameSaved (with_restored_pointers (carried_of b.carried x)) (carried_of b.carried y)) is
    (record { saved = refl; marked = λ z. z })))
    (λ e. subst (λ (y : CarriedBytes). SameSaved y (carried_of b.carried id))
    (sym (Rattle.row_laws.specs.book_laws.proofs.Common.Lookups.put_other b.carried
    (with_restored_pointers (carried_of b.carried x)) x id (carried_id b.carried x) e))
    (saved_self (carried_of b.carried id)))

begins_story : (b : Story) (n : Connection) (id : ProcId)
    → SameSaved (carried_of (story_after_connection b n).carried id) (carried_of b.carried id)
begins_story b n id = go n.reselected (aim_of b.aims n.initiator)
  where
    go : (q : Bool) (item : Option Item) → SameSaved (carried_of (if q then record b { link = Some (link_of n None) }
        else story_with_restored (story_with_sent (record b { link = Some (link_of n item) }) item) item).carried id)
        (carried_of b.carried id)
    go true item = saved_self (carried_of b.carried id)
    go false item = subst (λ (x : List CarriedBytes). SameSaved (carried_of
        (story_with_restored (story_with_sent (record b { link = Some (link_of n item) }) item) item).carried id)
        (carried_of x id)) (sent_carried (record b { link = Some (link_of n item) }) item)
        (restored_same (story_with_sent (record b { link = Some (link_of n item) }) item) item id)

pub begins_same : (s : ScenarioValue) (k : RunState) (row : Row) (n : Connection) (id : ProcId)
    → k.story.bus_state.connection ≡ None → (row_reading k.story.bus_state row).next ≡ Some n
    → (row_reading k.story.bus_state row).change.after.rst ≡ false
    → SameSaved (carried_here (run_state_after s k row) id) (carried_here k id)
begins_same s k row n id con next calm = carried_row s k row id (subst
    (λ (x : Story). SameSaved (carried_of x.carried id) (carried_here k id)) (sym there) (begins_story k.story n id))
  where
    d : RowReading
    d = row_reading k.story.bus_state row

    there : story_by_change s k.story d row ≡ story_after_connection k.story n
    there = ap (λ (q : Bool). if q then record k.story { link = None }
        else story_on_bus s k.story k.story.bus_state.connection d.next d row) calm
        ∙ (λ i. story_on_bus s k.story (con i) (next i) d row)

-- ---- in a connection, of a process that is not served

pub item_not : (id : ProcId) (k : RunState) (n : Connection) (item : Option Item) → IsNot id k.served
    → ((item ≡ k.served) ⊎ (item ≡ None)) → IsNot id item
item_not id k n item h (inl e) x f = h x (sym e ∙ f)
item_not id k n item h (inr e) x f = none_some (sym e ∙ f)
  where
    none_some : (let o : Option Item = None in o) ≡ Some (process x) → same_id x id ≡ false
    none_some z = absurd cc

pub goes_other : (s : ScenarioValue) (k : RunState) (row : Row) (n : Connection) (c : Change) (id : ProcId) (now : Bool)
    → IsRowIn k row n c → is_some (receiver_in n c) ≡ now → Knows s k n → UndoesServed k → IsNot id k.served
    → ((l : Link) (m : MsgIn) → k.story.link ≡ Some l → (reading_in k.story.bus_state n c now).into ≡ Some m
    → ((link_after_name k.story.sent s.commands l m).item ≡ k.served)
    ⊎ ((link_after_name k.story.sent s.commands l m).item ≡ None))
    → SameSaved (carried_here (run_state_after s k row) id) (carried_here k id)
goes_other s k row n c id now r en knows undoes other names = saved_on (carried_here (run_state_after s k row) id)
    (carried_of (story_in_connection s k.story (Some knows.link) d row).carried id)
    (carried_here k id) (subst (λ (x : CarriedBytes). SamePointers x
    (carried_of (story_in_connection s k.story (Some knows.link) d row).carried id))
    (sym (ap (λ (x : Story). carried_of x.carried id) (story_row s k row n c now r en ∙ (λ i. story_after_events s
    (story_in_connection s k.story (knows.link_is i) d row) (link_events s k.story (knows.link_is i) d))))) (events_same
    s (story_in_connection s k.story (Some knows.link) d row) (link_events s k.story (Some knows.link) d) id))
    (go (story_way s k.story knows.link d row))
  where
    d : RowReading
    d = reading_in k.story.bus_state n c now

    own : (knows.link.item ≡ k.served) ⊎ (knows.link.item ≡ None)
    own = elim knows.item_is [ inl z ↦ inl z | inr z ↦ inr z.1 ]

    same : (b : Story) → carried_of b.carried id ≡ carried_here k id
        → SameSaved (carried_of b.carried id) (carried_here k id)
    same b e = subst (λ (x : CarriedBytes). SameSaved x (carried_here k id)) (sym e) (saved_self (carried_here k id))

    go : {after : Story} → StoryWay s k.story knows.link d row after
        → SameSaved (carried_of after.carried id) (carried_here k id)
    go (ways.stays _) = saved_same (carried_of (story_after_fault k.story knows.link row.kind).carried id)
        (carried_here k id) (fault_story k.story knows.link row.kind id)
    go (ways.says o _ _) = same (story_after_out k.story knows.link (Some o))
        (out_other k.story knows.link o id (λ u z. other u.id (undoes knows.link u knows.link_is z)))
    go (ways.carries _ _ _) = same (story_after_byte k.story knows.link d)
        (byte_other k.story knows.link d id (item_not id k n knows.link.item other own))
    go (ways.hears m _ _ e) =
        same (story_after_in s k.story knows.link (Some m)) (in_other s k.story knows.link m id (item_not id k n
        (link_after_name k.story.sent s.commands knows.link m).item other (names knows.link m knows.link_is e)))

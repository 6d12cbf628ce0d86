-- Where the processes stand after a row, by what it leaves of the plain disk array: one of a connection, one with which
-- it ends, one without a connection, and one under RST.
use Rattle.trace_laws.proofs
use proofs.Names.{◌≡◌, Bool, true, false, ◌∙◌, List, [], ◌∷◌, Option, Some, None, refl, sym, ap, subst, if◌then◌else◌}
use proofs.Names.{wrong, Event, ProcId, rises, LineSet, Row, Change, Connection, ScenarioValue, Process, process_of}
use proofs.Names.{IsSound, HasSeats, RunningProcess, UnitState, Array, settled_array, RowReading, row_reading}
use proofs.Names.{link_events, row_events_by, Item, process, abort, has_item, RunState, bus_of, process_item}
use proofs.Names.{run_state_after, array_after_events, served_after, InConnection, id_is as ids_are, is_served_by}
use proofs.Names.{some_none, none_some, by_bool, away_rests, untouched_after, each_same, attended_same, AreWithin}
use proofs.{Names.{Waits, Runs, OnUnits, OnGuests, IsAway, IsUntouched, IsAtRest, HasPlaces}, Places.Ends.{HasFreed}}
use proofs.Places.{Events.{passes_step}, TurnRows.{RowPlaced}}
use Rattle.story_laws.specs.row_laws.proofs.Events.Processes.{each_settled}
use Rattle.due_model.specs.array_model.specs.Steps

-- ---- what was sent

-- The row sends nothing.
abbrev pub SendsNone : ScenarioValue → RunState → Row → Type 0
SendsNone s k row = (run_state_after s k row).story.sent.sent ≡ k.story.sent.sent

served_is : (x : Option Item) (id : ProcId) → is_served_by x id ≡ true → x ≡ Some (process id)
served_is None id e = wrong (sym e)
served_is (Some (process y)) id e = ap (λ (z : ProcId). Some (process z)) (sym (ids_are id y e))
served_is (Some (abort m)) id e = wrong (sym e)

-- What was not sent is not served.
unsent_other : (s : ScenarioValue) (k : RunState) → HasPlaces s k
    → (id : ProcId) → has_item k.story.sent.sent (process id) ≡ false → is_served_by k.served id ≡ false
unsent_other s k h id e =
    by_bool (is_served_by k.served id)
    (λ z. wrong (sym (h.sent id (served_is k.served id z)) ∙ e))
    (λ z. z)

unsent_before : (s : ScenarioValue) (k : RunState) (row : Row) → SendsNone s k row
    → (id : ProcId) → has_item (run_state_after s k row).story.sent.sent (process id) ≡ false
    → has_item k.story.sent.sent (process id) ≡ false
unsent_before s k row same id e = ap (λ (x : List Item). has_item x (process id)) (sym same) ∙ e

-- ---- a row of a connection

pub placed_on : (s : ScenarioValue) (k : RunState) (row : Row)
    (n : Connection) (c : Change) (phase now fault : Bool) (h : HasPlaces s k)
    → InConnection s k row n c phase now fault → c.after.rst ≡ false → SendsNone s k row → RowPlaced s k row h.array
    → HasPlaces s (run_state_after s k row)
placed_on s k row n c phase now fault h i calm same x = record {
  array = x.next;
  array_is = x.next_is;
  sound = x.sound;
  within = x.within;
  unsent = λ id e.
      let was = unsent_before s k row same id e in
      x.untouched id (unsent_other s k h id was) (h.unsent id was);
  rests = λ id e.
      let was = ap (λ (y : Option Item). is_served_by y id) (sym i.served_is) ∙ e in
      x.rests id was (h.rests id was);
  reset = λ e id. wrong (sym e ∙ ap (λ (b : LineSet). b.rst) i.bus_is ∙ calm);
  unserved = λ e. some_none n (sym i.connection_is ∙ e);
  sent = λ id e. ap (λ (y : List Item). has_item y (process id)) same ∙ h.sent id (sym i.served_is ∙ e);
  of_scenario = λ id e. h.of_scenario id (sym i.served_is ∙ e);
  placed = λ m e f p z. x.placed p (ap (process_item s) (sym i.served_is) ∙ z);
}

-- ---- one with which it ends

pub freed_on : (s : ScenarioValue) (k : RunState) (row : Row) (n : Connection) (h : HasPlaces s k)
    → k.story.bus_state.connection ≡ Some n → (row_reading k.story.bus_state row).next ≡ None → SendsNone s k row
    → HasFreed s k row h.array → HasPlaces s (run_state_after s k row)
freed_on s k row n h con none same x =
    let gone : (run_state_after s k row).served ≡ None = λ i. served_after s k (con i) (none i) in
    record {
      array = x.next;
      array_is = x.next_is;
      sound = x.sound;
      within = x.within;
      unsent = λ id e.
          let was = unsent_before s k row same id e in
          x.untouched id (unsent_other s k h id was) (h.unsent id was);
      rests = λ id e. x.rests id;
      reset = λ e id. x.rests id;
      unserved = λ e. gone;
      sent = λ id e. none_some (process id) (sym gone ∙ e);
      of_scenario = λ id e. none_some (process id) (sym gone ∙ e);
      placed = λ m e f p z. none_some p (ap (process_item s) (sym gone) ∙ z);
    }

-- ---- one without a connection

-- It shows nothing.
pub apart_shown : (s : ScenarioValue) (k : RunState) (row : Row) → k.story.link ≡ None
    → (row_reading k.story.bus_state row).change.after.rst ≡ false
    → row_events_by s k.story (row_reading k.story.bus_state row) row ≡ []
apart_shown s k row link calm =
    let d : RowReading = row_reading k.story.bus_state row in
    λ i. if calm i then (if rises d.change.own.rst d.change.next.rst then Event.Reset row.dev ∷ [] else [])
    else link_events s k.story (link i) d

pub apart_on : (s : ScenarioValue) (k : RunState) (row : Row)
    → (h : HasPlaces s k) → k.story.bus_state.connection ≡ None → (row_reading k.story.bus_state row).next ≡ None
    → k.story.link ≡ None → (row_reading k.story.bus_state row).change.after.rst ≡ false → SendsNone s k row
    → HasPlaces s (run_state_after s k row)
apart_on s k row h con none link calm same =
    let gone : (run_state_after s k row).served ≡ None = (λ i. served_after s k (con i) (none i)) ∙ h.unserved con in
    let rests : (id : ProcId) → IsAtRest h.array id = λ id. h.rests id
    (ap (λ (y : Option Item). is_served_by y id) (h.unserved con)) in
    record {
      array = h.array;
      array_is = λ i. array_after_events s (h.array_is i) (apart_shown s k row link calm i);
      sound = h.sound;
      within = h.within;
      unsent = λ id e. h.unsent id (unsent_before s k row same id e);
      rests = λ id e. rests id;
      reset = λ e id. rests id;
      unserved = λ e. gone;
      sent = λ id e. none_some (process id) (sym gone ∙ e);
      of_scenario = λ id e. none_some (process id) (sym gone ∙ e);
      placed = λ m e f p z. none_some p (ap (process_item s) (sym gone) ∙ z);
    }

-- ---- one under RST

-- After a reset no process is in the array.
dropped_units : (units : List UnitState) (id : ProcId) → OnUnits (IsAway id) (Steps.kept_units (λ c. true) units)
dropped_units [] id = tt
dropped_units (u ∷ units) id = ((waits u.waiting, runs u.current), dropped_units units id)
  where
    waits : (waiting : List Process) → Waits (IsAway id) (Steps.kept_processes (λ c. true) waiting)
    waits [] = tt
    waits (c ∷ waiting) = waits waiting

    runs : (o : Option RunningProcess) → Runs (IsAway id) (Steps.kept_running (λ c. true) o)
    runs None = tt
    runs (Some r) = tt

dropped_guests : (guests : List RunningProcess) (id : ProcId)
    → OnGuests (IsAway id) (Steps.kept_guests (λ p. true) guests)
dropped_guests [] id = tt
dropped_guests (g ∷ guests) id = dropped_guests guests id

reset_rests : (s : ScenarioValue) (a : Array) (id : ProcId) → IsAtRest (settled_array (Steps.reset_step s a)) id
reset_rests s a id =
    let kept : Array = record (Steps.without_dropped a (λ p. true)) { senses = []; holds = [] } in
    away_rests (settled_array (Steps.reset_step s a)) id (each_settled (IsAway id) (IsAway id) (Steps.reset_step s a)
    (each_same (IsAway id) (IsAway id) kept (Steps.reset_step s a) (attended_same s.hosts a.units (λ u. true) kept)
    (record { units = dropped_units a.units id; guests = dropped_guests a.guests id })))

-- What is asked of it: the device raises RST, or it was true before; and no connection begins.
pub record IsResetAsked (k : RunState) (row : Row) : Type 0 where
  pub was : rises (row_reading k.story.bus_state row).change.own.rst (row_reading k.story.bus_state row).change.next.rst
      ≡ false → (bus_of k).rst ≡ true
  pub none_begins : k.story.bus_state.connection ≡ None → (row_reading k.story.bus_state row).next ≡ None

record HasReset (s : ScenarioValue) (k : RunState) (row : Row) (a : Array) : Type 0 where
  next : Array
  next_is : array_after_events s k.array (row_events_by s k.story (row_reading k.story.bus_state row) row) ≡ Some next
  sound : IsSound s next
  within : AreWithin next.units
  untouched : (id : ProcId) → IsUntouched a id → IsUntouched next id
  rests : (id : ProcId) → IsAtRest next id

reset_of : (s : ScenarioValue) (k : RunState) (row : Row) (h : HasPlaces s k) → HasSeats s
    → (row_reading k.story.bus_state row).change.after.rst ≡ true → IsResetAsked k row → HasReset s k row h.array
reset_of s k row h seats on asked = go (rises d.change.own.rst d.change.next.rst) refl
  where
    d : RowReading
    d = row_reading k.story.bus_state row

    shown : row_events_by s k.story d row
        ≡ (if rises d.change.own.rst d.change.next.rst then Event.Reset row.dev ∷ [] else [])
    shown =
        ap (λ (q : Bool). if q then (if rises d.change.own.rst d.change.next.rst then Event.Reset row.dev ∷ [] else [])
        else link_events s k.story k.story.link d) on

    go : (q : Bool) → rises d.change.own.rst d.change.next.rst ≡ q → HasReset s k row h.array
    go true e =
        let b : Array = settled_array (Steps.reset_step s h.array) in
        let nobody : ProcId = record { command = 0; sense = false } in
        let passes = passes_step s h.array b
        (Event.Reset row.dev) nobody seats h.sound h.within (λ other f. refl) refl in
        record {
          next = b;
          next_is = λ i. array_after_events s (h.array_is i)
              ((shown ∙ ap (λ (x : Bool). if x then Event.Reset row.dev ∷ [] else []) e) i);
          sound = passes.sound;
          within = passes.within;
          untouched = λ id x. untouched_after s h.array b (Event.Reset row.dev) id refl refl x;
          rests = λ id. reset_rests s h.array id;
        }
    go false e = record {
      next = h.array;
      next_is = λ i. array_after_events s (h.array_is i)
          ((shown ∙ ap (λ (x : Bool). if x then Event.Reset row.dev ∷ [] else []) e) i);
      sound = h.sound;
      within = h.within;
      untouched = λ id x. x;
      rests = λ id. h.reset (asked.was e) id;
    }

pub reset_on : (s : ScenarioValue) (k : RunState) (row : Row) (h : HasPlaces s k) → HasSeats s
    → (row_reading k.story.bus_state row).change.after.rst ≡ true → IsResetAsked k row → SendsNone s k row
    → HasPlaces s (run_state_after s k row)
reset_on s k row h seats on asked same =
    record {
      array = x.next;
      array_is = x.next_is;
      sound = x.sound;
      within = x.within;
      unsent = λ id e. x.untouched id (h.unsent id (unsent_before s k row same id e));
      rests = λ id e. x.rests id;
      reset = λ e id. x.rests id;
      unserved = λ e. ends k.story.bus_state.connection refl e;
      sent = λ id e. ap (λ (y : List Item). has_item y (process id)) same
          ∙ by k.story.bus_state.connection (row_reading k.story.bus_state row).next refl refl
          (λ y. y ≡ Some (process id) → has_item k.story.sent.sent (process id) ≡ true) (λ z. h.sent id z)
          (λ z. none_some (process id) z) e;
      of_scenario = λ id e. by k.story.bus_state.connection (row_reading k.story.bus_state row).next refl refl
          (λ y. y ≡ Some (process id) → (c : Process) × (process_of s id ≡ Some c)) (λ z. h.of_scenario id z)
          (λ z. none_some (process id) z) e;
      placed = λ m e f c z. wrong (sym on ∙ f);
    }
  where
    x : HasReset s k row h.array
    x = reset_of s k row h seats on asked

    -- What is served stays, or nothing is.
    by : (before after : Option Connection) → k.story.bus_state.connection ≡ before
        → (row_reading k.story.bus_state row).next ≡ after → (q : Option Item → Type 0) → q k.served → q None
        → q (run_state_after s k row).served
    by None None e f q a b = subst q (sym (λ i. served_after s k (e i) (f i))) a
    by (Some m) None e f q a b = subst q (sym (λ i. served_after s k (e i) (f i))) b
    by (Some m) (Some n) e f q a b = subst q (sym (λ i. served_after s k (e i) (f i))) a
    by None (Some n) e f q a b = some_none n (sym f ∙ asked.none_begins e)

    ends : (before : Option Connection) → k.story.bus_state.connection ≡ before
        → (row_reading k.story.bus_state row).next ≡ None → (run_state_after s k row).served ≡ None
    ends None e f = (λ i. served_after s k (e i) (f i)) ∙ h.unserved e
    ends (Some m) e f = λ i. served_after s k (e i) (f i)

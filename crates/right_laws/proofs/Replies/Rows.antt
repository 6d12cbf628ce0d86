-- Of a row of a prompt trace: the reply of a process that has carried data stays (7.3, 7.5, 7.8).
use Rattle.right_laws.proofs
use proofs.Names.{ℕ, ◌≡◌, ◌⊎◌, inl, inr, Bool, true, false, not, ◌&&◌, ◌||◌, ◌==◌, ◌<◌, ◌∙◌, List, [], ◌∷◌, Option}
use proofs.Names.{Some, None, refl, sym, ap, subst, eqb-true, or_right, same_Some, list_any, if◌then◌else◌, is_none}
use proofs.Names.{is_some, eq_self, eq_turned, wrong, wrong', AbortKind, Event, ProcId, rises, LineSet, bus, Row}
use proofs.Names.{Change, Connection, command_of, ScenarioValue, AbortDef, reply_in, Reply, is_request_sense, Process}
use proofs.Names.{process_of, same_id, is_of_other_unit, HasSeats, AllOwnGuests, AllOwnUnits, AreApart, IsOwn}
use proofs.Names.{IsOwnRunning, is_of_unit, step, Array, RunningProcess, UnitState, settled_array, unit_state_at}
use proofs.Names.{RowReading, row_reading, abort_line_at, abort_line_events, bus_free_events, item_abort_events}
use proofs.Names.{item_loss_events, link_events, row_events_by, Item, abort, process, Link, LastMessage, abortive}
use proofs.Names.{complete, disconnect, plain, has_run, is_run_of, run_state_plain, RunState, array_of, run_state}
use proofs.Names.{array_after_events, served_after, reply_now, process_id, id_is, self_id, is_served_by, Knows, RowOf}
use proofs.Names.{begins, goes_on, under_reset, row_apart, change_plain, none_some, by_bool, leaves, stays_queued}
use proofs.Names.{step_units, running_id, map_units, AllP, RunsP, UnitsP, OnGuests, OnUnits, Runs, Waits, IsAway}
use proofs.Names.{AllUnits, IsEmptyUnit, HasReplyThen, abort_may_change, any_may_change, may_change, IfOpen, OnEvents}
use proofs.{Names.{OnOpen}, Ran.{Crossings.{GoesSo, here_goes, known_served}, Facts.{Known, apart_of, here_is}}}
use proofs.Ran.{Facts.{steps_of, then_is}, Open.{none_guests}, Shown.{IsAnswer, IsEnding, IsHere, ShownAs, row_runs}}
use proofs.{Ran.Shown.{row_shown}, Replies.{Facts.{IsCurrent, answer_here, run_replies, run_same}, Queues.{CleanFacts}}}
use proofs.Replies.{Queues.{IsCleanUnit, IsNoSense, SenselessFacts, moved_of}, Stays.{end_same}}
use Rattle.trace_laws.specs.book_laws.specs.Traces.{ends}
use Rattle.right_laws.specs.GivenPointers.{StaysSo}
use Rattle.due_model.specs.array_model.specs.Steps
use Rattle.trace_laws.specs.row_laws.proofs.Events.Queued

-- ---- the process that the initiator knows is one of the scenario

known_process : (s : ScenarioValue) (p : List Row) (row : Row) (h : Known s p row) (l : Link) (id : ProcId)
    → (row_reading (run_state s p).story.bus_state row).change.after.rst ≡ false → (run_state s p).story.link ≡ Some l
    → l.item ≡ Some (process id) → is_some (process_of s id) ≡ true
known_process s p row h l id calm link item = go h.next.row_is
  where
    k : RunState
    k = run_state s p

    served : k.served ≡ Some (process id) → is_some (process_of s id) ≡ true
    served e = ap (λ (o : Option Process). is_some o) (h.places.of_scenario id e).1

    by : (n : Connection) → Knows s k n → is_some (process_of s id) ≡ true
    by n w = elim w.item_is [ inl z ↦ served (sym z ∙ same) | inr z ↦ none_some (process id) (sym z.1 ∙ same) ]
      where
        same : w.link.item ≡ Some (process id)
        same = ap (λ (x : Link). x.item) (same_Some w.link l (sym w.link_is ∙ link)) ∙ item

    go : RowOf s k row → is_some (process_of s id) ≡ true
    go (row_apart con next) = none_some l (sym (apart_of s p row h con) ∙ link)
    go (begins n b) = none_some l (sym (apart_of s p row h b.first.connection_is) ∙ link)
    go (goes_on n c g) = by n (h.was.books.knows n g.row_is.connection_is g.calm)
    go (ends n g) = by n (h.was.books.knows n g.connection_is g.calm)
    go (under_reset on none) = wrong (sym on ∙ calm)

not_unknown : {A : Type 0} (o : Option Process) → is_some o ≡ true → is_none o ≡ true → A
not_unknown None e f = wrong' e
not_unknown (Some x) e f = wrong' f

-- ---- with what its reply may change

abbrev pub IsHereEnd : ScenarioValue → RunState → Row → ProcId → ℕ → Type 0
IsHereEnd s k row id status = IsEnding s k (row_reading k.story.bus_state row) row id status

pub data Changing (s : ScenarioValue) (k : RunState) (row : Row) (q : Process) : Type 0 where
  by_run : (x : Process) → process_of s x.id ≡ Some x → is_of_unit x q.target q.unit ≡ true
      → has_run (row_events_by s k.story (row_reading k.story.bus_state row) row) x.id ≡ true → Changing s k row q
  by_end : (x : Process) (status : ℕ) → process_of s x.id ≡ Some x → is_of_unit x q.target q.unit ≡ true
      → IsHereEnd s k row x.id status → Changing s k row q
  by_abort : (i t m : ℕ) (what : AbortKind)
      → row_events_by s k.story (row_reading k.story.bus_state row) row ≡ Event.Aborted i t m what ∷ []
      → is_some (row_reading k.story.bus_state row).next ≡ false → abort_may_change q i t m what ≡ true
      → Changing s k row q

not_elsewhere : (s : ScenarioValue) (id : ProcId) (t m : ℕ) (x : Process) → process_of s id ≡ Some x
    → not (is_of_other_unit (process_of s id) t m) ≡ true → is_of_unit x t m ≡ true
not_elsewhere s id t m x e f =
    go (is_of_unit x t m) (ap (λ (o : Option Process). not (is_of_other_unit o t m)) (sym e) ∙ f)
  where
    go : (q : Bool) → not (not q) ≡ true → q ≡ true
    go true z = refl
    go false z = wrong' z

-- An event that is shown.
record IsFound (s : ScenarioValue) (k : RunState) (row : Row) (q : Process) (shown : List Event) : Type 0 where
  event : Event
  shown_as : ShownAs s k (row_reading k.story.bus_state row) row event
  changes : may_change s q event ≡ true
  stands : (f : Event → Bool) → f event ≡ true → list_any f shown ≡ true

found : (s : ScenarioValue) (k : RunState) (row : Row) (q : Process) (shown : List Event)
    → OnEvents (ShownAs s k (row_reading k.story.bus_state row) row) shown → any_may_change s q shown ≡ true
    → IsFound s k row q shown
found s k row q [] h e = wrong' e
found s k row q (event ∷ shown) h e = go (may_change s q event) refl e (λ z. found s k row q shown h.1 z)
  where
    go : (x : Bool) → may_change s q event ≡ x → (x || any_may_change s q shown) ≡ true
        → (any_may_change s q shown ≡ true → IsFound s k row q shown) → IsFound s k row q (event ∷ shown)
    go true z w rest =
        record { event = event; shown_as = h.0; changes = z; stands = λ f y. λ i. y i || list_any f shown }
    go false z w rest =
        let g = rest w in
        record {
          event = g.event;
          shown_as = g.shown_as;
          changes = g.changes;
          stands = λ f y. or_right (f event) (list_any f shown) (g.stands f y);
        }

run_is : (id : ProcId) → is_run_of id (Event.Run id) ≡ true
run_is id = self_id id

pub changing : (s : ScenarioValue) (p : List Row) (row : Row) (h : Known s p row) (q : Process)
    → (row_reading (run_state s p).story.bus_state row).change.after.rst ≡ false
    → any_may_change s q (row_events_by s (run_state s p).story (row_reading (run_state s p).story.bus_state row) row)
    ≡ true → Changing s (run_state s p) row q
changing s p row h q calm may =
    by_bool (is_some d.next)
    (λ e. stands e (found s k row q shown (row_shown s k row) may))
    (λ e. free e k.story.link refl)
  where
    k : RunState
    k = run_state s p

    d : RowReading
    d = row_reading k.story.bus_state row

    shown : List Event
    shown = row_events_by s k.story d row

    shown_is : shown ≡ link_events s k.story k.story.link d
    shown_is = λ i. if calm i then (if rises d.change.own.rst d.change.next.rst then Event.Reset row.dev ∷ [] else [])
        else link_events s k.story k.story.link d

    none_shown : {A : Type 0} → shown ≡ [] → A
    none_shown e = wrong' (sym (ap (any_may_change s q) e) ∙ may)

    known : (id : ProcId) (l : Link) → k.story.link ≡ Some l → l.item ≡ Some (process id)
        → is_none (process_of s id) ≡ true → Changing s k row q
    known id l link item none = not_unknown (process_of s id) (known_process s p row h l id calm link item) none

    here : (id : ProcId) (l : Link) → IsHere k d l id → is_none (process_of s id) ≡ true → Changing s k row q
    here id l w none = known id l w.link_is w.item_is none

    free : is_some d.next ≡ false → (o : Option Link) → k.story.link ≡ o → Changing s k row q
    free next None e = none_shown (shown_is ∙ ap (λ (o : Option Link). link_events s k.story o d) e)
    free next (Some l) e = last l.last refl
      where
        freed : shown ≡ bus_free_events s l l.last
        freed = shown_is ∙ ap (λ (o : Option Link). link_events s k.story o d) e ∙ (λ i.
            if next i then Rattle.due_model.specs.story_model.specs.HistoryEvents.connection_events s k.story l d
            else bus_free_events s l l.last)

        lost : (o : Option Item) → l.item ≡ o → shown ≡ item_loss_events l.item → Changing s k row q
        lost None ei z = none_shown (z ∙ ap item_loss_events ei)
        lost (Some (abort n)) ei z = none_shown (z ∙ ap item_loss_events ei)
        lost (Some (process id)) ei z = known id l e ei
            (first (is_none (process_of s id)) (sym (ap (any_may_change s q) (z ∙ ap item_loss_events ei)) ∙ may))
          where
            first : (x : Bool) → (x || false) ≡ true → x ≡ true
            first true w = refl
            first false w = wrong' w

        line : (o : Option AbortDef) → shown ≡ abort_line_events o → Changing s k row q
        line None z = none_shown z
        line (Some a) z = by_abort a.host a.target a.unit a.what z next
            (first (abort_may_change q a.host a.target a.unit a.what) (sym (ap (any_may_change s q) z) ∙ may))
          where
            first : (x : Bool) → (x || false) ≡ true → x ≡ true
            first true w = refl
            first false w = wrong' w

        aborted : (o : Option Item) → l.item ≡ o → shown ≡ item_abort_events s l.item → Changing s k row q
        aborted None ei z = none_shown (z ∙ ap (item_abort_events s) ei)
        aborted (Some (process id)) ei z = none_shown (z ∙ ap (item_abort_events s) ei)
        aborted (Some (abort n)) ei z = line (abort_line_at s.aborts n) (z ∙ ap (item_abort_events s) ei)

        last : (m : LastMessage) → l.last ≡ m → Changing s k row q
        last plain z = lost l.item refl (freed ∙ ap (bus_free_events s l) z)
        last complete z = none_shown (freed ∙ ap (bus_free_events s l) z)
        last disconnect z = none_shown (freed ∙ ap (bus_free_events s l) z)
        last abortive z = aborted l.item refl (freed ∙ ap (bus_free_events s l) z)

    of_run : (id : ProcId) (l : Link) → IsHere k d l id
        → not (is_of_other_unit (process_of s id) q.target q.unit) ≡ true → has_run shown id ≡ true
        → (o : Option Process) → process_of s id ≡ o → Changing s k row q
    of_run id l w place ran None e = here id l w (ap (λ (o : Option Process). is_none o) e)
    of_run id l w place ran (Some x) e =
        let same = process_id s id x e in
        by_run x (ap (process_of s) same ∙ e) (not_elsewhere s id q.target q.unit x e place)
        (ap (has_run shown) same ∙ ran)

    of_end : (id : ProcId) (status : ℕ) → IsEnding s k d row id status
        → not (is_of_other_unit (process_of s id) q.target q.unit) ≡ true → (o : Option Process) → process_of s id ≡ o
        → Changing s k row q
    of_end id status w place None e = here id w.link w.here (ap (λ (o : Option Process). is_none o) e)
    of_end id status w place (Some x) e =
        let same = process_id s id x e in
        by_end x status (ap (process_of s) same ∙ e) (not_elsewhere s id q.target q.unit x e place)
        (subst (λ (i : ProcId). IsEnding s k d row i status) (sym same) w)

    stands : is_some d.next ≡ true → IsFound s k row q shown → Changing s k row q
    stands next g = by g.event g.shown_as g.changes g.stands
      where
        by : (e : Event) → ShownAs s k d row e → may_change s q e ≡ true
            → ((f : Event → Bool) → f e ≡ true → list_any f shown ≡ true) → Changing s k row q
        by (Event.Accept id) w m f = here id w.link w.here m
        by (Event.Refuse id) w m f = here id w.link w.here m
        by (Event.Fail id code) w m f = here id w.link w.here m
        by (Event.Run id) w m f = of_run id w.link w.here m (f (λ e. is_run_of id e) (run_is id)) (process_of s id) refl
        by (Event.End id status) w m f = of_end id status w m (process_of s id) refl
        by (Event.Lost id) w m f = wrong (sym next ∙ w)
        by (Event.Aborted i t n what) w m f = wrong (sym next ∙ w)
        by (Event.Reset dev) w m f = wrong (sym w ∙ calm)

-- ---- an abort drops those whose reply it may change

pub dropped_by : (q : Process) (i t m : ℕ) (what : AbortKind) → abort_may_change q i t m what ≡ true
    → stays_queued (Event.Aborted i t m what) q ≡ false
dropped_by q i t m AbortKind.All e = of (i == q.initiator) refl (t == q.target) refl (m == q.unit) refl e
  where
    of : (x : Bool) → (i == q.initiator) ≡ x → (y : Bool) → (t == q.target) ≡ y → (z : Bool) → (m == q.unit) ≡ z
        → (x && (y && z)) ≡ true → not (q.initiator == i && (q.target == t && q.unit == m)) ≡ false
    of false ex y ey z ez w = wrong' w
    of true ex false ey z ez w = wrong' w
    of true ex true ey false ez w = wrong' w
    of true ex true ey true ez w =
        λ j. not ((eq_turned q.initiator i ∙ ex) j && ((eq_turned q.target t ∙ ey) j && (eq_turned q.unit m ∙ ez) j))
dropped_by q i t m (AbortKind.Tag x) e = wrong' e
dropped_by q i t m AbortKind.WholeQueue e = of (t == q.target) refl (m == q.unit) refl e
  where
    of : (y : Bool) → (t == q.target) ≡ y → (z : Bool) → (m == q.unit) ≡ z → (y && z) ≡ true
        → not (q.target == t && q.unit == m) ≡ false
    of false ey z ez w = wrong' w
    of true ey false ez w = wrong' w
    of true ey true ez w = λ j. not ((eq_turned q.target t ∙ ey) j && (eq_turned q.unit m ∙ ez) j)
dropped_by q i t m AbortKind.Device e = λ j. not ((eq_turned q.target t ∙ e) j)

-- ---- one that ends is no guest then

end_away : (s : ScenarioValue) (a b : Array) (id : ProcId) (status : ℕ) → step s (Event.End id status) a ≡ Some b
    → OnGuests (IsAway id) b.guests
end_away s a b id status st = go (Steps.running_process a id) refl st
  where
    ended : (r : RunningProcess) → r.process.id ≡ id → (c : Array) (x : Bool)
        → Steps.settled_array_if (if x then Some (Steps.array_without c r.process.id) else None) ≡ Some b
        → OnGuests (IsAway id) b.guests
    ended r own c false e = none_some b e
    ended r own c true e = subst (λ (y : Array). OnGuests (IsAway id) y.guests)
        (same_Some (settled_array (Steps.array_without c r.process.id)) b e)
        (subst (λ (i : ProcId). OnGuests (IsAway i) (settled_array (Steps.array_without c r.process.id)).guests) own
        (leaves c r.process.id).rests.guests)

    with : (r : RunningProcess) → r.process.id ≡ id → (o : Option Reply)
        → Steps.settled_array_if (Steps.end_step_with a r.process status o) ≡ Some b → OnGuests (IsAway id) b.guests
    with r own None e = none_some b e
    with r own (Some reply) e = ended r own (Steps.after_status a r.process reply) (reply.status == status) e

    go : (o : Option RunningProcess) → Steps.running_process a id ≡ o
        → Steps.settled_array_if (Steps.end_step a status o) ≡ Some b → OnGuests (IsAway id) b.guests
    go None z e = none_some b e
    go (Some r) z e = with r (running_id a id r z) r.reply e

-- ---- each unit is found

found_units : (units : List UnitState) → AreApart units
    → AllUnits (λ u. unit_state_at units u.target u.unit ≡ Some u) units
found_units [] h = tt
found_units (u ∷ units) h = (
  ap (λ (q : Bool). if q then Some u else unit_state_at units u.target u.unit) here,
  map_units (λ v. unit_state_at units v.target v.unit ≡ Some v)
      (λ v. unit_state_at (u ∷ units) v.target v.unit ≡ Some v) units (λ v e. later v e) (found_units units h.1),
)
  where
    here : (u.target == u.target && u.unit == u.unit) ≡ true
    here = (λ i. eq_self u.target i && u.unit == u.unit) ∙ eq_self u.unit

    later : (v : UnitState) → unit_state_at units v.target v.unit ≡ Some v
        → (if u.target == v.target && u.unit == v.unit then Some u else unit_state_at units v.target v.unit) ≡ Some v
    later v e = go (u.target == v.target) refl (u.unit == v.unit) refl
      where
        go : (x : Bool) → (u.target == v.target) ≡ x → (y : Bool) → (u.unit == v.unit) ≡ y
            → (if x && y then Some u else unit_state_at units v.target v.unit) ≡ Some v
        go false ex y ey = e
        go true ex false ey = e
        go true ex true ey = none_some v
            (sym h.0 ∙ (λ i. unit_state_at units (eqb-true u.target v.target ex i) (eqb-true u.unit v.unit ey i)) ∙ e)

-- ---- each process

pub record StaysAsked (s : ScenarioValue) (p : List Row) (row : Row) : Type 0 where
  pub seats : HasSeats s
  pub inside : row.dev < 8
  pub known : Known s p row
  pub empty : (bus (row ∷ p)).rst ≡ true → AllUnits IsEmptyUnit (array_of s (run_state s (row ∷ p))).units
  pub senseless : SenselessFacts s p
  pub senseless_then : SenselessFacts s (row ∷ p)
  pub clean : CleanFacts s (row ∷ p)

pub stays_so : (s : ScenarioValue) (p : List Row) (row : Row) → StaysAsked s p row → StaysSo s (run_state s p) row
stays_so s p row w = by_bool d.change.after.rst (λ e. subst (OnOpen (HasReplyThen s k row)) (sym (then_is s p row h))
    (cleared (ap (λ (x : Change). x.after.rst) (sym (change_plain s row p h.was.standing.devices w.inside)) ∙ e)))
    (λ e. subst (OnOpen (HasReplyThen s k row)) (sym (then_is s p row h)) (calm_all e))
  where
    h : Known s p row
    h = w.known

    k : RunState
    k = run_state s p

    j : RunState
    j = run_state s (row ∷ p)

    d : RowReading
    d = row_reading k.story.bus_state row

    shown : List Event
    shown = row_events_by s k.story d row

    a : Array
    a = h.places.array

    b : Array
    b = h.later.array

    St : RunningProcess → Type 0
    St = IfOpen (HasReplyThen s k row) b

    -- with RST no process stands in the array
    cleared : (bus (row ∷ p)).rst ≡ true → OnOpen (HasReplyThen s k row) b
    cleared on = record {
      units = none b.units (subst (λ (x : Array). AllUnits IsEmptyUnit x.units) (then_is s p row h) (w.empty on));
      guests = none_guests St b.guests (λ id. (h.later.reset
          (ap (λ (l : LineSet). l.rst) (run_state_plain s (row ∷ p) h.next.stood.standing.devices).bus ∙ on)
          id).guests);
    }
      where
        waits : (waiting : List Process) → AllP (λ q. ⊥) waiting → Waits St waiting
        waits [] z = tt
        waits (q ∷ waiting) z = absurd z.0

        runs : (o : Option RunningProcess) → Runs (λ r. ⊥) o → Runs St o
        runs None z = tt
        runs (Some r) z = absurd z

        none : (units : List UnitState) → AllUnits IsEmptyUnit units → OnUnits St units
        none [] z = tt
        none (u ∷ units) z = ((waits u.waiting z.0.0, runs u.current z.0.1), none units z.1)

    calm_all : d.change.after.rst ≡ false → OnOpen (HasReplyThen s k row) b
    calm_all calm = record {
      units = units_by b.units (found_units b.units h.later.sound.apart)
          (subst (λ (x : Array). AllUnits (IsCleanUnit (moved_of j)) x.units) (then_is s p row h) w.clean) (subst
          (λ (x : Array). UnitsP IsNoSense x.units) (then_is s p row h) w.senseless_then) h.later.sound.units staying;
      guests = guests_by b.guests h.later.sound.guests (λ id f. (h.later.rests id f).guests)
          (λ id status e. end_away s a b id status (one (Event.End id status) e));
    }
      where
        one : (e : Event) → shown ≡ e ∷ [] → step s e a ≡ Some b
        one e z = sym (ap (array_after_events s (Some a)) z) ∙ steps_of s p row h

        staying : (e : Event) → shown ≡ e ∷ [] → UnitsP (λ q. stays_queued e q ≡ true) b.units
        staying e z = Queued.map_units (λ q. IsNoSense q × (stays_queued e q ≡ true)) (λ q. stays_queued e q ≡ true)
            (λ q x. x.1) b.units (step_units s IsNoSense a b e (λ id q f own none. none)
            (subst (λ (x : Array). UnitsP IsNoSense x.units) (here_is s p row h) w.senseless) (one e z))

        arrays : (q : Process) → reply_now b q ≡ reply_now a q → reply_now (array_of s j) q ≡ reply_now (array_of s k) q
        arrays q e = ap (λ (x : Array). reply_now x q) (then_is s p row h) ∙ e
            ∙ ap (λ (x : Array). reply_now x q) (sym (here_is s p row h))

        current_by : (u : UnitState) (r : RunningProcess) → unit_state_at b.units u.target u.unit ≡ Some u
            → u.current ≡ Some r → IsNoSense r.process → IsOwn s u.target u.unit r.process
            → ((e : Event) → shown ≡ e ∷ [] → stays_queued e r.process ≡ true) → St r
        current_by u r found eu calls own stays none q is some may = by (changing s p row h q calm may)
          where
            same : r.process ≡ q
            same = same_Some r.process q (sym own.is ∙ is)

            there : IsCurrent b q
            there = record {
              unit = u;
              unit_is = (λ i. unit_state_at b.units (sym same i).target (sym same i).unit)
                  ∙ (λ i. unit_state_at b.units (own.target_is i) (own.unit_is i)) ∙ found;
              running = r;
              current_is = eu;
              process_is = same;
              unanswered = ap (λ (y : Process). reply_in b.replies y.id) (sym same) ∙ none;
            }

            by : Changing s k row q → reply_now (array_of s j) q ≡ reply_now (array_of s k) q
            by (by_run x own_x place ran) = arrays q (run_same s p row h x q w.seats own_x place ran there)
            by (by_end x status own_x place ending) = arrays q (end_same s a b x q status w.seats h.places.sound
                own_x place (ap (λ (y : Process). is_request_sense (command_of y.cdb)) (sym same) ∙ calls)
                (one (Event.End x.id status) ending.alone))
            by (by_abort i t n what alone next changes) = wrong' (sym (dropped_by q i t n what changes)
                ∙ ap (stays_queued (Event.Aborted i t n what)) (sym same) ∙ stays (Event.Aborted i t n what) alone)

        current : (u : UnitState) → unit_state_at b.units u.target u.unit ≡ Some u
            → (o : Option RunningProcess) → u.current ≡ o → RunsP IsNoSense o → IsOwnRunning s u.target u.unit o
            → ((e : Event) → shown ≡ e ∷ [] → RunsP (λ q. stays_queued e q ≡ true) o) → Runs St o
        current u found None eu y own stays = tt
        current u found (Some r) eu y own stays = current_by u r found eu y own stays

        waits : (waiting : List Process) → AllP (λ q. moved_of j q.id ≡ []) waiting → Waits St waiting
        waits [] z = tt
        waits (q ∷ waiting) z = ((λ none x is some may. absurd (some z.0)), waits waiting z.1)

        units_by : (units : List UnitState) → AllUnits (λ u. unit_state_at b.units u.target u.unit ≡ Some u) units
            → AllUnits (IsCleanUnit (moved_of j)) units → UnitsP IsNoSense units → AllOwnUnits s units
            → ((e : Event) → shown ≡ e ∷ [] → UnitsP (λ q. stays_queued e q ≡ true) units) → OnUnits St units
        units_by [] x y z own stays = tt
        units_by (u ∷ units) x y z own stays = (
          (waits u.waiting y.0, current u x.0 u.current refl z.0.1 own.0.current (λ e v. (stays e v).0.1)),
          units_by units x.1 y.1 z.1 own.1 (λ e v. (stays e v).1),
        )

        -- one outside the queues that is open is served
        guest_by : (r : RunningProcess) → process_of s r.process.id ≡ Some r.process
            → ((id : ProcId) → is_served_by j.served id ≡ false → IsAway id r)
            → ((id : ProcId) (status : ℕ) → shown ≡ Event.End id status ∷ [] → IsAway id r) → St r
        guest_by r own rests ended none q is some may = by (changing s p row h q calm may)
          where
            Same : Type 0
            Same = reply_now (array_of s j) q ≡ reply_now (array_of s k) q

            it_is : (x : Process) (l : Link) → IsHere k d l x.id → same_id r.process.id x.id ≡ true
            it_is x l here =
                by_bool (is_served_by j.served r.process.id)
                (λ z. ap (λ (o : Option Item). is_served_by o r.process.id) (sym served) ∙ z)
                (λ z. wrong (sym (self_id r.process.id) ∙ rests r.process.id z))
              where
                g : GoesSo s k row
                g = here_goes s k row l x.id (apart_of s p row h) h.next.row_is here

                kept : (o : Option Connection) → is_some o ≡ true → served_after s k (Some g.connection) o ≡ k.served
                kept None z = wrong' z
                kept (Some m) z = refl

                served : j.served ≡ Some (process x.id)
                served = (λ i. served_after s k (g.goes.row_is.connection_is i) d.next) ∙ kept d.next here.stands
                    ∙ known_served s k row g.connection g.change l x.id h.was.books g.goes here.link_is here.item_is

            by : Changing s k row q → Same
            by (by_run x own_x place ran) =
                let answer : IsAnswer k d x.id = answer_here s k row x.id (row_runs s k row x.id ran) in
                let same : r.process.id ≡ x.id = id_is r.process.id x.id (it_is x answer.link answer.here) in
                wrong' (sym (ap (λ (o : Option Reply). is_some o) none)
                ∙ ap (λ (i : ProcId). is_some (reply_in b.replies i)) same ∙ run_replies s p row h x w.seats own_x ran)
            by (by_end x status own_x place e) = wrong (sym (it_is x e.link e.here) ∙ ended x.id status e.alone)
            by (by_abort i t n what alone next changes) = wrong (sym (self_id r.process.id) ∙ rests r.process.id
                (ap (λ (o : Option Item). is_served_by o r.process.id) (h.later.unserved (none_there d.next next))))
              where
                none_there : (o : Option Connection) → is_some o ≡ false → o ≡ None
                none_there None z = refl
                none_there (Some n) z = wrong z

        guests_by : (guests : List RunningProcess) → AllOwnGuests s guests
            → ((id : ProcId) → is_served_by j.served id ≡ false → OnGuests (IsAway id) guests)
            → ((id : ProcId) (status : ℕ) → shown ≡ Event.End id status ∷ [] → OnGuests (IsAway id) guests)
            → OnGuests St guests
        guests_by [] own rests ended = tt
        guests_by (r ∷ guests) own rests ended = (
          guest_by r own.0 (λ id f. (rests id f).0) (λ id status e. (ended id status e).0),
          guests_by guests own.1 (λ id f. (rests id f).1) (λ id status e. (ended id status e).1),
        )

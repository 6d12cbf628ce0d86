-- A process that waits in a unit has carried no data, and no REQUEST SENSE stands in a queue (6.1.5.1, 7.5, 7.8).
use Rattle.right_laws.proofs
use proofs.Names.{ℕ, ◌≡◌, ◌⊎◌, inl, inr, Bool, true, false, not, ◌&&◌, ◌==◌, ◌∙◌, List, [], ◌∷◌, Option, Some, None}
use proofs.Names.{refl, sym, ap, subst, same_Some, if◌then◌else◌, is_some, wrong, wrong', eq_self, Event, ProcId}
use proofs.Names.{is_data, Row, Change, command_of, units_of, ScenarioValue, array_step, is_request_sense, choice}
use proofs.Names.{Process, process_of, same_id, IsOwn, AllOwn, IsOwnUnit, AllOwnUnits, IsSound, RunningProcess}
use proofs.Names.{without_reply, UnitState, Nexus, Array, unit_state_at, guest_at, is_held, has_no_current}
use proofs.Names.{with_current, unit_after_choice, starting_array, settled_array, carried_id, RowReading, row_reading}
use proofs.Names.{CarriedBytes, carried_if, row_events_by, Item, process, abort, Link, phase_of, Phase, ProcessProgress}
use proofs.Names.{RunState, array_of, bus_of, carried_here, run_state, array_after_events, Writer, process_id, id_is}
use proofs.Names.{self_id, none_some, by_bool, step_units, MayWait, StaysSo, each_settled, events_all, HoldsIt}
use proofs.Names.{IsElsewhere, Stands, append_all, empty_stays, kept_all, map_all, map_units, none_at, stands_each}
use proofs.Names.{start_empty, without_all, AllP, RunsP, UnitsP, Runs, MayRun, RunsOpen, PlacedIn, AllUnits}
use proofs.Names.{IsEmptyUnit, IsOther, IsWrittenUnit, away_guest, ArrivesNow, arrives_first, NoneAtArrival}
use proofs.{Given.Bytes.{moved_stays, no_data_in_command}, Ran.Crossings.{GoesSo, InBytes, IsPlaced, byte_phase}}
use proofs.Ran.{Crossings.{crossing_goes, in_command, in_data, in_status, known_served, placed_here}, Facts.{Known}}
use proofs.Ran.Facts.{here_is, steps_of, then_is}
use Rattle.due_model.specs.array_model.specs.Steps
use Rattle.trace_laws.specs.row_laws.proofs.Events.Queued

-- ---- what is kept

abbrev pub moved_of : RunState → ProcId → List ℕ
moved_of k id = (carried_here k id).moved.bytes

abbrev pub IsUnmoved : (ProcId → List ℕ) → Process → Type 0
IsUnmoved moved c = moved c.id ≡ []

abbrev pub IsCleanUnit : (ProcId → List ℕ) → UnitState → Type 0
IsCleanUnit moved u = AllP (IsUnmoved moved) u.waiting

abbrev pub CleanFacts : ScenarioValue → List Row → Type 0
CleanFacts s rows = AllUnits (IsCleanUnit (moved_of (run_state s rows))) (array_of s (run_state s rows)).units

abbrev pub IsNoSense : Process → Type 0
IsNoSense c = is_request_sense (command_of c.cdb) ≡ false

abbrev pub SenselessFacts : ScenarioValue → List Row → Type 0
SenselessFacts s rows = UnitsP IsNoSense (array_of s (run_state s rows)).units

clean_stays : (moved : ProcId → List ℕ) → StaysSo (IsCleanUnit moved)
clean_stays moved = record {
  contents = λ u c h. h;
  replied = λ u id reply h. h;
  without = λ u id h. without_all (IsUnmoved moved) u.waiting id h;
  kept = λ u drops h. kept_all (IsUnmoved moved) drops u.waiting h;
  chosen = chosen;
}
  where
    chosen : (u : UnitState) (holds : List Nexus) → IsCleanUnit moved u → IsCleanUnit moved (unit_after_choice holds u)
    chosen u holds h = go (has_no_current u.current && not (is_held holds u.target u.unit)) (choice u.pick u.waiting)
      where
        go : (x : Bool) (t : Option Process) → IsCleanUnit moved (if x then with_current u t else u)
        go true None = h
        go true (Some t) = without_all (IsUnmoved moved) u.waiting t.id h
        go false t = h

-- ---- before any row

clean_empty : (moved : ProcId → List ℕ) (units : List UnitState) → AllUnits IsEmptyUnit units
    → AllUnits (IsCleanUnit moved) units
clean_empty moved units h = map_units IsEmptyUnit (IsCleanUnit moved) units
    (λ u k. map_all (λ p. ⊥) (IsUnmoved moved) u.waiting (λ p z. absurd z) k.0) h

senseless_empty : (units : List UnitState) → AllUnits IsEmptyUnit units → UnitsP IsNoSense units
senseless_empty [] h = tt
senseless_empty (u ∷ units) h =
    ((map_all (λ p. ⊥) IsNoSense u.waiting (λ p z. absurd z) h.0.0, run u.current h.0.1), senseless_empty units h.1)
  where
    run : (o : Option RunningProcess) → Runs (λ r. ⊥) o → RunsP IsNoSense o
    run None e = tt
    run (Some r) e = absurd e

start_units : (s : ScenarioValue) → AllUnits IsEmptyUnit (settled_array (starting_array s)).units
start_units s = each_settled IsEmptyUnit (starting_array s) empty_stays (start_empty s (units_of s))

pub clean_start : (s : ScenarioValue) → CleanFacts s []
clean_start s = clean_empty (moved_of (run_state s [])) (settled_array (starting_array s)).units (start_units s)

pub senseless_start : (s : ScenarioValue) → SenselessFacts s []
senseless_start s = senseless_empty (settled_array (starting_array s)).units (start_units s)

-- ---- no REQUEST SENSE

senseless_events : (s : ScenarioValue) (a b : Array) (shown : List Event) → UnitsP IsNoSense a.units
    → array_after_events s (Some a) shown ≡ Some b → UnitsP IsNoSense b.units
senseless_events s a b [] h e = subst (λ (x : Array). UnitsP IsNoSense x.units) (same_Some a b e) h
senseless_events s a b (event ∷ shown) h e =
    go (array_after_events s (Some a) shown) refl e (λ c z. senseless_events s a c shown h z)
  where
    go : (o : Option Array) → array_after_events s (Some a) shown ≡ o → array_step s event o ≡ Some b
        → ((c : Array) → array_after_events s (Some a) shown ≡ Some c → UnitsP IsNoSense c.units)
        → UnitsP IsNoSense b.units
    go None z w rest = none_some b w
    go (Some c) z w rest = Queued.map_units (λ p. IsNoSense p × (Queued.stays_queued event p ≡ true)) IsNoSense
        (λ p k. k.0) b.units (step_units s IsNoSense c b event (λ id p f is none. none) (rest c z) w)

pub senseless_next : (s : ScenarioValue) (p : List Row) (row : Row) → Known s p row → SenselessFacts s p
    → SenselessFacts s (row ∷ p)
senseless_next s p row h was =
    let k : RunState = run_state s p in
    subst (λ (x : Array). UnitsP IsNoSense x.units) (sym (then_is s p row h))
    (senseless_events s h.places.array h.later.array (row_events_by s k.story (row_reading k.story.bus_state row) row)
    (subst (λ (x : Array). UnitsP IsNoSense x.units) (here_is s p row h) was) (steps_of s p row h))

-- ---- one that runs does not wait

abbrev pub IsNotIn : ProcId → UnitState → Type 0
IsNotIn id u = AllP (λ p. same_id p.id id ≡ false) u.waiting

own_all : (s : ScenarioValue) (t m : ℕ) (waiting : List Process) → AllOwn s t m waiting → AllP (IsOwn s t m) waiting
own_all s t m [] h = tt
own_all s t m (c ∷ waiting) h = (h.0, own_all s t m waiting h.1)

both_all : (q r t : Process → Type 0) (waiting : List Process) → ((c : Process) → q c → r c → t c) → AllP q waiting
    → AllP r waiting → AllP t waiting
both_all q r t [] f h g = tt
both_all q r t (c ∷ waiting) f h g = (f c h.0 g.0, both_all q r t waiting f h.1 g.1)

own_units : (s : ScenarioValue) (units : List UnitState) → AllOwnUnits s units → AllUnits (IsOwnUnit s) units
own_units s [] h = tt
own_units s (u ∷ units) h = (h.0, own_units s units h.1)

waits_units : (q : Process → Type 0) (units : List UnitState) → UnitsP q units → AllUnits (λ u. AllP q u.waiting) units
waits_units q [] h = tt
waits_units q (u ∷ units) h = (h.0.0, waits_units q units h.1)

both_units : (q r t : UnitState → Type 0) (units : List UnitState)
    → ((u : UnitState) → q u → r u → t u) → AllUnits q units → AllUnits r units → AllUnits t units
both_units q r t [] f h g = tt
both_units q r t (u ∷ units) f h g = (f u h.0 g.0, both_units q r t units f h.1 g.1)

-- A process of the scenario that is not of this place, or not of this kind, is another.
other_by : (s : ScenarioValue) (t m : ℕ) (c x : Process) → IsOwn s t m c → process_of s x.id ≡ Some x
    → (c ≡ x → ⊥) → same_id c.id x.id ≡ false
other_by s t m c x own is apart =
    by_bool (same_id c.id x.id)
    (λ e. absurd (apart (same_Some c x (sym own.is ∙ ap (process_of s) (id_is c.id x.id e) ∙ is))))
    (λ e. e)

placed_there : (t m : ℕ) (c : Process) → c.target ≡ t → c.unit ≡ m → (t == c.target && m == c.unit) ≡ true
placed_there t m c e f =
    (λ i. sym e i == c.target && sym f i == c.unit) ∙ (λ i. eq_self c.target i && c.unit == c.unit) ∙ eq_self c.unit

elsewhere_not : (s : ScenarioValue) (u : UnitState) (x : Process) → process_of s x.id ≡ Some x → IsOwnUnit s u
    → IsElsewhere u x → IsNotIn x.id u
elsewhere_not s u x is own other = map_all (IsOwn s u.target u.unit) (λ p. same_id p.id x.id ≡ false) u.waiting
    (λ p w. other_by s u.target u.unit p x w is (λ same. wrong' (sym other ∙ placed_there u.target u.unit x
    (ap (λ (y : Process). y.target) (sym same) ∙ w.target_is) (ap (λ (y : Process). y.unit) (sym same) ∙ w.unit_is))))
    (own_all s u.target u.unit u.waiting own.waiting)

held_not : (made : List ProcessProgress) (all : List Writer) (u : UnitState) (x : Process) → HoldsIt u x
    → IsWrittenUnit made all u → IsNotIn x.id u
held_not made all u x holds w =
    subst (λ (y : Process). AllP (λ p. same_id p.id y.id ≡ false) u.waiting) holds.process_is
    (subst (λ (o : Option RunningProcess). Runs (λ r. AllP (IsOther r) u.waiting) o) holds.current_is w.apart)

pub not_waits : (s : ScenarioValue) (made : List ProcessProgress) (all : List Writer) (a : Array) (x : Process)
    → IsSound s a → process_of s x.id ≡ Some x → UnitsP IsNoSense a.units → AllUnits (IsWrittenUnit made all) a.units
    → MayRun a x → AllUnits (IsNotIn x.id) a.units
not_waits s made all a x sound is plain written runs = go (guest_at a.guests x.id) refl runs.running_is
  where
    own : AllUnits (IsOwnUnit s) a.units
    own = own_units s a.units sound.units

    stands : AllUnits (Stands x) a.units → AllUnits (IsNotIn x.id) a.units
    stands h = both_units (λ u. Stands x u × IsOwnUnit s u)
        (IsWrittenUnit made all) (IsNotIn x.id) a.units (λ u k w. by u k.0 k.1 w)
        (both_units (Stands x) (IsOwnUnit s) (λ u. Stands x u × IsOwnUnit s u) a.units (λ u k w. (k, w)) h own) written
      where
        by : (u : UnitState) → Stands x u → IsOwnUnit s u → IsWrittenUnit made all u → IsNotIn x.id u
        by u (inl holds) o w = held_not made all u x holds w
        by u (inr other) o w = elsewhere_not s u x is o other

    absent : unit_state_at a.units x.target x.unit ≡ None → AllUnits (IsNotIn x.id) a.units
    absent e = both_units (λ u. IsElsewhere u x) (IsOwnUnit s) (IsNotIn x.id) a.units
        (λ u k o. elsewhere_not s u x is o k) (none_at a.units x e) own

    sensing : is_request_sense (command_of x.cdb) ≡ true → AllUnits (IsNotIn x.id) a.units
    sensing e =
        both_units (λ u. AllP IsNoSense u.waiting) (IsOwnUnit s) (IsNotIn x.id) a.units (λ u k o. both_all IsNoSense
        (IsOwn s u.target u.unit) (λ p. same_id p.id x.id ≡ false) u.waiting (λ p none w. other_by s u.target u.unit p
        x w is (λ same. wrong (sym e ∙ ap (λ (y : Process). is_request_sense (command_of y.cdb)) (sym same) ∙ none))) k
        (own_all s u.target u.unit u.waiting o.waiting)) (waits_units IsNoSense a.units plain) own

    guest : (g : RunningProcess) → guest_at a.guests x.id ≡ Some g → AllUnits (IsNotIn x.id) a.units
    guest g e = by runs.kind
      where
        by : ((unit_state_at a.units x.target x.unit ≡ None) ⊎ (is_request_sense (command_of x.cdb) ≡ true))
            ⊎ Rattle.trace_laws.specs.row_laws.specs.Places.IsAtRest a x.id
            → AllUnits (IsNotIn x.id) a.units
        by (inl (inl none)) = absent none
        by (inl (inr senses)) = sensing senses
        by (inr rests) = absurd (away_guest a.guests x.id g rests.guests e)

    go : (o : Option RunningProcess) → guest_at a.guests x.id ≡ o
        → (if is_some o then o else Steps.running_in a.units x.id) ≡ Some (without_reply x)
        → AllUnits (IsNotIn x.id) a.units
    go None e w = stands (stands_each s a.units x (without_reply x) sound.units sound.apart is w)
    go (Some g) e w = guest g e

-- ---- the bytes that cross are of one that runs

abbrev IsQuiet : ScenarioValue → List Row → Row → ProcId → Type 0
IsQuiet s p row id = (l : Link) → (run_state s p).story.link ≡ Some l → l.item ≡ Some (process id)
    → (row_reading (run_state s p).story.bus_state row).crosses ≡ true
    → is_data (row_reading (run_state s p).story.bus_state row).change.before ≡ false

abbrev AreQuiet : ScenarioValue → List Row → Row → UnitState → Type 0
AreQuiet s p row u = AllP (λ q. IsQuiet s p row q.id) u.waiting

every : (q : Process → Type 0) (waiting : List Process) → ((c : Process) → q c) → AllP q waiting
every q [] f = tt
every q (c ∷ waiting) f = (f c, every q waiting f)

every_unit : (q : Process → Type 0) (units : List UnitState)
    → ((c : Process) → q c) → AllUnits (λ u. AllP q u.waiting) units
every_unit q [] f = tt
every_unit q (u ∷ units) f = (every q u.waiting f, every_unit q units f)

quiet_units :
    (s : ScenarioValue) (p : List Row) (row : Row) (made : List ProcessProgress) (all : List Writer) (h : Known s p row)
    → UnitsP IsNoSense h.places.array.units → AllUnits (IsWrittenUnit made all) h.places.array.units
    → AllUnits (AreQuiet s p row) h.places.array.units
quiet_units s p row made all h plain written = go d.crosses refl (is_data d.change.before) refl
  where
    k : RunState
    k = run_state s p

    d : RowReading
    d = row_reading k.story.bus_state row

    a : Array
    a = h.places.array

    crossing : d.crosses ≡ true → is_data d.change.before ≡ true
        → (g : GoesSo s k row) → (o : Option Item) → k.served ≡ o → AllUnits (AreQuiet s p row) a.units
    crossing ex ey g o served = by o served
      where
        known : (id : ProcId) (l : Link) → k.story.link ≡ Some l → l.item ≡ Some (process id)
            → k.served ≡ Some (process id)
        known id l link item = known_served s k row g.connection g.change l id h.was.books g.goes link item

        none_of : (o : Option Item) → ((id : ProcId) → o ≡ Some (process id) → ⊥) → k.served ≡ o
            → AllUnits (AreQuiet s p row) a.units
        none_of o never served = every_unit (λ q. IsQuiet s p row q.id) a.units
            (λ q l link item e. absurd (never q.id (sym served ∙ known q.id l link item)))

        abort_not : (v : ℕ) (id : ProcId) → (let o : Option Item = Some (abort v) in o) ≡ Some (process id) → ⊥
        abort_not v id e = absurd cc

        of_process : (id : ProcId) → k.served ≡ Some (process id) → AllUnits (AreQuiet s p row) a.units
        of_process id served = map_units (IsNotIn w.process.id) (AreQuiet s p row) a.units
            (λ u none. map_all (λ q. same_id q.id w.process.id ≡ false) (λ q. IsQuiet s p row q.id) u.waiting
            (λ q other l link item e. wrong (sym (same q.id l link item) ∙ other)) none) (not_waits s made all a
            w.process h.places.sound (ap (process_of s) w.id_is ∙ w.process_is) plain written opens.runs)
          where
            w : IsPlaced s k a id
            w = placed_here s k row g.connection g.change id h.places g.goes served (g.goes.begun ex)

            line : is_data (bus_of k) ≡ true
            line = ap is_data g.goes.row_is.bus_is ∙ ap (λ (c : Change). is_data c.before) (sym g.goes.row_is.change_is)
                ∙ ey

            said : (bus_of k).msg ≡ false
            said = of (bus_of k).msg (bus_of k).cd line
              where
                of : (m c : Bool) → (not m && not c) ≡ true → m ≡ false
                of true c z = wrong' z
                of false c z = refl

            placed : (x : Phase) → phase_of (bus_of k) ≡ x
                → PlacedIn a w.process k.exchange.plan k.handshakes (bus_of k).atn x
            placed x e =
                subst (λ (y : Phase). PlacedIn a w.process k.exchange.plan k.handshakes (bus_of k).atn y) e w.placed

            by_bytes : InBytes (bus_of k) → RunsOpen a w.process
            by_bytes (in_command e f) = wrong (sym line ∙ no_data_in_command (bus_of k) f)
            by_bytes (in_data (inl e) f g) = placed Phase.DataIn e
            by_bytes (in_data (inr e) f g) = placed Phase.DataOut e
            by_bytes (in_status e f g z) = wrong (sym line ∙ g)

            opens : RunsOpen a w.process
            opens = by_bytes (byte_phase (bus_of k) said)

            id_same : (x y : ProcId) → (let o : Option Item = Some (process x) in o) ≡ Some (process y) → x ≡ y
            id_same x y e = ap (λ (o : Option Item). or_id x o) e
              where
                or_id : ProcId → Option Item → ProcId
                or_id z None = z
                or_id z (Some (process i)) = i
                or_id z (Some (abort v)) = z

            same : (q : ProcId) (l : Link) → k.story.link ≡ Some l → l.item ≡ Some (process q)
                → same_id q w.process.id ≡ true
            same q l link item = ap (same_id q) (w.id_is ∙ id_same id q (sym served ∙ known q l link item)) ∙ self_id q

        by : (o : Option Item) → k.served ≡ o → AllUnits (AreQuiet s p row) a.units
        by None e = none_of None (λ id z. none_some (process id) z) e
        by (Some (abort v)) e = none_of (Some (abort v)) (abort_not v) e
        by (Some (process id)) e = of_process id e

    go : (x : Bool) → d.crosses ≡ x → (y : Bool) → is_data d.change.before ≡ y → AllUnits (AreQuiet s p row) a.units
    go false ex y ey = every_unit (λ q. IsQuiet s p row q.id) a.units (λ q l link item e. wrong (sym e ∙ ex))
    go true ex false ey = every_unit (λ q. IsQuiet s p row q.id) a.units (λ q l link item e. ey)
    go true ex true ey = crossing ex ey (crossing_goes s k row h.next.row_is ex) k.served refl

-- ---- the next row

pub clean_next :
    (s : ScenarioValue) (p : List Row) (row : Row) (made : List ProcessProgress) (all : List Writer) (h : Known s p row)
    → NoneAtArrival (run_state s p) row → SenselessFacts s p
    → AllUnits (IsWrittenUnit made all) (array_of s (run_state s p)).units → CleanFacts s p → CleanFacts s (row ∷ p)
clean_next s p row made all h arrives plain written was =
    events_all s (IsCleanUnit (moved_of j)) k.array (row_events_by s k.story d row) (clean_stays (moved_of j))
    (arrives_first s k.story d row (MayWait s (IsCleanUnit (moved_of j)) (array_of s k)) waits)
    (clean_empty (moved_of j) (starting_array s).units (start_empty s (units_of s)))
    (subst (λ (x : Array). AllUnits (IsCleanUnit (moved_of j)) x.units) (sym (here_is s p row h)) rows)
  where
    k : RunState
    k = run_state s p

    j : RunState
    j = run_state s (row ∷ p)

    d : RowReading
    d = row_reading k.story.bus_state row

    quiet : AllUnits (AreQuiet s p row) h.places.array.units
    quiet = quiet_units s p row made all h (subst (λ (x : Array). UnitsP IsNoSense x.units) (here_is s p row h) plain)
        (subst (λ (x : Array). AllUnits (IsWrittenUnit made all) x.units) (here_is s p row h) written)

    rows : AllUnits (IsCleanUnit (moved_of j)) h.places.array.units
    rows = both_units (AreQuiet s p row) (IsCleanUnit (moved_of k)) (IsCleanUnit (moved_of j)) h.places.array.units
        (λ u still none. both_all (λ q. IsQuiet s p row q.id) (IsUnmoved (moved_of k))
        (IsUnmoved (moved_of j)) u.waiting (λ q x y. moved_stays s p row h q.id x ∙ y) still none) quiet
        (subst (λ (x : Array). AllUnits (IsCleanUnit (moved_of k)) x.units) (here_is s p row h) was)

    none : (l : Link) (x : CarriedBytes) → ArrivesNow k.story d l x → moved_of j x.id ≡ []
    none l x w = known l.item refl w.carried_is
      where
        at : (id : ProcId) → l.item ≡ Some (process id) → x.id ≡ id → moved_of j x.id ≡ []
        at id item same = ap (moved_of j) same
            ∙ moved_stays s p row h id (λ m e z crosses. no_data_in_command d.change.before w.command)
            ∙ arrives l id w.link_is item w.calm w.stands w.turns w.command

        known : (o : Option Item) → l.item ≡ o → carried_if k.story o ≡ Some x → moved_of j x.id ≡ []
        known None e f = no_carried f
          where
            no_carried : {A : Type 0} → (let o : Option CarriedBytes = None in o) ≡ Some x → A
            no_carried z = absurd cc
        known (Some (abort n)) e f = no_carried f
          where
            no_carried : {A : Type 0} → (let o : Option CarriedBytes = None in o) ≡ Some x → A
            no_carried z = absurd cc
        known (Some (process id)) e f = at id e
            (ap (λ (c : CarriedBytes). c.id) (sym (same_Some (carried_here k id) x f)) ∙ carried_id k.story.carried id)

    waits : (l : Link) (x : CarriedBytes) → ArrivesNow k.story d l x
        → MayWait s (IsCleanUnit (moved_of j)) (array_of s k) x.id
    waits l x w q u is at all =
        append_all (IsUnmoved (moved_of j)) u.waiting q all (ap (moved_of j) (process_id s x.id q is) ∙ none l x w)

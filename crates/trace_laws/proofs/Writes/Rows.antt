-- A row of a connection of a prompt trace, before and after which RST is false: of the processes of the units that
-- write.
use Rattle.trace_laws.proofs
use proofs.Names.{ℕ, ◌≡◌, ◌<◌, ◌⊎◌, inl, inr, Bool, true, false, not, ◌&&◌, ◌||◌, ◌==◌, ◌∙◌, List, ◌∷◌, length, Option}
use proofs.Names.{Some, None, refl, sym, ap, subst, and_parts, same_Some, if◌then◌else◌, is_some, is_none, wrong}
use proofs.Names.{wrong', ProcId, change_of, LineSet, changes_phase, is_data, connection, receiver_in, bus, Row, Change}
use proofs.Names.{Connection, has_group_len, ScenarioValue, reply_in, Process, process_of, HasSeats, is_waiting}
use proofs.Names.{running_in, running_process, RunningProcess, Array, guest_at, RowReading, row_reading, CarriedBytes}
use proofs.Names.{carried_if, Item, process, abort, Link, phase_of, phase_leaving, phase_entry, Leaving, Phase}
use proofs.Names.{run_state_plain, ProcessProgress, progress_in, progress_with, RunState, array_of, bus_of}
use proofs.Names.{process_served, process_item, carried_here, run_state, run_state_after, progress_by_leaving, leaving}
use proofs.Names.{serving_of, is_writing, instructions, is_new, is_opening, is_opening_in, is_command_phase, moves_data}
use proofs.Names.{Writer, writers, writers_with, is_data_out, is_data_in, process_id, in_connection, reading_is, Knows}
use proofs.Names.{RowKind, still, strikes, crosses, turns, GoesOn, change_plain, none_some, command_phase, by_bool}
use proofs.Names.{MayWait, may_wait, moved_units, same_units, own_units, Stood, NextStood, Planned, is_directed}
use proofs.Names.{writes_of, AllUnits, IsWrittenUnit, IsPresentWriter, IsUnrunServed, WritesAsked, IsAnsweredWhole}
use proofs.Names.{served_process, same_process, carried_of_item, phase_by, CommandBooks, CommandFacts, StandsIn}
use proofs.{Names.{TakesBlock, InstructedFacts, KnownIn}, Runs.Done.{DoneOut, out_done, done_in_data, same_runs}}
use proofs.{Runs.{Done.{counted_runs}, Rows.{served_id}}, Writes.{Arrivals.{ArrivesNow}, Turns.{RunsThere, runs_there}}}
use proofs.Writes.Turns.{stands_there, no_byte, a_byte, same_progress, progress_turns, byte_moves, run_moves}

-- ---- phases

pub out_is : (b : LineSet) → is_data_out (phase_of b) ≡ true → phase_of b ≡ Phase.DataOut
out_is b e = go b.msg b.cd b.io e
  where
    go : (m d i : Bool) → is_data_out (phase_by m d i) ≡ true → phase_by m d i ≡ Phase.DataOut
    go true d true e = wrong' e
    go true d false e = wrong' e
    go false true true e = wrong' e
    go false true false e = wrong' e
    go false false true e = wrong' e
    go false false false e = refl

pub in_lines : (b : LineSet) → is_data_in (phase_of b) ≡ true → (is_data b ≡ true) × (b.io ≡ true)
in_lines b e = go b.msg b.cd b.io refl e
  where
    go : (m d i : Bool) → b.io ≡ i → is_data_in (phase_by m d i) ≡ true → ((not m && not d) ≡ true) × (b.io ≡ true)
    go true d true f e = wrong' e
    go true d false f e = wrong' e
    go false true true f e = wrong' e
    go false true false f e = wrong' e
    go false false true f e = (refl, f)
    go false false false f e = wrong' e

-- ---- what is known of the row

pub record WriteRow (s : ScenarioValue) (p : List Row) (row : Row) : Type 0 where
  pub seats : HasSeats s
  pub was : Stood s p
  pub nx : NextStood s p row
  pub inside : row.dev < 8
  pub commands : CommandFacts s p
  pub told : InstructedFacts s p
  pub asked : WritesAsked s p row
  pub unrun : IsUnrunServed s p
  pub present : IsPresentWriter s p
  pub units : AllUnits (IsWrittenUnit (run_state s p).progress (writers s p)) (array_of s (run_state s p)).units

-- The connection stands, RST being false, before and after it.
pub record Around (s : ScenarioValue) (p : List Row) (row : Row) (n : Connection) (c : Change) : Type 0 where
  pub before : connection p ≡ Some n
  pub calm : (bus p).rst ≡ false
  pub after : connection (row ∷ p) ≡ Some n
  pub off : (bus (row ∷ p)).rst ≡ false
  pub turned : changes_phase (change_of p row) ≡ changes_phase c

pub around : (s : ScenarioValue) (p : List Row) (row : Row) (n : Connection) (c : Change) → WriteRow s p row
    → GoesOn s (run_state s p) row n c → Around s p row n c
around s p row n c w g =
    let k = run_state s p in
    let pl = w.was.plain in
    let ql = run_state_plain s (row ∷ p) w.nx.stood.standing.devices in
    let i = in_connection s k row n c (changes_phase c) (is_some (receiver_in n c)) _ g.row_is refl refl refl in
    let calm : (bus_of k).rst ≡ false = g.calm in
    record {
      before = sym pl.connection ∙ g.row_is.connection_is;
      calm = ap (λ (l : LineSet). l.rst) (sym pl.bus) ∙ calm;
      after = sym ql.connection ∙ i.connection_is;
      off = ap (λ (l : LineSet). l.rst) (sym ql.bus) ∙ ap (λ (l : LineSet). l.rst) i.bus_is ∙ g.row_is.calm;
      turned = ap changes_phase (sym (change_plain s row p w.was.standing.devices w.inside) ∙ g.row_is.change_is);
    }

-- In DATA OUT it runs in its unit.
pub runs_out : (s : ScenarioValue) (p : List Row) (row : Row) (n : Connection) (q : Process)
    → WriteRow s p row → connection p ≡ Some n → (bus p).rst ≡ false → (run_state s p).exchange.begun ≡ true
    → phase_of (bus_of (run_state s p)) ≡ Phase.DataOut → process_served s (run_state s p) ≡ Some q
    → RunsThere (array_of s (run_state s p)) q
runs_out s p row n q w con calm b phase served =
    let k = run_state s p in
    let opened : is_opening k ≡ false = λ i. not (b i) || is_opening_in (phase i) k.exchange.plan.cause in
    runs_there (array_of s k) q ((w.asked.placed n con calm opened q served).unanswered
    (ap (λ (x : Phase). moves_data x k.exchange.plan.next) phase)).0 (w.asked.guests n q con calm b phase served)

-- ---- no run is done

pub runs_kept : (made : List ProcessProgress) (o : Option Process) (b : Bool) (k : RunState) (l : Leaving)
    → k.progress ≡ made → (b ≡ true → l.done ≡ false) → (id : ProcId)
    → (progress_in (if b then progress_by_leaving k o l else k.progress) id).runs ≡ (progress_in made id).runs
runs_kept made o false k l e f id = ap (λ (m : List ProcessProgress). (progress_in m id).runs) e
runs_kept made None true k l e f id = ap (λ (m : List ProcessProgress). (progress_in m id).runs) e
runs_kept made (Some q) true k l e f id =
    (λ i. (progress_in (progress_with k.progress q.id (f refl i) l.counts) id).runs)
    ∙ same_runs k.progress q.id l.counts id ∙ ap (λ (m : List ProcessProgress). (progress_in m id).runs) e

-- Where the phase is none of data.
pub not_done : (s : ScenarioValue) (k : RunState) (n : Connection) → (phase_of (bus_of k) ≡ Phase.DataIn → ⊥)
    → (phase_of (bus_of k) ≡ Phase.DataOut → ⊥) → k.exchange.begun ≡ true → (leaving s k n.target).done ≡ false
not_done s k n fi fo b = by_bool (leaving s k n.target).done (λ e. absurd (never (done_in_data (serving_of s k n.target)
    (bus_of k).atn (phase_of (bus_of k)) (sym (ap (λ (l : Leaving). l.done) left) ∙ e)))) (λ e. e)
  where
    left : leaving s k n.target ≡ phase_leaving (serving_of s k n.target) (bus_of k).atn (phase_of (bus_of k))
    left = λ i. if b i then phase_leaving (serving_of s k n.target) (bus_of k).atn (phase_of (bus_of k))
        else phase_entry Phase.MessageOut

    never : (phase_of (bus_of k) ≡ Phase.DataIn) ⊎ (phase_of (bus_of k) ≡ Phase.DataOut) → ⊥
    never (inl e) = fi e
    never (inr e) = fo e

-- The runs that are counted stay, but as a phase of data is left.
pub runs_stay : (s : ScenarioValue) (k : RunState) (row : Row) (n : Connection) (c : Change)
    → GoesOn s k row n c → (k.exchange.begun ≡ true → phase_of (bus_of k) ≡ Phase.DataIn → ⊥)
    → (k.exchange.begun ≡ true → phase_of (bus_of k) ≡ Phase.DataOut → ⊥) → (id : ProcId)
    → (progress_in (run_state_after s k row).progress id).runs ≡ (progress_in k.progress id).runs
runs_stay s k row n c g fi fo id = by g.row_is.kind
  where
    stay : changes_phase c ≡ false
        → (progress_in (run_state_after s k row).progress id).runs ≡ (progress_in k.progress id).runs
    stay e = ap (λ (m : List ProcessProgress). (progress_in m id).runs)
        (same_progress s k row (ap changes_phase g.row_is.change_is ∙ e))

    by : RowKind row n c → (progress_in (run_state_after s k row).progress id).runs ≡ (progress_in k.progress id).runs
    by (still ef ep er) = stay ep
    by (strikes ef ep er) = stay ep
    by (crosses dev ef ep er) = stay ep
    by (turns ef ep er) = ap (λ (m : List ProcessProgress). (progress_in m id).runs) (progress_turns s k
        row n c g.row_is ep (reading_is k row n c false g.row_is (ap (λ (z : Option ℕ). is_some z) er)))
        ∙ runs_kept k.progress (process_served s k) k.exchange.begun k (leaving s k n.target) refl
        (λ b. not_done s k n (fi b) (fo b) b) id

-- ---- the units, before the events of the row

units_as : (made next : List ProcessProgress) (all more : List Writer) (a : Array) → next ≡ made → more ≡ all
    → AllUnits (IsWrittenUnit made all) a.units → AllUnits (IsWrittenUnit next more) a.units
units_as made next all more a e f h = subst (λ (x : List Writer). AllUnits (IsWrittenUnit next x) a.units) (sym f)
    (subst (λ (x : List ProcessProgress). AllUnits (IsWrittenUnit x all) a.units) (sym e) h)

done_units : (s : ScenarioValue) (p : List Row) (row : Row) (n : Connection) (c : Change) (q : Process)
    → WriteRow s p row → GoesOn s (run_state s p) row n c → changes_phase c ≡ true
    → (run_state s p).exchange.begun ≡ true → process_served s (run_state s p) ≡ Some q
    → (x : Bool) → (leaving s (run_state s p) n.target).done ≡ x → AllUnits (IsWrittenUnit
    (progress_with (run_state s p).progress q.id x (leaving s (run_state s p) n.target).counts) (writers s p))
    (array_of s (run_state s p)).units
done_units s p row n c q w g ep b served x e = go x e
  where
    k : RunState
    k = run_state s p

    l : Leaving
    l = leaving s k n.target

    ar : Around s p row n c
    ar = around s p row n c w g

    own : process_of s q.id ≡ Some q
    own = (served_id s k.served q served).1

    left : l ≡ phase_leaving (serving_of s k n.target) (bus_of k).atn (phase_of (bus_of k))
    left = λ i. if b i then phase_leaving (serving_of s k n.target) (bus_of k).atn (phase_of (bus_of k))
        else phase_entry Phase.MessageOut

    unwritten : phase_of (bus_of k) ≡ Phase.DataIn → is_writing q ≡ true → ⊥
    unwritten phase writes =
        let lines = in_lines (bus_of k) (ap is_data_in phase) in
        let pd : Planned s k = w.was.planned n ar.before ar.calm in
        wrong'
        (sym (λ i. not (writes i)) ∙ sym (λ i. is_directed (lines.1 i) (writes_of (served i))) ∙ pd.serves b lines.0)

    go : (y : Bool) → l.done ≡ y
        → AllUnits (IsWrittenUnit (progress_with k.progress q.id y l.counts) (writers s p)) (array_of s k).units
    go false f = same_units s k.progress (progress_with k.progress q.id false l.counts)
        (writers s p) (array_of s k).units (λ o i z. same_runs k.progress q.id l.counts o.id)
        (own_units s p w.seats w.was.standing.devices) w.units
    go true f = by (done_in_data (serving_of s k n.target) (bus_of k).atn (phase_of (bus_of k))
        (sym (ap (λ (v : Leaving). v.done) left) ∙ f))
      where
        by : (phase_of (bus_of k) ≡ Phase.DataIn) ⊎ (phase_of (bus_of k) ≡ Phase.DataOut)
            → AllUnits (IsWrittenUnit (progress_with k.progress q.id true l.counts) (writers s p)) (array_of s k).units
        by (inl phase) = same_units s k.progress (progress_with k.progress q.id true l.counts) (writers s p)
            (array_of s k).units (λ o i z. counted_runs k.progress q.id true l.counts o.id (λ same. absurd
            (unwritten phase (ap is_writing (same_Some q o (sym own ∙ ap (process_of s) (sym same) ∙ i)) ∙ z))))
            (own_units s p w.seats w.was.standing.devices) w.units
        by (inr phase) =
            let v = serving_of s k n.target in
            let d : DoneOut v = out_done v
            (sym (ap (λ (y : Leaving). y.done) (left ∙ ap (phase_leaving v (bus_of k).atn) phase)) ∙ f) in
            let whole : IsAnsweredWhole s k q d.task = w.asked.answered n q d.task ar.before ar.calm ar.off ar.after
            (sym w.was.plain.begun ∙ b) (ar.turned ∙ ep) phase d.struck served d.task_is in
            let there = runs_out s p row n q w ar.before ar.calm b phase served in
            moved_units s k.progress (progress_with k.progress q.id true l.counts)
            (writers s p) (writers s p) q (array_of s k).units own
            (run_moves k.progress (writers s p) q l.counts (w.present n q ar.before ar.calm b phase served whole.some))
            (own_units s p w.seats w.was.standing.devices) (stands_there s p q w.seats w.was.standing.devices
            (own_units s p w.seats w.was.standing.devices) own there) w.units

turned_units : (s : ScenarioValue) (p : List Row) (row : Row) (n : Connection) (c : Change) → WriteRow s p row
    → GoesOn s (run_state s p) row n c → changes_phase c ≡ true → (b : Bool) → (run_state s p).exchange.begun ≡ b
    → (o : Option Process) → process_served s (run_state s p) ≡ o → AllUnits (IsWrittenUnit
    (if b then progress_by_leaving (run_state s p) o (leaving s (run_state s p) n.target) else (run_state s p).progress)
    (writers s p)) (array_of s (run_state s p)).units
turned_units s p row n c w g ep false eb o eo = w.units
turned_units s p row n c w g ep true eb None eo = w.units
turned_units s p row n c w g ep true eb (Some q) eo =
    done_units s p row n c q w g ep eb eo (leaving s (run_state s p) n.target).done refl

byte_units : (s : ScenarioValue) (p : List Row) (row : Row) (n : Connection) (c : Change) → WriteRow s p row
    → GoesOn s (run_state s p) row n c → (run_state s p).exchange.begun ≡ true → (x : Bool)
    → is_data_out (phase_of (bus_of (run_state s p))) ≡ x → (o : Option Process) → process_served s (run_state s p) ≡ o
    → AllUnits (IsWrittenUnit (run_state s p).progress (if x then writers_with (writers s p) o else writers s p))
    (array_of s (run_state s p)).units
byte_units s p row n c w g b false ex o eo = w.units
byte_units s p row n c w g b true ex None eo = w.units
byte_units s p row n c w g b true ex (Some q) eo =
    let k = run_state s p in
    let ar = around s p row n c w g in
    let own = (served_id s k.served q eo).1 in
    let units = own_units s p w.seats w.was.standing.devices in
    let there = runs_out s p row n q w ar.before ar.calm b (out_is (bus_of k) ex) eo in
    moved_units s k.progress k.progress (writers s p) (writers_with (writers s p) (Some q)) q
    (array_of s k).units own (byte_moves k.progress (writers s p) q) units
    (stands_there s p q w.seats w.was.standing.devices units own there) w.units

pub going_units : (s : ScenarioValue) (p : List Row) (row : Row) (n : Connection) (c : Change)
    → WriteRow s p row → GoesOn s (run_state s p) row n c
    → AllUnits (IsWrittenUnit (run_state s (row ∷ p)).progress (writers s (row ∷ p))) (array_of s (run_state s p)).units
going_units s p row n c w g = by g.row_is.kind
  where
    k : RunState
    k = run_state s p

    quiet : receiver_in n c ≡ None → (row_reading k.story.bus_state row).crosses ≡ false
    quiet er =
        ap (λ (d : RowReading). d.crosses) (reading_is k row n c false g.row_is (ap (λ (z : Option ℕ). is_some z) er))

    stay : changes_phase c ≡ false → receiver_in n c ≡ None
        → AllUnits (IsWrittenUnit (run_state s (row ∷ p)).progress (writers s (row ∷ p))) (array_of s k).units
    stay ep er = units_as k.progress (run_state s (row ∷ p)).progress (writers s p) (writers s (row ∷ p)) (array_of s k)
        (same_progress s k row (ap changes_phase g.row_is.change_is ∙ ep)) (no_byte s p row (quiet er)) w.units

    by : RowKind row n c
        → AllUnits (IsWrittenUnit (run_state s (row ∷ p)).progress (writers s (row ∷ p))) (array_of s k).units
    by (still ef ep er) = stay ep er
    by (strikes ef ep er) = stay ep er
    by (crosses dev ef ep er) =
        let d = reading_is k row n c true g.row_is (ap (λ (z : Option ℕ). is_some z) er) in
        let x = is_data_out (phase_of (bus_of k)) in
        units_as k.progress (run_state s (row ∷ p)).progress
        (if x then writers_with (writers s p) (process_served s k) else writers s p) (writers s (row ∷ p))
        (array_of s k) (same_progress s k row (ap changes_phase g.row_is.change_is ∙ ep))
        (a_byte s p row n c x g.row_is d (ap (λ (v : LineSet). is_data_out (phase_of v)) (sym g.row_is.bus_is)))
        (byte_units s p row n c w g (g.begun (ap (λ (v : RowReading). v.crosses) d)) x refl (process_served s k) refl)
    by (turns ef ep er) = units_as
        (if k.exchange.begun then progress_by_leaving k (process_served s k) (leaving s k n.target) else k.progress)
        (run_state s (row ∷ p)).progress (writers s p) (writers s (row ∷ p)) (array_of s k) (progress_turns
        s k row n c g.row_is ep (reading_is k row n c false g.row_is (ap (λ (z : Option ℕ). is_some z) er)))
        (no_byte s p row (quiet er)) (turned_units s p row n c w g ep k.exchange.begun refl (process_served s k) refl)

-- ---- a command that arrives

pub arrival_waits : (s : ScenarioValue) (p : List Row) (row : Row) (n : Connection) (c : Change)
    → WriteRow s p row → GoesOn s (run_state s p) row n c → (l : Link) (x : CarriedBytes)
    → ArrivesNow (run_state s p).story (row_reading (run_state s p).story.bus_state row) l x
    → MayWait s (IsWrittenUnit (run_state s (row ∷ p)).progress (writers s (row ∷ p))) (array_of s (run_state s p)) x.id
arrival_waits s p row n c w g l x a = may_wait s (run_state s (row ∷ p)).progress (writers s (row ∷ p))
    (array_of s k) x.id none (λ q e. (process_id s x.id q e, unrun q e))
  where
    k : RunState
    k = run_state s p

    ar : Around s p row n c
    ar = around s p row n c w g

    item : l.item ≡ Some (process x.id)
    item = carried_of_item k.story l.item x a.carried_is

    knows : Knows s k n
    knows = w.was.books.knows n g.row_is.connection_is g.calm

    served : k.served ≡ Some (process x.id)
    served = by knows.item_is
      where
        same : l ≡ knows.link
        same = same_Some l knows.link (sym a.link_is ∙ knows.link_is)

        by : (knows.link.item ≡ k.served) ⊎ ((n.reselected ≡ true) × (knows.link.item ≡ None))
            → k.served ≡ Some (process x.id)
        by (inl e) = sym e ∙ ap (λ (y : Link). y.item) (sym same) ∙ item
        by (inr e) = none_some (process x.id) (sym e.1 ∙ ap (λ (y : Link). y.item) (sym same) ∙ item)

    phase : phase_of (bus_of k) ≡ Phase.Command
    phase = command_phase (bus_of k) a.command

    carried : carried_here k x.id ≡ x
    carried = same_Some (carried_here k x.id) x (sym (ap (carried_if k.story) item) ∙ a.carried_is)

    books : CommandBooks s k n
    books = w.commands.books n ar.before ar.calm

    b : k.exchange.begun ≡ true
    b = by_bool k.exchange.begun (λ e. e) (λ e. let none = (books.unbegun e).block x.id served in
        wrong' (sym (λ i. not (length ((ap (λ (y : CarriedBytes). y.block) (sym carried) ∙ none) i) == 0)
        && has_group_len x.block && not x.struck) ∙ a.whole))

    takes : TakesBlock s k n
    takes = subst (λ (y : Phase). StandsIn s k n y) phase (books.begun b)

    unknown : (instructions s p).known ≡ false
    unknown = subst (λ (y : Phase). KnownIn (instructions s p).known k.exchange.plan y) phase
        (((w.told n ar.before ar.calm).selected takes.1.selected).stage b)

    at : (q : Process) → process_of s x.id ≡ Some q → process_served s k ≡ Some q
    at q e = ap (process_item s) served ∙ e

    unrun : (q : Process) → process_of s x.id ≡ Some q → (progress_in (run_state s (row ∷ p)).progress q.id).runs ≡ 0
    unrun q e =
        runs_stay s k row n c g (λ z f. absurd (in_none f)) (λ z f. absurd (out_none f)) q.id
        ∙ w.unrun n q ar.before ar.calm unknown (at q e)
      where
        in_none : phase_of (bus_of k) ≡ Phase.DataIn → ⊥
        in_none f = wrong (sym (ap is_data_in f) ∙ ap is_data_in phase)

        out_none : phase_of (bus_of k) ≡ Phase.DataOut → ⊥
        out_none f = wrong (sym (ap is_data_out f) ∙ ap is_data_out phase)

    none : running_in (array_of s k).units x.id ≡ None
    none =
        let v = takes.0 in
        let opened : is_opening k ≡ false = λ i. not (b i) || is_opening_in (phase i) k.exchange.plan.cause in
        let new : is_new (array_of s k) v.process ≡ true =
        (w.asked.placed n ar.before ar.calm opened v.process (served_process s k v)).new (ap is_command_phase phase) in
        let same : v.process.id ≡ x.id = same_process s k v ∙ item_id v.id x.id (sym v.served_is ∙ served) in
        ap (running_in (array_of s k).units) (sym same)
        ∙ from_new (array_of s k) v.process.id (is_none_running (array_of s k) v.process new)
      where
        item_id : (a b : ProcId) → Some (process a) ≡ Some (process b) → a ≡ b
        item_id a b e = ap (λ (o : Option Item). id_or a o) e
          where
            id_or : ProcId → Option Item → ProcId
            id_or y None = y
            id_or y (Some (process z)) = z
            id_or y (Some (abort z)) = y

        is_none_running : (r : Array) (q : Process) → is_new r q ≡ true → is_none (running_process r q.id) ≡ true
        is_none_running r q e = (and_parts (not (is_waiting r.units q.id)) (is_none (running_process r q.id))
            ((and_parts (not (is_waiting r.units q.id) && is_none (running_process r q.id))
            (is_none (reply_in r.replies q.id)) e).0)).1

        from_new : (r : Array) (id : ProcId) → is_none (running_process r id) ≡ true → running_in r.units id ≡ None
        from_new r id e = go (guest_at r.guests id) e
          where
            lone : (o : Option RunningProcess) → is_none o ≡ true → o ≡ None
            lone None z = refl
            lone (Some y) z = wrong' z

            go : (o : Option RunningProcess) → is_none (if is_some o then o else running_in r.units id) ≡ true
                → running_in r.units id ≡ None
            go None z = lone (running_in r.units id) z
            go (Some y) z = wrong' z

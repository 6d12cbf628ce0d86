-- In DATA OUT, once a byte has come, the process that is served last sent its unit one, with each row of a prompt
-- trace.
use Rattle.trace_laws.proofs
use proofs.Names.{ℕ, ◌≡◌, Bool, true, false, ◌==◌, ◌∙◌, List, ◌∷◌, Option, Some, None, refl, sym, ap, ◌⊎◌, inl, inr}
use proofs.Names.{◌&&◌, [], subst, and_parts, eqb-true, same_Some, if◌then◌else◌, is_some, wrong, wrong', Event, ProcId}
use proofs.Names.{rises, change_of, LineSet, changes_phase, is_fault, receiver_in, receiver_of, bus, Row, Change}
use proofs.Names.{Connection, Handshakes, no_handshakes, handshakes_on, handshakes_after, answered_if, asked_if}
use proofs.Names.{newest_struck_if, units_of, ScenarioValue, Obeys, Process, process_of, Array, starting_array}
use proofs.Names.{settled_array, RowReading, row_reading, CarriedBytes, row_events_by, link_events, process, has_item}
use proofs.Names.{Link, aim_of, Exchange, phase_of, Hearing, Phase, Plan, run_state_plain, ProcessProgress, progress_in}
use proofs.Names.{IsPrompt, IsPlain, RunState, bus_of, process_item, array_of, or_start, process_served, run_state}
use proofs.Names.{exchange_after, first_exchange, leaving_of, array_after_events, served_after, item_if, hearing_of}
use proofs.Names.{ready_of, obeys_fits, seats_are, no_input, is_message, Instructions, instructions, instructions_after}
use proofs.Names.{instructions_on, instructions_with, Writer, writer_of, writers, writers_with, is_data_out}
use proofs.Names.{in_connection, reading_is, same_phase_is, RowKind, still, strikes, crosses, turns, IsFirstRow}
use proofs.Names.{reading_in, Begins, GoesOn, RowOf, apart, begins, goes_on, ends, under_reset, change_plain, least_is}
use proofs.Names.{none_some, message_is, by_bool, IfAll, MayWait, events_all, reset_all, each_settled, written_stays}
use proofs.Names.{empty_stays, empty_written, start_empty, dropped_empty, Stood, NextStood, writes_there, ItemFacts}
use proofs.Names.{IsPresentWriter, AllUnits, IsWriterOf, IsWrittenUnit, IsEmptyUnit, IsUnrunServed, WriteFacts}
use proofs.Names.{WritesAsked, told_with, rst_raised, items_fresh, CommandFacts, Instructed, InstructedFacts, KnownIn}
use proofs.{Names.{IsFresh}, Runs.Rows.{served_id}, Writes.{Arrivals.{ArrivesNow, arrives_first}, Rows.{WriteRow}}}
use proofs.Writes.{Rows.{Around, around, out_is, runs_stay, going_units, arrival_waits}, Turns.{no_byte, a_byte}}
use proofs.Writes.Turns.{writer_now, writer_elsewhere, progress_apart, progress_ends}
use Rattle.story_laws.proofs.Commands.Stays.{phase_same}
use Rattle.due_model.specs.array_model.specs.Steps

-- No byte is answered but with one that crosses.
same_answers : (n : Connection) (c : Change) (time : ℕ) (h : Handshakes) → changes_phase c ≡ false
    → receiver_in n c ≡ None → c.before.io ≡ false → (handshakes_on (Some n) c time h).answers ≡ h.answers
same_answers n c time h ep er io = (λ i. (if ep i then no_handshakes
    else answered_if (none i) time (asked_if (rises c.before.req c.after.req) time h)).answers)
    ∙ go (rises c.before.req c.after.req)
  where
    go : (q : Bool) → (asked_if q time h).answers ≡ h.answers
    go true = refl
    go false = refl

    none : rises c.before.ack c.after.ack ≡ false
    none = by_bool (rises c.before.ack c.after.ack)
        (λ e. wrong (sym (λ i. is_some (if io i then (if rises c.before.req c.after.req then Some n.initiator else None)
        else if e i then Some n.target else None)) ∙ ap (λ (o : Option ℕ). is_some o) er)) (λ e. e)

pub present_next : (s : ScenarioValue) (p : List Row) (row : Row) → WriteRow s p row → IsPresentWriter s (row ∷ p)
present_next s p row w n x con off begun phase served some = go w.nx.row_is
  where
    k : RunState
    k = run_state s p

    j : RunState
    j = run_state s (row ∷ p)

    ql : IsPlain s (row ∷ p) j
    ql = run_state_plain s (row ∷ p) w.nx.stood.standing.devices

    begin : (m : Connection) → Begins s k row m → writer_of (writers s (row ∷ p)) x.target x.unit ≡ Some x.id
    begin m b =
        by_bool m.reselected
        (λ e. wrong' (sym (ap is_message phase) ∙ message_is (bus_of j) (b.names e)))
        (λ e. wrong' (sym e ∙ sym (ap (λ (y : Exchange). y.begun) made) ∙ begun))
      where
        made : j.exchange ≡ first_exchange s k m (aim_of k.story.aims m.initiator)
        made = λ i. exchange_after s k row (row_reading k.story.bus_state row) (b.first.connection_is i)
            (b.first.next_is i) (leaving_of s k k.story.bus_state.connection)

    going : (m : Connection) (c : Change) → GoesOn s k row m c
        → writer_of (writers s (row ∷ p)) x.target x.unit ≡ Some x.id
    going m c g = by g.row_is.kind
      where
        ar : Around s p row m c
        ar = around s p row m c w g

        phase_before : changes_phase c ≡ false → bus_of j ≡ c.after → phase_of (bus_of k) ≡ Phase.DataOut
        phase_before ep e = ap phase_of g.row_is.bus_is ∙ sym (phase_same c.before c.after (same_phase_is c ep))
            ∙ ap phase_of (sym e) ∙ phase

        stay : (fault : Bool) → is_fault row.kind ≡ fault → changes_phase c ≡ false → receiver_in m c ≡ None
            → writer_of (writers s (row ∷ p)) x.target x.unit ≡ Some x.id
        stay fault ef ep er =
            let none = ap (λ (z : Option ℕ). is_some z) er in
            let i = in_connection s k row m c false false fault g.row_is ep none ef in
            let here = phase_before ep i.bus_is in
            let io = ap (λ (l : LineSet). l.io) (sym g.row_is.bus_is) ∙ no_input (bus_of k) here in
            ap (λ (all : List Writer). writer_of all x.target x.unit)
            (no_byte s p row (ap (λ (d : RowReading). d.crosses) (reading_is k row m c false g.row_is none)))
            ∙ w.present m x ar.before ar.calm (sym (ap (λ (y : Exchange). y.begun) i.exchange_is) ∙ begun) here
            (ap (process_item s) (sym i.served_is) ∙ served)
            (ap (λ (y : ℕ). y == 0) (sym (ap (λ (y : Handshakes). y.answers) i.handshakes_is
            ∙ (λ z. (handshakes_after (ef z) (Some m) c row.time k.handshakes).answers) ∙ counts fault ep er io))
            ∙ some)
          where
            counts : (q : Bool) → changes_phase c ≡ false → receiver_in m c ≡ None → c.before.io ≡ false
                → (handshakes_after q (Some m) c row.time k.handshakes).answers ≡ k.handshakes.answers
            counts false ep er io = same_answers m c row.time k.handshakes ep er io
            counts true ep er io = struck c.before.io
              where
                struck : (y : Bool) → (newest_struck_if y k.handshakes).answers ≡ k.handshakes.answers
                struck true = refl
                struck false = refl

        by : RowKind row m c → writer_of (writers s (row ∷ p)) x.target x.unit ≡ Some x.id
        by (still ef ep er) = stay false ef ep er
        by (strikes ef ep er) = stay true ef ep er
        by (crosses dev ef ep er) =
            let some = ap (λ (z : Option ℕ). is_some z) er in
            let i = in_connection s k row m c false true false g.row_is ep some ef in
            let here = phase_before ep i.bus_is in
            ap (λ (all : List Writer). writer_of all x.target x.unit)
            (a_byte s p row m c true g.row_is (reading_is k row m c true g.row_is some)
            (ap (λ (l : LineSet). is_data_out (phase_of l)) (sym g.row_is.bus_is) ∙ ap is_data_out here)
            ∙ ap (writers_with (writers s p)) (ap (process_item s) (sym i.served_is) ∙ served))
            ∙ writer_now (writers s p) x
        by (turns ef ep er) =
            let none = ap (λ (z : Option ℕ). is_some z) er in
            let i = in_connection s k row m c true false false g.row_is ep none ef in
            wrong (sym (ap (λ (y : Handshakes). y.answers == 0) i.handshakes_is
            ∙ (λ z. (handshakes_after (ef z) (Some m) c row.time k.handshakes).answers == 0)
            ∙ (λ z. (if ep z then no_handshakes else answered_if (rises c.before.ack c.after.ack) row.time
            (asked_if (rises c.before.req c.after.req) row.time k.handshakes)).answers == 0)) ∙ some)

    go : RowOf s k row → writer_of (writers s (row ∷ p)) x.target x.unit ≡ Some x.id
    go (apart e f) = none_some n (sym f ∙ ql.connection ∙ con)
    go (begins m b) = begin m b
    go (goes_on m c g) = going m c g
    go (ends m g) = none_some n (sym g.next_is ∙ ql.connection ∙ con)
    go (under_reset r f) =
        wrong (sym r ∙ ap (λ (c : Change). c.after.rst) (change_plain s row p w.was.standing.devices w.inside) ∙ off)

-- ---- Which process last sent its unit a byte of the data of writes, after any rows of a prompt trace.

-- ---- before any row

pub writes_start : (s : ScenarioValue) → WriteFacts s []
writes_start s = record {
  whose = λ t n id e. none_some id e;
  units = written;
  reset = λ e. start;
  unrun = λ n p e. none_some n e;
  present = λ n p e. none_some n e;
}
  where
    start : AllUnits IsEmptyUnit (settled_array (starting_array s)).units
    start = each_settled IsEmptyUnit (starting_array s) empty_stays (start_empty s (units_of s))

    written : AllUnits (IsWrittenUnit [] []) (settled_array (starting_array s)).units
    written = empty_written [] [] (settled_array (starting_array s)).units start

-- ---- a byte that crosses

pub record ByteRow (s : ScenarioValue) (k : RunState) (row : Row) : Type 0 where
  pub n : Connection
  pub change : Change
  pub goes : GoesOn s k row n change
  pub reading : row_reading k.story.bus_state row ≡ reading_in k.story.bus_state n change true
  pub phase : changes_phase change ≡ false

pub byte_row : (s : ScenarioValue) (k : RunState) (row : Row) → (row_reading k.story.bus_state row).crosses ≡ true
    → RowOf s k row → ByteRow s k row
byte_row s k row e (apart f h) =
    wrong' ((λ i. is_some (receiver_of (sym f i) (row_reading k.story.bus_state row).change)) ∙ e)
byte_row s k row e (begins n b) =
    wrong' ((λ i. is_some (receiver_of (sym b.first.connection_is i) (row_reading k.story.bus_state row).change)) ∙ e)
byte_row s k row e (ends n g) = wrong' (sym g.carries_none ∙ e)
byte_row s k row e (under_reset r f) = wrong' (sym f ∙ e)
byte_row s k row e (goes_on n c g) = by g.row_is.kind
  where
    quiet : {A : Type 0} → receiver_in n c ≡ None → A
    quiet er = wrong' (sym
        (ap (λ (d : RowReading). d.crosses) (reading_is k row n c false g.row_is (ap (λ (z : Option ℕ). is_some z) er)))
        ∙ e)

    by : RowKind row n c → ByteRow s k row
    by (still ef ep er) = quiet er
    by (strikes ef ep er) = quiet er
    by (turns ef ep er) = quiet er
    by (crosses dev ef ep er) = record {
      n = n;
      change = c;
      goes = g;
      reading = reading_is k row n c true g.row_is (ap (λ (z : Option ℕ). is_some z) er);
      phase = ep;
    }

-- ---- whose bytes they are

whose_next : (s : ScenarioValue) (p : List Row) (row : Row) → WriteRow s p row
    → ((t m : ℕ) (id : ProcId) → writer_of (writers s p) t m ≡ Some id → IsWriterOf s t m id) → (t m : ℕ) (id : ProcId)
    → writer_of (writers s (row ∷ p)) t m ≡ Some id → IsWriterOf s t m id
whose_next s p row w h t m id e = by_bool (row_reading k.story.bus_state row).crosses
    (λ f. let b = byte_row s k row f w.nx.row_is in adds b (is_data_out (phase_of b.change.before)) refl
    (process_served s k) refl (ap (λ (all : List Writer). writer_of all t m)
    (sym (a_byte s p row b.n b.change (is_data_out (phase_of b.change.before)) b.goes.row_is b.reading refl)) ∙ e))
    (λ f. h t m id (ap (λ (all : List Writer). writer_of all t m) (sym (no_byte s p row f)) ∙ e))
  where
    k : RunState
    k = run_state s p

    adds : (b : ByteRow s k row) → (x : Bool) → is_data_out (phase_of b.change.before) ≡ x → (o : Option Process)
        → process_served s k ≡ o → writer_of (if x then writers_with (writers s p) o else writers s p) t m ≡ Some id
        → IsWriterOf s t m id
    adds b false ex o eo f = h t m id f
    adds b true ex None eo f = h t m id f
    adds b true ex (Some q) eo f = at (q.target == t && q.unit == m) refl
      where
        ar : Around s p row b.n b.change
        ar = around s p row b.n b.change w b.goes

        at : (y : Bool) → (q.target == t && q.unit == m) ≡ y → IsWriterOf s t m id
        at false g = h t m id (sym (writer_elsewhere (writers s p) q t m g) ∙ f)
        at true g =
            let both = and_parts (q.target == t) (q.unit == m) g in
            let own = served_id s k.served q eo in
            let same : q.id ≡ id = same_Some q.id id
            (sym (λ i. if g i then Some q.id else writer_of (writers s p) t m) ∙ f) in
            record {
              process = q;
              process_is = ap (process_of s) (sym same) ∙ own.1;
              writes = writes_there s k q (w.was.planned b.n ar.before ar.calm)
                  (b.goes.begun (ap (λ (d : RowReading). d.crosses) b.reading)) eo
                  (out_is (bus_of k) (ap (λ (l : LineSet). is_data_out (phase_of l)) b.goes.row_is.bus_is ∙ ex));
              target_is = eqb-true q.target t both.0;
              unit_is = eqb-true q.unit m both.1;
            }

-- ---- under RST no process stands in a unit

reset_next : (s : ScenarioValue) (p : List Row) (row : Row) → WriteRow s p row
    → ((bus p).rst ≡ true → AllUnits IsEmptyUnit (array_of s (run_state s p)).units) → (bus (row ∷ p)).rst ≡ true
    → AllUnits IsEmptyUnit (array_of s (run_state s (row ∷ p))).units
reset_next s p row w h on = by_bool (rises d.change.own.rst d.change.next.rst)
    (λ e. subst (λ (l : List Event). AllUnits IsEmptyUnit (or_start s (array_after_events s k.array l)).units)
    (sym (shows true e)) (cleared k.array))
    (λ e. subst (λ (l : List Event). AllUnits IsEmptyUnit (or_start s (array_after_events s k.array l)).units)
    (sym (shows false e)) (h (before e)))
  where
    k : RunState
    k = run_state s p

    d : RowReading
    d = row_reading k.story.bus_state row

    same : d.change ≡ change_of p row
    same = change_plain s row p w.was.standing.devices w.inside

    after : d.change.after.rst ≡ true
    after = ap (λ (c : Change). c.after.rst) same ∙ on

    shown : List Event
    shown = row_events_by s k.story d row

    cleared :
        (o : Option Array) → AllUnits IsEmptyUnit (or_start s (array_after_events s o (Event.Reset row.dev ∷ []))).units
    cleared None = start_empty s (units_of s)
    cleared (Some a) = by (Steps.step s (Event.Reset row.dev) a)
        (reset_all s IsEmptyUnit a row.dev empty_stays (dropped_empty a.units))
      where
        by : (o : Option Array) → IfAll IsEmptyUnit o → AllUnits IsEmptyUnit (or_start s o).units
        by None z = start_empty s (units_of s)
        by (Some b) z = z

    before : rises d.change.own.rst d.change.next.rst ≡ false → (bus p).rst ≡ true
    before e = by_bool (bus p).rst (λ f. f) (λ f. wrong
        (sym (rst_raised p row w.inside f on) ∙ sym (ap (λ (c : Change). rises c.own.rst c.next.rst) same) ∙ e))

    shows : (x : Bool) → rises d.change.own.rst d.change.next.rst ≡ x
        → shown ≡ (if x then Event.Reset row.dev ∷ [] else [])
    shows x e =
        (λ i. if after i then (if rises d.change.own.rst d.change.next.rst then Event.Reset row.dev ∷ [] else [])
        else link_events s k.story k.story.link d) ∙ (λ i. if e i then Event.Reset row.dev ∷ [] else [])

-- ---- the units

after_events : (s : ScenarioValue) (p : List Row) (row : Row) → ((l : Link) (x : CarriedBytes)
    → ArrivesNow (run_state s p).story (row_reading (run_state s p).story.bus_state row) l x → MayWait s
    (IsWrittenUnit (run_state s (row ∷ p)).progress (writers s (row ∷ p))) (array_of s (run_state s p)) x.id)
    → AllUnits (IsWrittenUnit (run_state s (row ∷ p)).progress (writers s (row ∷ p))) (array_of s (run_state s p)).units
    → AllUnits (IsWrittenUnit (run_state s (row ∷ p)).progress (writers s (row ∷ p)))
    (array_of s (run_state s (row ∷ p))).units
after_events s p row own h =
    let k = run_state s p in
    let made = (run_state s (row ∷ p)).progress in
    let all = writers s (row ∷ p) in
    let d = row_reading k.story.bus_state row in
    events_all s (IsWrittenUnit made all) k.array (row_events_by s k.story d row) (written_stays made all)
    (arrives_first s k.story d row (MayWait s (IsWrittenUnit made all) (array_of s k)) own)
    (empty_written made all (starting_array s).units (start_empty s (units_of s))) h

units_next : (s : ScenarioValue) (p : List Row) (row : Row) → WriteRow s p row → ItemFacts s p
    → AllUnits IsEmptyUnit (array_of s (run_state s (row ∷ p))).units ⊎ ((bus (row ∷ p)).rst ≡ false)
    → AllUnits (IsWrittenUnit (run_state s (row ∷ p)).progress (writers s (row ∷ p)))
    (array_of s (run_state s (row ∷ p))).units
units_next s p row w items (inl h) =
    empty_written (run_state s (row ∷ p)).progress (writers s (row ∷ p)) (array_of s (run_state s (row ∷ p))).units h
units_next s p row w items (inr off) = go w.nx.row_is
  where
    k : RunState
    k = run_state s p

    d : RowReading
    d = row_reading k.story.bus_state row

    kept : (run_state s (row ∷ p)).progress ≡ k.progress → d.crosses ≡ false
        → AllUnits (IsWrittenUnit (run_state s (row ∷ p)).progress (writers s (row ∷ p))) (array_of s k).units
    kept e f = subst (λ (x : List Writer). AllUnits (IsWrittenUnit (run_state s (row ∷ p)).progress x)
        (array_of s k).units) (sym (no_byte s p row f)) (subst
        (λ (x : List ProcessProgress). AllUnits (IsWrittenUnit x (writers s p)) (array_of s k).units) (sym e) w.units)

    alone : {A : Type 0} → k.story.bus_state.connection ≡ None → (l : Link) → k.story.link ≡ Some l → A
    alone e l f = no_link (sym (items.items.apart e).0 ∙ f)
      where
        no_link : {B : Type 0} → (let a : Option Link = None in a) ≡ Some l → B
        no_link z = absurd cc

    quiet : k.story.bus_state.connection ≡ None → d.crosses ≡ false
    quiet e = λ i. is_some (receiver_of (e i) d.change)

    go : RowOf s k row → AllUnits (IsWrittenUnit (run_state s (row ∷ p)).progress (writers s (row ∷ p)))
        (array_of s (run_state s (row ∷ p))).units
    go (apart e f) = after_events s p row (λ l x a. alone e l a.link_is) (kept (progress_apart s k row e) (quiet e))
    go (begins n b) = after_events s p row (λ l x a. alone b.first.connection_is l a.link_is)
        (kept (progress_apart s k row b.first.connection_is) (quiet b.first.connection_is))
    go (ends n g) = after_events s p row
        (λ l x a. wrong' (sym (ap (λ (o : Option Connection). is_some o) g.next_is) ∙ a.stands))
        (kept (progress_ends s k row g.next_is) g.carries_none)
    go (goes_on n c g) =
        after_events s p row (λ l x a. arrival_waits s p row n c w g l x a) (going_units s p row n c w g)
    go (under_reset r f) =
        wrong (sym r ∙ ap (λ (c : Change). c.after.rst) (change_plain s row p w.was.standing.devices w.inside) ∙ off)

-- ---- before the target knows the command

pub known_before : (w : Hearing) (l : Plan) (i : Instructions) → (instructions_on w l i).known ≡ false → i.known ≡ false
known_before w l i e =
    by_bool i.known
    (λ f. wrong (sym (ap (λ (x : Bool). (if x then i else instructions_with w l i).known) f ∙ f) ∙ e))
    (λ f. f)

unrun_next : (s : ScenarioValue) (p : List Row) (row : Row) → Obeys s → IsPrompt s (row ∷ p) → WriteRow s p row
    → ItemFacts s p → IsUnrunServed s (row ∷ p)
unrun_next s p row o prompt w items n x con off unknown served = go w.nx.row_is
  where
    k : RunState
    k = run_state s p

    j : RunState
    j = run_state s (row ∷ p)

    ql : IsPlain s (row ∷ p) j
    ql = run_state_plain s (row ∷ p) w.nx.stood.standing.devices

    begin : (m : Connection) → m ≡ n → Begins s k row m → (progress_in j.progress x.id).runs ≡ 0
    begin m same b = by_bool m.reselected (λ e. wrong (sym (told ∙ e) ∙ unknown))
        (λ e. let fresh : IsFresh k m = items_fresh s p row m o prompt w.was items
        (sym w.was.plain.connection ∙ f.connection_is) (con ∙ ap (λ (y : Connection). Some y) (sym same)) e in
        let item : fresh.item ≡ process x.id = same_Some fresh.item (process x.id) (sym
        (serves ∙ ap (λ (q : Bool). if q then item_if (ready_of s k m.target) else aim_of k.story.aims m.initiator) e
        ∙ fresh.aim_is) ∙ (served_id s j.served x served).0) in
        ap (λ (l : List ProcessProgress). (progress_in l x.id).runs) (progress_apart s k row f.connection_is)
        ∙ ap (λ (y : ProcessProgress). y.runs)
        (items.items.progress x.id (ap (has_item k.story.sent.sent) (sym item) ∙ fresh.unsent)))
      where
        f : IsFirstRow k row m
        f = b.first

        told : (instructions s (row ∷ p)).known ≡ m.reselected
        told = λ i. (instructions_after (f.connection_is i) (f.next_is i)
            (hearing_of k row (row_reading k.story.bus_state row)) k.exchange.plan (instructions s p)).known

        serves : j.served ≡ (if m.reselected then item_if (ready_of s k m.target) else aim_of k.story.aims m.initiator)
        serves = λ i. served_after s k (f.connection_is i) (f.next_is i)

    going : (m : Connection) (c : Change) → m ≡ n → GoesOn s k row m c → (progress_in j.progress x.id).runs ≡ 0
    going m c same g = runs_stay s k row m c g (λ b f. known_in (stage b Phase.DataIn f))
        (λ b f. known_in (stage b Phase.DataOut f)) x.id ∙ w.unrun m x ar.before ar.calm before served'
      where
        ar : Around s p row m c
        ar = around s p row m c w g

        before : (instructions s p).known ≡ false
        before = known_before (hearing_of k row (reading_in k.story.bus_state m c (is_some (receiver_in m c))))
            k.exchange.plan (instructions s p)
            (sym (ap (λ (i : Instructions). i.known) (told_with s p row m c (is_some (receiver_in m c)) g.row_is refl))
            ∙ unknown)

        served' : process_served s k ≡ Some x
        served' = ap (process_item s) (sym (in_connection s k row m c (changes_phase c)
            (is_some (receiver_in m c)) _ g.row_is refl refl refl).served_is)
            ∙ served

        told : Instructed s k (instructions s p) m
        told = w.told m ar.before ar.calm

        known_in : (instructions s p).known ≡ true → ⊥
        known_in e = wrong (sym e ∙ before)

        selected : m.reselected ≡ false
        selected = by_bool m.reselected (λ e. absurd (known_in (told.again e).0)) (λ e. e)

        stage : k.exchange.begun ≡ true → (phase : Phase) → phase_of (bus_of k) ≡ phase
            → KnownIn (instructions s p).known k.exchange.plan phase
        stage b phase e = subst (λ (y : Phase). KnownIn (instructions s p).known k.exchange.plan y) e
            ((told.selected selected).stage b)

    go : RowOf s k row → (progress_in j.progress x.id).runs ≡ 0
    go (apart e f) = none_some n (sym f ∙ ql.connection ∙ con)
    go (begins m b) = begin m (same_Some m n (sym b.first.next_is ∙ ql.connection ∙ con)) b
    go (goes_on m c g) = going m c (same_Some m n (sym (around s p row m c w g).after ∙ con)) g
    go (ends m g) = none_some n (sym g.next_is ∙ ql.connection ∙ con)
    go (under_reset r f) =
        wrong (sym r ∙ ap (λ (c : Change). c.after.rst) (change_plain s row p w.was.standing.devices w.inside) ∙ off)

-- ---- any row

pub write_row : (s : ScenarioValue) (p : List Row) (row : Row) → Obeys s → IsPrompt s (row ∷ p) → Stood s p
    → NextStood s p row → CommandFacts s p → InstructedFacts s p → WritesAsked s p row → WriteFacts s p
    → WriteRow s p row
write_row s p row o prompt was nx commands told asked h = record {
  seats = seats_are s (obeys_fits s o);
  was = was;
  nx = nx;
  inside = (least_is s p row prompt.1).inside;
  commands = commands;
  told = told;
  asked = asked;
  unrun = h.unrun;
  present = h.present;
  units = h.units;
}

pub writes_next : (s : ScenarioValue) (p : List Row) (row : Row) → Obeys s → IsPrompt s (row ∷ p) → Stood s p
    → NextStood s p row → ItemFacts s p → CommandFacts s p → InstructedFacts s p → WritesAsked s p row → WriteFacts s p
    → WriteFacts s (row ∷ p)
writes_next s p row o prompt was nx items commands told asked h =
    let w = write_row s p row o prompt was nx commands told asked h in
    record {
      whose = whose_next s p row w h.whose;
      units = units_next s p row w items (by w (bus (row ∷ p)).rst refl);
      reset = reset_next s p row w h.reset;
      unrun = unrun_next s p row o prompt w items;
      present = present_next s p row w;
    }
  where
    by : WriteRow s p row → (q : Bool) → (bus (row ∷ p)).rst ≡ q
        → AllUnits IsEmptyUnit (array_of s (run_state s (row ∷ p))).units ⊎ ((bus (row ∷ p)).rst ≡ false)
    by w true e = inl (reset_next s p row w h.reset e)
    by w false e = inr e

-- The data of writes come whole to each unit, with each row of a prompt trace.
use Rattle.trace_laws.proofs
use proofs.Names.{ℕ, ◌≡◌, ◌⊎◌, inl, inr, Bool, true, false, not, ◌&&◌, ◌||◌, ◌==◌, ◌∙◌, List, [], ◌∷◌, length, Option}
use proofs.Names.{Some, None, refl, sym, ap, or_right, or_left, and_from, eq-eqb, same_Some, if◌then◌else◌, is_some}
use proofs.Names.{wrong, wrong', implication, ProcId, change_of, falls, rises, same_phase, LineSet, same, changes_phase}
use proofs.Names.{is_data, is_message_in, connection, connection_after, connection_of, is_fault, receiver_in, bus, Row}
use proofs.Names.{Change, Connection, GOOD, ScenarioValue, Obeys, Reply, Process, process_of, same_id, RowReading}
use proofs.Names.{row_reading, Serving, phase_of, phase_leaving, phase_entry, Leaving, Phase, Task, run_state_plain}
use proofs.Names.{progress_in, IsPrompt, IsPlain, RunState, array_of, bus_of, process_served, run_state, leaving_of}
use proofs.Names.{hearing_of, leaving, serving_of, is_writing, moved_count, reply_now, task_of, task_if, Writer}
use proofs.Names.{writer_of, writers, is_data_out, brings_byte, is_writer, is_next_byte, is_written_byte, is_whole_run}
use proofs.Names.{is_written_run, ends_run, is_written_in, is_written_on, is_written, written, is_data_in}
use proofs.Names.{in_connection, reading_is, self_id, id_is, Begins, Ends, GoesOn, RowOf, apart, begins, goes_on, ends}
use proofs.Names.{under_reset, change_plain, none_some, by_bool, last_writer, own_units, ConnectionRow, connection_row}
use proofs.Names.{RowFacts, stays, ends_here, Stood, NextStood, Planned, is_directed, writes_of, writes_there}
use proofs.Names.{none_raised, IsWriterOf, IsAnsweredWhole, WriteFacts, WritesAsked, CommandFacts, InstructedFacts}
use proofs.{Runs.{Done.{DoneOut, out_done, done_in_data, done_goes}, Rows.{served_id}}, Writes.Facts.{write_row}}
use proofs.Writes.Rows.{WriteRow, Around, around, out_is, runs_out, in_lines}

-- ---- a byte of DATA OUT crosses

is_writer_by : (o : Option ProcId) (id : ProcId) → o ≡ Some id → is_writer o id ≡ true
is_writer_by o id e = ap (λ (x : Option ProcId). is_writer x id) e ∙ self_id id

next_byte : (s : ScenarioValue) (p : List Row) (row : Row) (n : Connection) (c : Change) (q : Process)
    → WriteRow s p row → GoesOn s (run_state s p) row n c → (run_state s p).exchange.begun ≡ true
    → phase_of (bus_of (run_state s p)) ≡ Phase.DataOut → process_served s (run_state s p) ≡ Some q
    → is_next_byte s (run_state s p) (writers s p) q ≡ true
next_byte s p row n c q w g b phase served =
    go ((progress_in k.progress q.id).runs == 0) refl (k.handshakes.answers == 0) refl
  where
    k : RunState
    k = run_state s p

    ar : Around s p row n c
    ar = around s p row n c w g

    was : writer_of (writers s p) q.target q.unit ≡ Some q.id → is_next_byte s k (writers s p) q ≡ true
    was e = or_left _ _ (is_writer_by _ q.id e)

    go : (x : Bool) → ((progress_in k.progress q.id).runs == 0) ≡ x → (y : Bool) → (k.handshakes.answers == 0) ≡ y
        → is_next_byte s k (writers s p) q ≡ true
    go true ex true ey = or_right (is_writer (writer_of (writers s p) q.target q.unit) q.id) _ (and_from _ _ ex ey)
    go true ex false ey = was (w.present n q ar.before ar.calm b phase served ey)
    go false ex y ey =
        let there = runs_out s p row n q w ar.before ar.calm b phase served in
        let own = (served_id s k.served q served).1 in
        was (last_writer s k.progress (writers s p) (array_of s k).units q there.running
        (own_units s p w.seats w.was.standing.devices) own
        (writes_there s k q (w.was.planned n ar.before ar.calm) b served phase) there.running_is there.free ex w.units)

written_byte : (s : ScenarioValue) (p : List Row) (row : Row) (n : Connection) (c : Change)
    → WriteRow s p row → GoesOn s (run_state s p) row n c → (run_state s p).exchange.begun ≡ true
    → phase_of (bus_of (run_state s p)) ≡ Phase.DataOut → (o : Option Process) → process_served s (run_state s p) ≡ o
    → is_written_byte s (run_state s p) (writers s p) o ≡ true
written_byte s p row n c w g b phase None e =
    let k = run_state s p in
    let ar = around s p row n c w g in
    let lines = out_lines (bus_of k) (ap is_data_out phase) in
    wrong' (sym (ap (λ (o : Option Process). is_directed (bus_of k).io (writes_of o)) e)
    ∙ (w.was.planned n ar.before ar.calm).serves b lines)
  where
    out_lines : (l : LineSet) → is_data_out (phase_of l) ≡ true → (not l.msg && not l.cd) ≡ true
    out_lines l e = go l.msg l.cd l.io e
      where
        go : (m d i : Bool) → is_data_out (if m then (if i then Phase.MessageIn else Phase.MessageOut)
            else if d then (if i then Phase.Status else Phase.Command) else if i then Phase.DataIn else Phase.DataOut)
            ≡ true → (not m && not d) ≡ true
        go true d true z = wrong' z
        go true d false z = wrong' z
        go false true true z = wrong' z
        go false true false z = wrong' z
        go false false i z = refl
written_byte s p row n c w g b phase (Some q) e =
    let k = run_state s p in
    and_from _ _ (and_from _ _ (and_from _ _ b (ap not g.calm)) (w.asked.sizes q e))
    (next_byte s p row n c q w g b phase e)

-- ---- a run is done

pub moved_all : (q : Process) (r : Reply) → is_writing q ≡ true → (moved_count q r == 0) ≡ false
    → moved_count q r ≡ length q.sent
moved_all q r w some = go (r.status == GOOD) refl
  where
    by : (x : Bool) → moved_count q r ≡ length (if x then q.sent else []) → moved_count q r ≡ length q.sent
    by true e = e
    by false e = wrong (sym (ap (λ (m : ℕ). m == 0) e) ∙ some)

    go : (x : Bool) → (r.status == GOOD) ≡ x → moved_count q r ≡ length q.sent
    go x e = by x (λ i. length (if w i then (if e i then q.sent else []) else r.bytes))

task_moves : (s : ScenarioValue) (k : RunState) (q : Process) (t : Task) → process_served s k ≡ Some q
    → task_of s k ≡ Some t → t.moved ≡ moved_count q (reply_now (array_of s k) q)
task_moves s k q t e f = ap (λ (o : Option Task). moved_or t o) (sym f ∙ ap (task_if s k) e)
  where
    moved_or : Task → Option Task → ℕ
    moved_or x None = x.moved
    moved_or x (Some y) = y.moved

-- One that does not write sent nothing.
reads_other : (s : ScenarioValue) (p : List Row) (q : Process)
    → ((t u : ℕ) (id : ProcId) → writer_of (writers s p) t u ≡ Some id → IsWriterOf s t u id)
    → process_of s q.id ≡ Some q → is_writing q ≡ false
    → not (is_writer (writer_of (writers s p) q.target q.unit) q.id) ≡ true
reads_other s p q whose own reads = go (writer_of (writers s p) q.target q.unit) refl
  where
    go : (o : Option ProcId) → writer_of (writers s p) q.target q.unit ≡ o → not (is_writer o q.id) ≡ true
    go None e = refl
    go (Some id) e = by_bool (same_id id q.id) (λ f. let z = whose q.target q.unit id e in let same : z.process ≡ q =
        same_Some z.process q (sym z.process_is ∙ ap (process_of s) (id_is id q.id f) ∙ own) in
        wrong (sym z.writes ∙ ap is_writing same ∙ reads)) (λ f. ap not f)

done_run : (s : ScenarioValue) (p : List Row) (row : Row) (n : Connection) (c : Change) (q : Process)
    → WriteRow s p row → ((t u : ℕ) (id : ProcId) → writer_of (writers s p) t u ≡ Some id → IsWriterOf s t u id)
    → GoesOn s (run_state s p) row n c → changes_phase c ≡ true → (run_state s p).exchange.begun ≡ true
    → (leaving s (run_state s p) n.target).done ≡ true → process_served s (run_state s p) ≡ Some q
    → is_written_run s (run_state s p) (writers s p) (Some q) (phase_of (bus_of (run_state s p))) ≡ true
done_run s p row n c q w whose g ep b done served =
    by (done_in_data v (bus_of k).atn (phase_of (bus_of k)) (sym (ap (λ (l : Leaving). l.done) left) ∙ done))
  where
    k : RunState
    k = run_state s p

    v : Serving
    v = serving_of s k n.target

    ar : Around s p row n c
    ar = around s p row n c w g

    pd : Planned s k
    pd = w.was.planned n ar.before ar.calm

    own : process_of s q.id ≡ Some q
    own = (served_id s k.served q served).1

    left : leaving s k n.target ≡ phase_leaving v (bus_of k).atn (phase_of (bus_of k))
    left = λ i. if b i then phase_leaving v (bus_of k).atn (phase_of (bus_of k)) else phase_entry Phase.MessageOut

    whole : phase_of (bus_of k) ≡ Phase.DataOut → is_whole_run s k q (task_of s k) ≡ true
    whole phase =
        let d : DoneOut v = out_done v
        (sym (ap (λ (y : Leaving). y.done) (left ∙ ap (phase_leaving v (bus_of k).atn) phase)) ∙ done) in
        let a : IsAnsweredWhole s k q d.task = w.asked.answered n q d.task ar.before ar.calm ar.off ar.after
        (sym w.was.plain.begun ∙ b) (ar.turned ∙ ep) phase d.struck served d.task_is in
        let is = task_moves s k q d.task served d.task_is in
        let all : d.task.moved ≡ length q.sent = is ∙ moved_all q (reply_now (array_of s k) q)
        (writes_there s k q pd b served phase) (ap (λ (x : ℕ). x == 0) (sym is) ∙ a.moves) in
        ap (is_whole_run s k q) d.task_is ∙ and_from _ _
        (and_from _ _ (and_from _ _ (ap not g.calm) (w.asked.sizes q served)) (eq-eqb d.task.moved (length q.sent) all))
        a.whole

    reads : phase_of (bus_of k) ≡ Phase.DataIn → is_writing q ≡ false
    reads phase = by_bool (is_writing q) (λ e. wrong'
        (sym (λ i. not (e i)) ∙ sym (λ i. is_directed (lines.1 i) (writes_of (served i))) ∙ pd.serves b lines.0))
        (λ e. e)
      where
        lines : (is_data (bus_of k) ≡ true) × ((bus_of k).io ≡ true)
        lines = in_lines (bus_of k) (ap is_data_in phase)

    by : (phase_of (bus_of k) ≡ Phase.DataIn) ⊎ (phase_of (bus_of k) ≡ Phase.DataOut)
        → is_written_run s k (writers s p) (Some q) (phase_of (bus_of k)) ≡ true
    by (inl phase) = ap (is_written_run s k (writers s p) (Some q)) phase ∙ reads_other s p q whose own (reads phase)
    by (inr phase) = ap (is_written_run s k (writers s p) (Some q)) phase ∙ whole phase

-- ---- a row of a connection

three : (a b c : Bool) → ((a && b) && c) ≡ true → ((a ≡ true) × (b ≡ true)) × (c ≡ true)
three true true true e = ((refl, refl), refl)
three true true false e = wrong' e
three true false c e = wrong' e
three false b c e = wrong' e

going : (s : ScenarioValue) (p : List Row) (row : Row) (n : Connection) (c : Change)
    → WriteRow s p row → WriteFacts s p → GoesOn s (run_state s p) row n c
    → is_written_in s (run_state s p) (hearing_of (run_state s p) row (row_reading (run_state s p).story.bus_state row))
    (leaving_of s (run_state s p) (run_state s p).story.bus_state.connection) (writers s p) ≡ true
going s p row n c w h g = and_from _ _ (implication _ _ byte) (implication _ _ run)
  where
    k : RunState
    k = run_state s p

    d : RowReading
    d = row_reading k.story.bus_state row

    byte : brings_byte (hearing_of k row d) ≡ true → is_written_byte s k (writers s p) (process_served s k) ≡ true
    byte e =
        let z = three d.crosses (is_data_out (phase_of d.change.before)) (not d.change.after.rst) e in
        written_byte s p row n c w g (g.begun z.0.0) (out_is (bus_of k) z.0.1) (process_served s k) refl

    run : ends_run k (hearing_of k row d) (leaving_of s k k.story.bus_state.connection) ≡ true
        → is_written_run s k (writers s p) (process_served s k) (phase_of (bus_of k)) ≡ true
    run e =
        let z = three (changes_phase d.change) k.exchange.begun (leaving_of s k k.story.bus_state.connection).done e in
        at (sym (ap changes_phase g.row_is.change_is) ∙ z.0.0) z.0.1
        (sym (ap (λ (o : Option Connection). (leaving_of s k o).done) g.row_is.connection_is) ∙ z.1)
        (process_served s k) refl
      where
        at : changes_phase c ≡ true → k.exchange.begun ≡ true
            → (leaving s k n.target).done ≡ true → (o : Option Process) → process_served s k ≡ o
            → is_written_run s k (writers s p) o (phase_of (bus_of k)) ≡ true
        at ep b done None f = refl
        at ep b done (Some q) f = done_run s p row n c q w h.whose g ep b done f

-- One with which it ends, RST being false.
ends_in : (s : ScenarioValue) (k : RunState) (row : Row) (all : List Writer)
    → (row_reading k.story.bus_state row).crosses ≡ false
    → (ends_run k (hearing_of k row (row_reading k.story.bus_state row)) (leaving_of s k k.story.bus_state.connection)
    ≡ true → is_written_run s k all (process_served s k) (phase_of (bus_of k)) ≡ true)
    → is_written_in s k (hearing_of k row (row_reading k.story.bus_state row))
    (leaving_of s k k.story.bus_state.connection) all ≡ true
ends_in s k row all e f =
    let d = row_reading k.story.bus_state row in
    and_from _ _ ((λ i. not (e i && is_data_out (phase_of d.change.before) && not d.change.after.rst)
    || is_written_byte s k all (process_served s k))) (implication _ _ f)

-- ---- one after which no connection stands, or under RST

pub left_by : (s : ScenarioValue) (k : RunState) (n : Connection) → k.exchange.begun ≡ true
    → leaving s k n.target ≡ phase_leaving (serving_of s k n.target) (bus_of k).atn (phase_of (bus_of k))
left_by s k n b = λ i. if b i then phase_leaving (serving_of s k n.target) (bus_of k).atn (phase_of (bus_of k))
    else phase_entry Phase.MessageOut

-- It is not left for a further phase.
stops_none : (s : ScenarioValue) (k : RunState) (n : Connection) → k.exchange.begun ≡ true
    → (leaving s k n.target).done ≡ true → (leaving s k n.target).to ≡ None → ⊥
stops_none s k n b done stops =
    let left = left_by s k n b in
    let goes = done_goes (serving_of s k n.target) (bus_of k).atn
    (phase_of (bus_of k)) (sym (ap (λ (l : Leaving). l.done) left) ∙ done) in
    wrong' (sym (ap (λ (o : Option Phase). is_some o) stops) ∙ ap (λ (l : Leaving). is_some l.to) left ∙ goes)

ending : (s : ScenarioValue) (p : List Row) (row : Row) (n : Connection) → Obeys s → IsPrompt s (row ∷ p)
    → WriteRow s p row → (bus (row ∷ p)).rst ≡ false → Ends s (run_state s p) row n
    → is_written_in s (run_state s p) (hearing_of (run_state s p) row (row_reading (run_state s p).story.bus_state row))
    (leaving_of s (run_state s p) (run_state s p).story.bus_state.connection) (writers s p) ≡ true
ending s p row n o prompt w off g = ends_in s k row (writers s p) g.carries_none run
  where
    k : RunState
    k = run_state s p

    d : RowReading
    d = row_reading k.story.bus_state row

    ql : IsPlain s (row ∷ p) (run_state s (row ∷ p))
    ql = run_state_plain s (row ∷ p) w.nx.stood.standing.devices

    con : connection p ≡ Some n
    con = sym w.was.plain.connection ∙ g.connection_is

    r : ConnectionRow s p row n
    r = connection_row s p row n o prompt w.was con (ap (λ (l : LineSet). l.rst) (sym w.was.plain.bus) ∙ g.calm) off

    next : connection (row ∷ p) ≡ None
    next = sym ql.connection ∙ g.next_is

    stops : RowFacts s p row n → (leaving s k n.target).to ≡ None
    stops (ends_here f) = f.whereto
    stops (stays f) =
        none_some n (sym next ∙ sym ql.connection ∙ (in_connection s k row n f.change (changes_phase f.change)
        (is_some (receiver_in n f.change)) (is_fault row.kind) f.row_is refl refl refl).connection_is)

    run : ends_run k (hearing_of k row d) (leaving_of s k k.story.bus_state.connection) ≡ true
        → is_written_run s k (writers s p) (process_served s k) (phase_of (bus_of k)) ≡ true
    run e =
        let z = three (changes_phase d.change) k.exchange.begun (leaving_of s k k.story.bus_state.connection).done e in
        absurd (stops_none s k n z.0.1
        (sym (ap (λ (v : Option Connection). (leaving_of s k v).done) g.connection_is) ∙ z.1) (stops r.facts))

-- No phase line rises.
out_stays : (b a : LineSet) → phase_of b ≡ Phase.DataOut → rises b.msg a.msg ≡ false → rises b.cd a.cd ≡ false
    → rises b.io a.io ≡ false → same_phase b a ≡ true
out_stays b a e m c i = go b.msg b.cd b.io a.msg a.cd a.io (ap is_data_out e) m c i
  where
    go : (m d i x y z : Bool) → is_data_out (if m then (if i then Phase.MessageIn else Phase.MessageOut)
        else if d then (if i then Phase.Status else Phase.Command) else if i then Phase.DataIn else Phase.DataOut)
        ≡ true → rises m x ≡ false → rises d y ≡ false → rises i z ≡ false → (same m x && same d y && same i z) ≡ true
    go true d true x y z e f g h = wrong' e
    go true d false x y z e f g h = wrong' e
    go false true true x y z e f g h = wrong' e
    go false true false x y z e f g h = wrong' e
    go false false true x y z e f g h = wrong' e
    go false false false true y z e f g h = wrong f
    go false false false false true z e f g h = wrong g
    go false false false false false true e f g h = wrong h
    go false false false false false false e f g h = refl

under : (s : ScenarioValue) (p : List Row) (row : Row) (n : Connection) → WriteRow s p row
    → WriteFacts s p → (run_state s p).story.bus_state.connection ≡ Some n
    → (bus (row ∷ p)).rst ≡ true → (row_reading (run_state s p).story.bus_state row).crosses ≡ false
    → is_written_in s (run_state s p) (hearing_of (run_state s p) row (row_reading (run_state s p).story.bus_state row))
    (leaving_of s (run_state s p) (run_state s p).story.bus_state.connection) (writers s p) ≡ true
under s p row n w h here on quiet = ends_in s k row (writers s p) quiet run
  where
    k : RunState
    k = run_state s p

    d : RowReading
    d = row_reading k.story.bus_state row

    con : connection p ≡ Some n
    con = sym w.was.plain.connection ∙ here

    reads : (q : Process) → process_served s k ≡ Some q → k.exchange.begun ≡ true → phase_of (bus_of k) ≡ Phase.DataIn
        → is_writing q ≡ false
    reads q served b phase = go (bus p).rst refl
      where
        go : (x : Bool) → (bus p).rst ≡ x → is_writing q ≡ false
        go true e = w.asked.resets n q con e b phase served
        go false e = by_bool (is_writing q) (λ f. wrong' (sym (λ i. not (f i))
            ∙ sym (λ i. is_directed (lines.1 i) (writes_of (served i))) ∙ (w.was.planned n con e).serves b lines.0))
            (λ f. f)
          where
            lines : (is_data (bus_of k) ≡ true) × ((bus_of k).io ≡ true)
            lines = in_lines (bus_of k) (ap is_data_in phase)

    stays_out : phase_of (bus_of k) ≡ Phase.DataOut → changes_phase d.change ≡ false
    stays_out phase =
        ap changes_phase (change_plain s row p w.was.standing.devices w.inside)
        ∙ ap not (out_stays (bus p) (bus (row ∷ p)) (ap phase_of (sym w.was.plain.bus) ∙ phase)
        (none_raised (λ x. x.msg) (λ _ _. refl) refl refl p row w.inside w.nx.obeys on)
        (none_raised (λ x. x.cd) (λ _ _. refl) refl refl p row w.inside w.nx.obeys on)
        (none_raised (λ x. x.io) (λ _ _. refl) refl refl p row w.inside w.nx.obeys on))

    run : ends_run k (hearing_of k row d) (leaving_of s k k.story.bus_state.connection) ≡ true
        → is_written_run s k (writers s p) (process_served s k) (phase_of (bus_of k)) ≡ true
    run e = by (done_in_data (serving_of s k n.target) (bus_of k).atn
        (phase_of (bus_of k)) (sym (ap (λ (l : Leaving). l.done) (left_by s k n z.0.1))
        ∙ sym (ap (λ (v : Option Connection). (leaving_of s k v).done) here) ∙ z.1)) (process_served s k) refl
      where
        z : ((changes_phase d.change ≡ true) × (k.exchange.begun ≡ true))
            × ((leaving_of s k k.story.bus_state.connection).done ≡ true)
        z = three (changes_phase d.change) k.exchange.begun (leaving_of s k k.story.bus_state.connection).done e

        by : (phase_of (bus_of k) ≡ Phase.DataIn) ⊎ (phase_of (bus_of k) ≡ Phase.DataOut) → (o : Option Process)
            → process_served s k ≡ o → is_written_run s k (writers s p) o (phase_of (bus_of k)) ≡ true
        by v None f = refl
        by (inr phase) (Some q) f = wrong' (sym (stays_out phase) ∙ z.0.0)
        by (inl phase) (Some q) f = ap (is_written_run s k (writers s p) (Some q)) phase
            ∙ reads_other s p q h.whose (served_id s k.served q f).1 (reads q f z.0.1 phase)

-- ---- any row

message_in_not : (b : LineSet) → is_message_in b ≡ true → is_data_out (phase_of b) ≡ false
message_in_not b e = go b.msg b.cd b.io e
  where
    go : (m d i : Bool) → (m && d && i) ≡ true
        → is_data_out (if m then (if i then Phase.MessageIn else Phase.MessageOut)
        else if d then (if i then Phase.Status else Phase.Command) else if i then Phase.DataIn else Phase.DataOut)
        ≡ false
    go true d true z = refl
    go true true false z = wrong' z
    go true false false z = wrong' z
    go false d i z = wrong' z

row_written : (s : ScenarioValue) (p : List Row) (row : Row) → Obeys s
    → IsPrompt s (row ∷ p) → WriteRow s p row → WriteFacts s p
    → is_written s (run_state s p) row (row_reading (run_state s p).story.bus_state row) (writers s p) ≡ true
row_written s p row o prompt w h = go w.nx.row_is
  where
    k : RunState
    k = run_state s p

    d : RowReading
    d = row_reading k.story.bus_state row

    same : d.change ≡ change_of p row
    same = change_plain s row p w.was.standing.devices w.inside

    on : (before after : Option Connection) → k.story.bus_state.connection ≡ before → d.next ≡ after → is_written_on s k
        (hearing_of k row d) (leaving_of s k k.story.bus_state.connection) (writers s p) before after ≡ true
        → is_written s k row d (writers s p) ≡ true
    on before after e f z = (λ i. is_written_on s k (hearing_of k row d) (leaving_of s k k.story.bus_state.connection)
        (writers s p) (e i) (f i)) ∙ z

    first : (n : Connection) → Begins s k row n → (q : Bool) → n.reselected ≡ q
        → not (n.reselected && is_data_out (phase_of d.change.after)) ≡ true
    first n b false e = λ i. not (e i && is_data_out (phase_of d.change.after))
    first n b true e =
        (λ i. not (e i && is_data_out (phase_of d.change.after))) ∙ ap not (message_in_not d.change.after (b.names e))

    rst_after : d.change.after.rst ≡ true → (bus (row ∷ p)).rst ≡ true
    rst_after e = sym (ap (λ (c : Change). c.after.rst) same) ∙ e

    reset : d.change.after.rst ≡ true → d.crosses ≡ false → (before after : Option Connection)
        → k.story.bus_state.connection ≡ before → d.next ≡ after → is_written s k row d (writers s p) ≡ true
    reset e f None None g i = on None None g i refl
    reset e f None (Some n) g i = none_begins (row_of_begins w.nx.row_is)
      where
        none_begins : (d.change.after.rst ≡ false) → is_written s k row d (writers s p) ≡ true
        none_begins z = wrong (sym e ∙ z)

        row_of_begins : RowOf s k row → d.change.after.rst ≡ false
        row_of_begins v = by_bool d.change.after.rst
            (λ z. none_some n (sym ((λ j. connection_after (g j) k.story.bus_state.call d.change row)
            ∙ (λ j. if falls d.change.before.sel d.change.after.sel && d.change.after.bsy && not (z j)
            then connection_of k.story.bus_state.call row.time else None)
            ∙ off (falls d.change.before.sel d.change.after.sel) d.change.after.bsy) ∙ i)) (λ z. z)
          where
            off :
                (a b : Bool) → (if a && b && false then connection_of k.story.bus_state.call row.time else None) ≡ None
            off true true = refl
            off true false = refl
            off false b = refl
    reset e f (Some m) None g i = on (Some m) None g i (under s p row m w h g (rst_after e) f)
    reset e f (Some m) (Some n) g i = on (Some m) (Some n) g i
        (and_from _ _ (or_right (not d.change.before.rst) _ e) (under s p row m w h g (rst_after e) f))

    go : RowOf s k row → is_written s k row d (writers s p) ≡ true
    go (apart e f) = on None None e f refl
    go (begins n b) = on None (Some n) b.first.connection_is b.first.next_is (first n b n.reselected refl)
    go (goes_on n c g) =
        let next : d.next ≡ Some n = ap (λ (x : RowReading). x.next)
        (reading_is k row n c (is_some (receiver_in n c)) g.row_is refl) in
        on (Some n) (Some n) g.row_is.connection_is next
        (and_from _ _ (or_left (not (bus_of k).rst) _ (ap not g.calm)) (going s p row n c w h g))
    go (ends n g) = by_bool d.change.after.rst (λ e. reset e g.carries_none (Some n) None g.connection_is g.next_is)
        (λ e. on (Some n) None g.connection_is g.next_is
        (ending s p row n o prompt w (sym (ap (λ (c : Change). c.after.rst) same) ∙ e) g))
    go (under_reset r f) = reset r f k.story.bus_state.connection d.next refl refl

pub written_row : (s : ScenarioValue) (p : List Row) (row : Row) → Obeys s → IsPrompt s (row ∷ p) → Stood s p
    → NextStood s p row → CommandFacts s p → InstructedFacts s p → WritesAsked s p row → WriteFacts s p
    → is_written s (run_state s p) row (row_reading (run_state s p).story.bus_state row) (writers s p) ≡ true
written_row s p row o prompt was nx commands told asked h =
    row_written s p row o prompt (write_row s p row o prompt was nx commands told asked h) h

-- So they have with all rows.
pub written_next : (s : ScenarioValue) (p : List Row) (row : Row) → Obeys s → IsPrompt s (row ∷ p) → Stood s p
    → NextStood s p row → CommandFacts s p → InstructedFacts s p → WritesAsked s p row → WriteFacts s p
    → written s p ≡ true → written s (row ∷ p) ≡ true
written_next s p row o prompt was nx commands told asked h e =
    and_from _ _ e (written_row s p row o prompt was nx commands told asked h)

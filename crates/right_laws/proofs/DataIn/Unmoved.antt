-- Before the target of a connection knows the command, the process that it serves has carried no data; so as COMMAND is
-- left (6.1.6, 7.8).
use Rattle.right_laws.proofs
use proofs.Names.{◌≡◌, ◌<◌, Bool, true, false, ◌∙◌, List, [], ◌∷◌, Option, Some, refl, sym, ap, subst, same_Some}
use proofs.Names.{if◌then◌else◌, is_some, wrong, ProcId, is_command, is_data, connection, receiver_in, bus, Row, Change}
use proofs.Names.{Connection, ScenarioValue, Obeys, Process, row_reading, CarriedBytes, carried_or_nothing, process}
use proofs.Names.{has_item, Link, aim_of, phase_of, Phase, run_state_plain, IsPrompt, AreOfDevices, IsPlain, RunState}
use proofs.Names.{bus_of, carried_here, process_item, process_served, item_if, run_state, served_after, hearing_of}
use proofs.Names.{ready_of, Instructions, instructions, instructions_after, IsFirstRow, reading_in, Begins, GoesOn}
use proofs.Names.{RowOf, apart, begins, goes_on, under_reset, change_plain, least_is, none_some, command_phase, by_bool}
use proofs.Names.{told_with, items_fresh, CommandFacts, StandsIn, Instructed, InstructedFacts, KnownIn, IsFresh}
use proofs.{Names.{LinesOf, lines_of, served_id, known_before, NoneAtArrival}, Given.Bytes.{moved_stays}}
use proofs.{Given.Crossings.{data_phase}, Ran.{Crossings.{here_goes, known_served}, Facts.{Known, apart_of}}}
use Rattle.trace_laws.specs.book_laws.specs.Traces.{ends}

abbrev pub IsUnmovedServed : ScenarioValue → List Row → Type 0
IsUnmovedServed s rows = (n : Connection) (c : Process) → connection rows ≡ Some n → (bus rows).rst ≡ false
    → (instructions s rows).known ≡ false → process_served s (run_state s rows) ≡ Some c
    → (carried_here (run_state s rows) c.id).moved.bytes ≡ []

pub unmoved_first : (s : ScenarioValue) → IsUnmovedServed s []
unmoved_first s n p e = none_some n e

-- Where data move the target knows the command.
known_in_data : (s : ScenarioValue) (k : RunState) (i : Instructions) (n : Connection) → Instructed s k i n
    → k.exchange.begun ≡ true → is_data (bus_of k) ≡ true → i.known ≡ true
known_in_data s k i n told b on =
    by_bool n.reselected
    (λ e. (told.again e).0)
    (λ e. at (bus_of k).io (subst (λ (x : Phase). KnownIn i.known k.exchange.plan x) phase ((told.selected e).stage b)))
  where
    phase : phase_of (bus_of k) ≡ (if (bus_of k).io then Phase.DataIn else Phase.DataOut)
    phase = data_phase (bus_of k) on

    at : (q : Bool) → KnownIn i.known k.exchange.plan (if q then Phase.DataIn else Phase.DataOut) → i.known ≡ true
    at true z = z
    at false z = z

pub unmoved_next : (s : ScenarioValue) (p : List Row) (row : Row) → Obeys s → IsPrompt s (row ∷ p) → Known s p row
    → InstructedFacts s p → IsUnmovedServed s p → IsUnmovedServed s (row ∷ p)
unmoved_next s p row o prompt h told was n x con off unknown served = go h.next.row_is
  where
    k : RunState
    k = run_state s p

    j : RunState
    j = run_state s (row ∷ p)

    dv : AreOfDevices p
    dv = h.was.standing.devices

    lt : row.dev < 8
    lt = (least_is s p row prompt.1).inside

    ql : IsPlain s (row ∷ p) j
    ql = run_state_plain s (row ∷ p) h.next.stood.standing.devices

    begin : (m : Connection) → m ≡ n → Begins s k row m → (carried_here j x.id).moved.bytes ≡ []
    begin m same b = by_bool m.reselected (λ e. wrong (sym (knows ∙ e) ∙ unknown))
        (λ e. let fresh : IsFresh k m = items_fresh s p row m o prompt h.was h.items
        (sym h.was.plain.connection ∙ f.connection_is) (con ∙ ap (λ (y : Connection). Some y) (sym same)) e in
        let item : fresh.item ≡ process x.id = same_Some fresh.item (process x.id) (sym
        (serves ∙ ap (λ (q : Bool). if q then item_if (ready_of s k m.target) else aim_of k.story.aims m.initiator) e
        ∙ fresh.aim_is) ∙ (served_id s j.served x served).0) in
        moved_stays s p row h x.id (λ l z. none_some l (sym (apart_of s p row h f.connection_is) ∙ z))
        ∙ ap (λ (c : Option CarriedBytes). (carried_or_nothing c x.id).moved.bytes)
        (h.items.items.only.carried x.id (ap (has_item k.story.sent.sent) (sym item) ∙ fresh.unsent)))
      where
        f : IsFirstRow k row m
        f = b.first

        knows : (instructions s (row ∷ p)).known ≡ m.reselected
        knows = λ i. (instructions_after (f.connection_is i) (f.next_is i)
            (hearing_of k row (row_reading k.story.bus_state row)) k.exchange.plan (instructions s p)).known

        serves : j.served ≡ (if m.reselected then item_if (ready_of s k m.target) else aim_of k.story.aims m.initiator)
        serves = λ i. served_after s k (f.connection_is i) (f.next_is i)

    going : (m : Connection) (c : Change) → m ≡ n → GoesOn s k row m c → (carried_here j x.id).moved.bytes ≡ []
    going m c same g = moved_stays s p row h x.id quiet ∙ was m x l.con l.calm before before_served
      where
        l : LinesOf s p row m c
        l = lines_of s p row m c dv lt g.calm g.row_is

        before : (instructions s p).known ≡ false
        before = known_before (hearing_of k row (reading_in k.story.bus_state m c (is_some (receiver_in m c))))
            k.exchange.plan (instructions s p)
            (sym (ap (λ (i : Instructions). i.known) (told_with s p row m c (is_some (receiver_in m c)) g.row_is refl))
            ∙ unknown)

        next : (row_reading k.story.bus_state row).next ≡ Some n
        next = (λ i. Rattle.due_model.specs.bus_trace.specs.Terms.connection_after
            (h.was.plain.connection i) (h.was.plain.call i) (change_plain s row p dv lt i) row)
            ∙ con

        before_served : process_served s k ≡ Some x
        before_served = ap (process_item s) (sym (λ i. served_after s k (g.row_is.connection_is i) (next i))) ∙ served

        quiet : (w : Link) → k.story.link ≡ Some w → w.item ≡ Some (process x.id)
            → (row_reading k.story.bus_state row).crosses ≡ true
            → is_data (row_reading k.story.bus_state row).change.before ≡ false
        quiet w e item crosses = by_bool (is_data (row_reading k.story.bus_state row).change.before)
            (λ z. let on : is_data (bus_of k) ≡ true =
            ap is_data (g.row_is.bus_is ∙ ap (λ (y : Change). y.before) (sym g.row_is.change_is)) ∙ z in wrong
            (sym (known_in_data s k (instructions s p) m (told m l.con l.calm) (g.begun crosses) on) ∙ before)) (λ z. z)

    go : RowOf s k row → (carried_here j x.id).moved.bytes ≡ []
    go (apart e f) = none_some n (sym f ∙ ql.connection ∙ con)
    go (begins m b) = begin m (same_Some m n (sym b.first.next_is ∙ ql.connection ∙ con)) b
    go (goes_on m c g) = going m c (same_Some m n (sym (lines_of s p row m c dv lt g.calm g.row_is).after ∙ con)) g
    go (ends m g) = none_some n (sym g.next_is ∙ ql.connection ∙ con)
    go (under_reset r f) = wrong (sym r ∙ ap (λ (c : Change). c.after.rst) (change_plain s row p dv lt) ∙ off)

-- ---- as COMMAND is left

pub none_at_arrival : (s : ScenarioValue) (p : List Row) (row : Row) → IsPrompt s (row ∷ p) → Known s p row
    → InstructedFacts s p → CommandFacts s p → IsUnmovedServed s p → NoneAtArrival (run_state s p) row
none_at_arrival s p row prompt h told commands was l id link item calm stands turns command =
    ap (λ (x : ProcId). (carried_here k x).moved.bytes) (sym same)
    ∙ was n own.0 lines.con lines.calm unknown (ap (process_item s) served ∙ own.1)
  where
    k : RunState
    k = run_state s p

    g : Rattle.right_laws.proofs.Ran.Crossings.GoesSo s k row
    g = here_goes s k row l id (apart_of s p row h) h.next.row_is
        (record { link_is = link; item_is = item; calm = calm; stands = stands })

    n : Connection
    n = g.connection

    lines : LinesOf s p row n g.change
    lines =
        lines_of s p row n g.change h.was.standing.devices (least_is s p row prompt.1).inside g.goes.calm g.goes.row_is

    served : k.served ≡ Some (process id)
    served = known_served s k row n g.change l id h.was.books g.goes link item

    own : (q : Process) × (Rattle.due_model.specs.array_model.specs.Processes.process_of s id ≡ Some q)
    own = h.places.of_scenario id served

    same : own.0.id ≡ id
    same = Rattle.trace_laws.specs.book_laws.proofs.Carried.Facts.process_id s id own.0 own.1

    phase : phase_of (bus_of k) ≡ Phase.Command
    phase = command_phase (bus_of k)
        (ap is_command (g.goes.row_is.bus_is ∙ ap (λ (y : Change). y.before) (sym g.goes.row_is.change_is)) ∙ command)

    unknown : (instructions s p).known ≡ false
    unknown = by_bool k.exchange.begun (λ b.
        let block = subst (λ (x : Phase). StandsIn s k n x) phase ((commands.books n lines.con lines.calm).begun b) in
        subst (λ (x : Phase). KnownIn (instructions s p).known k.exchange.plan x) phase
        ((i.selected block.1.selected).stage b))
        (λ b. (i.selected ((commands.books n lines.con lines.calm).unbegun b).selected).unbegun b)
      where
        i : Instructed s k (instructions s p) n
        i = told n lines.con lines.calm

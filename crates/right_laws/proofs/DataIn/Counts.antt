-- How many bytes of a run are asked for in DATA IN: the run has one at least, and no more are asked for than it has
-- (6.1.5.1, 6.1.5.2, 6.6.6).
use Rattle.right_laws.proofs
use proofs.Names.{ℕ, ◌≡◌, ◌⊎◌, inl, inr, ◌≤◌, ◌<◌, arith, Bool, true, false, not, ◌&&◌, ◌||◌, ◌==◌, ◌∙◌, List, [], ◌∷◌}
use proofs.Names.{Option, Some, None, refl, sym, ap, subst, same_Some, if◌then◌else◌, is_none, is_some, nat_lt, wrong}
use proofs.Names.{wrong', counted_on, Event, ProcId, change_of, rises, LineSet, changes_phase, is_message_out}
use proofs.Names.{connection, is_fault, receiver_in, bus, Row, Change, Connection, struck_same, Handshakes, handshakes}
use proofs.Names.{handshakes_after, ScenarioValue, Obeys, Policy, array_after, Process, process_of, RowReading}
use proofs.Names.{row_reading, is_status_phase, row_events_by, Story, policy_of, run_length, runs_in_all, begun}
use proofs.Names.{begun_after, Serving, leaving_by, phase_leaving, phase_of, run_length_if, Leaving, Phase, Task}
use proofs.Names.{run_state_plain, target_def_of, ProcessProgress, progress_in, IsPrompt, AreOfDevices, IsPlain}
use proofs.Names.{RunState, array_of, bus_of, process_item, process_served, progress_by_leaving, run_state, leaving}
use proofs.Names.{serving_of, is_writing, moved_count, reply_now, task_if, obeys_fits, seats_are, InConnection}
use proofs.Names.{in_connection, reading_is, same_phase_is, requests_rise, requests_stay, Knows, IsRowIn, RowKind}
use proofs.Names.{still, strikes, crosses, turns, least_is, BeginsConnection, by_reselection, by_selection, run_count}
use proofs.Names.{none_some, by_bool, GoingRow, RowKindOf, begins_now, connection_row, goes_now, going_row, row_kind}
use proofs.Names.{IsFirst, runs_more, IsServedWell, RunsBy, same_length, no_more, handshakes_begin, or_left, task_here}
use proofs.Names.{FitsRuns, lines_now, size_is, RunsFit, has_byte, served_id, progress_turns, any_may_change}
use proofs.{Names.{may_change, OnEvents}, DataIn.{Entries.{EntersRead, enters_read}, Runs.{fits_reads}}}
use proofs.{Given.Crossings.{req_rises}, Offers.Facts.{DataOfferFacts, data_in_carries, data_no_out, data_parts}}
use proofs.{Offers.{Facts.{to_data}, Rows.{kept_row}, Steps.{is_data_in}}, Ran.Crossings.{here_goes, known_served}}
use proofs.Ran.{Facts.{Known, apart_of, here_is, steps_of, then_is}, Shown.{IsArrival, ShownAs, row_shown}}
use proofs.Replies.Same.{events_same}

abbrev pub IsReader : Process → Type 0
IsReader q = is_writing q ≡ false

pub record IsRunCounted (s : ScenarioValue) (p : List Row) (n : Connection) : Type 0 where
  pub some : 1 ≤ run_count s p n
  pub few : (handshakes p).requests ≤ run_count s p n

abbrev pub ReadCounts : ScenarioValue → List Row → Type 0
ReadCounts s p = (n : Connection) → connection p ≡ Some n → (bus p).rst ≡ false → begun p ≡ true
    → is_data_in (bus p) ≡ true → IsRunCounted s p n

pub counts_first : (s : ScenarioValue) → ReadCounts s []
counts_first s n e = none_some n e

-- ---- the reply does not change as DATA IN is entered

all_stay : (s : ScenarioValue) (q : Process) (shown : List Event) → OnEvents (λ e. may_change s q e ≡ false) shown
    → any_may_change s q shown ≡ false
all_stay s q [] h = refl
all_stay s q (e ∷ shown) h = λ i. h.0 i || all_stay s q shown h.1 i

no_status : (b : LineSet) → is_data_in b ≡ true → is_status_phase b ≡ false
no_status b e = let x = data_parts b e in λ i. not (x.0 i) && x.1 i && b.io

pub entry_reply : (s : ScenarioValue) (p : List Row) (row : Row) (n : Connection) (q : Process)
    → Obeys s → Known s p row → (row_reading (run_state s p).story.bus_state row).next ≡ Some n
    → (row_reading (run_state s p).story.bus_state row).change.after.rst ≡ false
    → changes_phase (row_reading (run_state s p).story.bus_state row).change ≡ true
    → is_data_in (row_reading (run_state s p).story.bus_state row).change.after ≡ true
    → reply_now (array_of s (run_state s (row ∷ p))) q ≡ reply_now (array_of s (run_state s p)) q
entry_reply s p row n q o h next off turned reading =
    ap (λ (a : Rattle.due_model.specs.array_model.specs.Units.Array). reply_now a q) (then_is s p row h)
    ∙ (events_same s h.places.array h.later.array shown q (seats_are s (obeys_fits s o)) h.places.sound
    (all_stay s q shown (each shown (row_shown s k row))) (steps_of s p row h)).same
    ∙ ap (λ (a : Rattle.due_model.specs.array_model.specs.Units.Array). reply_now a q) (sym (here_is s p row h))
  where
    k : RunState
    k = run_state s p

    d : RowReading
    d = row_reading k.story.bus_state row

    shown : List Event
    shown = row_events_by s k.story d row

    arrived : (id : ProcId) → IsArrival k d id → is_none (process_of s id) ≡ false
    arrived id w =
        let g = here_goes s k row w.link id (apart_of s p row h) h.next.row_is w.here in
        let own = h.places.of_scenario id
        (known_served s k row g.connection g.change w.link id h.was.books g.goes w.here.link_is w.here.item_is) in
        ap (λ (x : Option Process). is_none x) own.1

    of_event : (e : Event) → ShownAs s k d row e → may_change s q e ≡ false
    of_event (Event.Accept id) w = arrived id w
    of_event (Event.Refuse id) w = arrived id w
    of_event (Event.Run id) w = wrong' (sym (no_status d.change.after reading) ∙ w.status)
    of_event (Event.Fail id code) w = wrong' (sym (no_status d.change.after reading) ∙ w.status)
    of_event (Event.End id status) w = wrong (sym turned ∙ w.stays)
    of_event (Event.Lost id) w = wrong (sym (ap (λ (x : Option Connection). is_some x) next) ∙ w)
    of_event (Event.Aborted i t u what) w = wrong (sym (ap (λ (x : Option Connection). is_some x) next) ∙ w)
    of_event (Event.Reset dev) w = wrong (sym w ∙ off)

    each : (xs : List Event) → OnEvents (ShownAs s k d row) xs → OnEvents (λ e. may_change s q e ≡ false) xs
    each [] w = tt
    each (e ∷ xs) w = (of_event e w.0, each xs w.1)

-- ---- the row

pub record ReadRow (s : ScenarioValue) (p : List Row) (row : Row) : Type 0 where
  pub obeys : Obeys s
  pub prompt : IsPrompt s (row ∷ p)
  pub known : Known s p row
  pub offers : DataOfferFacts s p
  pub counts : ReadCounts s p
  pub pointers : RunsBy IsReader s (run_state s p)

quiet_lines : (row : Row) (n : Connection) (c : Change) → RowKind row n c → changes_phase c ≡ true
    → (is_fault row.kind ≡ false) × (receiver_in n c ≡ None)
quiet_lines row n c (still ef e er) ep = wrong (sym ep ∙ e)
quiet_lines row n c (strikes ef e er) ep = wrong (sym ep ∙ e)
quiet_lines row n c (crosses dev ef e er) ep = wrong (sym ep ∙ e)
quiet_lines row n c (turns ef e er) ep = (ef, er)

-- DATA IN is entered: its run has a byte.
read_begun : (s : ScenarioValue) (p : List Row) (row : Row) (n : Connection) → ReadRow s p row
    → connection p ≡ Some n → (bus p).rst ≡ false → GoingRow s p row n → changes_phase (change_of p row) ≡ true
    → is_data_in (bus (row ∷ p)) ≡ true → 1 ≤ run_count s (row ∷ p) n
read_begun s p row n w con calm g turned reading = go (process_served s k) refl
  where
    h : Known s p row
    h = w.known

    k : RunState
    k = run_state s p

    j : RunState
    j = run_state s (row ∷ p)

    c : Change
    c = g.change

    r : IsRowIn k row n c
    r = g.goes.row_is

    dv : AreOfDevices p
    dv = h.was.standing.devices

    dv2 : AreOfDevices (row ∷ p)
    dv2 = h.next.stood.standing.devices

    pl : IsPlain s p k
    pl = h.was.plain

    pl2 : IsPlain s (row ∷ p) j
    pl2 = run_state_plain s (row ∷ p) h.next.stood.standing.devices

    policy : Policy
    policy = policy_of (target_def_of s n.target)

    v : Serving
    v = serving_of s k n.target

    ep : changes_phase c ≡ true
    ep = ap changes_phase g.change_is ∙ turned

    quiet : (is_fault row.kind ≡ false) × (receiver_in n c ≡ None)
    quiet = quiet_lines row n c r.kind ep

    none : is_some (receiver_in n c) ≡ false
    none = ap (λ (z : Option ℕ). is_some z) quiet.1

    i : InConnection s k row n c true false false
    i = in_connection s k row n c true false false r ep none quiet.0

    after : is_data_in c.after ≡ true
    after = ap (λ (x : Change). is_data_in x.after) g.change_is ∙ reading

    change : (row_reading k.story.bus_state row).change ≡ c
    change = r.change_is

    begun_is : k.exchange.begun ≡ true
    begun_is = by_bool k.exchange.begun (λ e. e) (λ e. wrong' (sym (data_no_out c.after after)
        ∙ (ap (λ (x : Change). is_message_out x.after) (sym change) ∙ g.goes.first (ap changes_phase change ∙ ep) e)))

    leaving_is : leaving s k n.target ≡ phase_leaving v (bus_of k).atn (phase_of (bus_of k))
    leaving_is = λ z. leaving_by v (begun_is z) (bus_of k)

    to : (leaving s k n.target).to ≡ Some Phase.DataIn
    to = g.lines.whereto (ap changes_phase g.lines_are ∙ ep) (sym pl.begun ∙ begun_is)
        ∙ ap (λ (x : Change). Some (phase_of x.after)) g.lines_are ∙ ap (λ (x : Phase). Some x) (to_data c.after after)

    enters : EntersRead v (phase_leaving v (bus_of k).atn (phase_of (bus_of k)))
    enters = enters_read v (bus_of k).atn (phase_of (bus_of k)) (ap (λ (x : Leaving). x.to) (sym leaving_is) ∙ to)

    go : (o : Option Process) → process_served s k ≡ o → 1 ≤ run_count s (row ∷ p) n
    go None e = none_some enters.task (sym (ap (task_if s k) e) ∙ enters.task_is)
    go (Some q) e = subst (λ (x : ℕ). 1 ≤ x) (sym (count ∙ run)) (has_byte policy (task_here s k q) fit more)
      where
        same : enters.task ≡ task_here s k q
        same = sym (same_Some (task_here s k q) enters.task (sym (ap (task_if s k) e) ∙ enters.task_is))

        reads : is_writing q ≡ false
        reads = ap (λ (x : Task). x.writes) (sym same) ∙ enters.reads

        well : IsServedWell s k n q
        well = w.pointers.served n q (pl.connection ∙ con) (ap (λ (l : LineSet). l.rst) pl.bus ∙ calm) e reads

        is_k : k.array ≡ array_after s k.story.history
        is_k = pl.array ∙ ap (λ (x : Story). array_after s x.history) (sym pl.story)

        is_j : j.array ≡ array_after s j.story.history
        is_j = pl2.array ∙ ap (λ (x : Story). array_after s x.history) (sym pl2.story)

        f : FitsRuns s k q (task_here s k q)
        f = fits_reads s k q w.obeys is_k (served_id s k.served q e).1 reads

        fit : RunsFit policy (task_here s k q)
        fit = subst (λ (x : ℕ). RunsFit (policy_of (target_def_of s x)) (task_here s k q)) well.target_is f.fit

        more : nat_lt (task_here s k q).runs (runs_in_all policy (task_here s k q)) ≡ true
        more = subst (λ (x : Task). nat_lt x.runs (runs_in_all policy x) ≡ true) same enters.more

        size : (task_here s j q).size ≡ (task_here s k q).size
        size = size_is s (array_of s j) q.target q.unit (lines_now s j.story.history j.array (sym is_j))
            ∙ sym (size_is s (array_of s k) q.target q.unit (lines_now s k.story.history k.array (sym is_k)))

        moved : (task_here s j q).moved ≡ (task_here s k q).moved
        moved = ap (moved_count q)
            (entry_reply s p row n q w.obeys h (ap (λ (d : RowReading). d.next) (reading_is k row n c false r none))
            (ap (λ (x : Change). x.after.rst) change ∙ r.calm) (ap changes_phase change ∙ ep)
            (ap (λ (x : Change). is_data_in x.after) change ∙ after))

        progress : j.progress ≡ progress_by_leaving k (Some q) (leaving s k n.target)
        progress = progress_turns s k row n c r ep (reading_is k row n c false r none)
            ∙ (λ z. if begun_is z then progress_by_leaving k (e z) (leaving s k n.target) else k.progress)

        runs : (task_here s j q).runs ≡ (task_here s k q).runs
        runs = ap (λ (x : List ProcessProgress). (progress_in x q.id).runs) progress
            ∙ runs_more k.progress q.id (leaving s k n.target).done (leaving s k n.target).counts
            ∙ no_more (progress_in k.progress q.id).runs (leaving s k n.target).done
            (ap (λ (x : Leaving). x.done) leaving_is ∙ enters.done)

        run : run_length policy (task_here s j q) ≡ run_length policy (task_here s k q)
        run = same_length policy (task_here s k q) (task_here s j q) refl size moved runs

        count : run_count s (row ∷ p) n ≡ run_length policy (task_here s j q)
        count = ap (run_length_if policy) (ap (task_if s j) (ap (process_item s) i.served_is ∙ e))

counted_up : (i m : ℕ) → i < m → counted_on i ≤ m
counted_up i m h = omega (arith, h)

pub none_asked : (i m : ℕ) → (i == 0) ≡ true → 1 ≤ m → i < m
none_asked i m e h = let z = Rattle.due_model.specs.bus_base.proofs.Tests.zero_of i e in omega (arith, z, h)

stays_few : (s : ScenarioValue) (p : List Row) (row : Row) (n : Connection) → ReadRow s p row → connection p ≡ Some n
    → (bus p).rst ≡ false → connection (row ∷ p) ≡ Some n → (bus (row ∷ p)).rst ≡ false → (g : GoingRow s p row n)
    → changes_phase g.change ≡ false → is_data_in (bus p) ≡ true → IsRunCounted s p n → IsRunCounted s (row ∷ p) n
stays_few s p row n w con calm after off g ep here was = record {
  some = subst (λ (x : ℕ). 1 ≤ x) (sym long) was.some;
  few = subst (λ (x : ℕ). (handshakes (row ∷ p)).requests ≤ x) (sym long) (by r.kind);
}
  where
    h : Known s p row
    h = w.known

    k : RunState
    k = run_state s p

    c : Change
    c = g.change

    r : IsRowIn k row n c
    r = g.goes.row_is

    dv : AreOfDevices p
    dv = h.was.standing.devices

    dv2 : AreOfDevices (row ∷ p)
    dv2 = h.next.stood.standing.devices

    pl : IsPlain s p k
    pl = h.was.plain

    pl2 : IsPlain s (row ∷ p) (run_state s (row ∷ p))
    pl2 = run_state_plain s (row ∷ p) h.next.stood.standing.devices

    knows : Knows s k n
    knows = h.was.books.knows n (pl.connection ∙ con) (ap (λ (x : LineSet). x.rst) pl.bus ∙ calm)

    before : is_data_in c.before ≡ true
    before = ap (λ (x : Change). is_data_in x.before) g.change_is ∙ here

    io : c.before.io ≡ true
    io = (data_parts c.before before).2

    long : run_count s (row ∷ p) n ≡ run_count s p n
    long = (kept_row s p row n c knows.link dv dv2 r ep before knows.link_is).long

    hs : (f now : Bool) → is_fault row.kind ≡ f → is_some (receiver_in n c) ≡ now
        → (handshakes (row ∷ p)).requests ≡ (handshakes_after f (Some n) c row.time (handshakes p)).requests
    hs f now ef en =
        let i = in_connection s k row n c false now f r ep en ef in
        ap (λ (x : Handshakes). x.requests)
        (sym pl2.handshakes ∙ i.handshakes_is ∙ (λ z. handshakes_after (ef z) (Some n) c row.time (pl.handshakes z)))

    same : (handshakes (row ∷ p)).requests ≡ (handshakes p).requests → (handshakes (row ∷ p)).requests ≤ run_count s p n
    same e = subst (λ (x : ℕ). x ≤ run_count s p n) (sym e) was.few

    asked : is_some (receiver_in n c) ≡ true → (handshakes p).requests < run_count s p n
    asked some = of (data_in_carries s p row n w.obeys w.prompt h.was h.next w.offers con calm after off here
        (ap (λ (x : Change). rises x.before.req x.after.req) (sym g.change_is) ∙ req_rises n c io some)).asked
      where
        of : ((handshakes p).requests == 0) ≡ true ⊎ ((handshakes p).requests < run_count s p n)
            → (handshakes p).requests < run_count s p n
        of (inl z) = none_asked (handshakes p).requests (run_count s p n) z was.some
        of (inr z) = z

    by : RowKind row n c → (handshakes (row ∷ p)).requests ≤ run_count s p n
    by (still ef e er) = same
        (hs false false ef (ap (λ (z : Option ℕ). is_some z) er) ∙ requests_stay n c row.time (handshakes p) ep io er)
    by (strikes ef e er) =
        same (hs true false ef (ap (λ (z : Option ℕ). is_some z) er) ∙ struck_same c.before.io (handshakes p))
    by (crosses dev ef e er) =
        let some : is_some (receiver_in n c) ≡ true = ap (λ (z : Option ℕ). is_some z) er in
        subst (λ (x : ℕ). x ≤ run_count s p n)
        (sym (hs false true ef some ∙ requests_rise n c row.time dev (handshakes p) ep io er))
        (counted_up (handshakes p).requests (run_count s p n) (asked some))
    by (turns ef e er) = wrong (sym e ∙ ep)

-- DATA IN is no phase that a connection begins with.
none_first : {A : Type 0} (s : ScenarioValue) (p : List Row) (row : Row) (n : Connection) → IsFirst s p row n
    → begun (row ∷ p) ≡ true → is_data_in (bus (row ∷ p)) ≡ true → A
none_first s p row n f b reading = go f.begins
  where
    go : {A : Type 0} → BeginsConnection (row ∷ p) n → A
    go (by_selection h) = wrong' (sym h.begun_is ∙ b)
    go (by_reselection y h) = wrong' (ap is_data_in (sym h.linked.stands.bus_is) ∙ reading)

pub counts_next : (s : ScenarioValue) (p : List Row) (row : Row) → ReadRow s p row → ReadCounts s (row ∷ p)
counts_next s p row w n after off b reading = go (row_kind s p row n w.obeys w.prompt h.was after off)
  where
    h : Known s p row
    h = w.known

    dv : AreOfDevices p
    dv = h.was.standing.devices

    lt : row.dev < 8
    lt = (least_is s p row w.prompt.1).inside

    c : Change
    c = change_of p row

    going : (con : connection p ≡ Some n) (calm : (bus p).rst ≡ false) → GoingRow s p row n
        → (q : Bool) → changes_phase c ≡ q → IsRunCounted s (row ∷ p) n
    going con calm g true ep =
        let none : (handshakes (row ∷ p)).requests ≡ 0 = ap
        (λ (x : Handshakes). x.requests) (handshakes_begin p row n after ep) in
        record { some = read_begun s p row n w con calm g ep reading; few = (omega (arith, none)) }
    going con calm g false ep =
        let same = same_phase_is c ep in
        let here : is_data_in (bus p) ≡ true = sym (λ i. not (same.msg i) && not (same.cd i) && same.io i) ∙ reading in
        let was : begun p ≡ true = or_left (begun p)
        ((λ i. sym ep i || begun p) ∙ (λ i. begun_after (begun p) (sym con i) (sym after i) c) ∙ b) in
        stays_few s p row n w con calm after off g (ap changes_phase g.change_is ∙ ep) here
        (w.counts n con calm was here)

    go : RowKindOf s p row n → IsRunCounted s (row ∷ p) n
    go (begins_now alone f) = none_first s p row n f b reading
    go (goes_now con calm) =
        let r = connection_row s p row n w.obeys w.prompt h.was con calm off in
        going con calm (going_row s p row n dv lt con after off h.next.row_is r.facts) (changes_phase c) refl

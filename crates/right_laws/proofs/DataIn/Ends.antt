-- As a process that does not write runs, and ends GOOD, its data pointer stands past the bytes of its reply: the last
-- of its runs is done, or it gives none (6.1.5.1, 6.6.6, 7.3).
use Rattle.right_laws.proofs
use proofs.Names.{ℕ, ◌≡◌, ◌⊎◌, inl, inr, ◌+◌, ◌-◌, ◌≤◌, arith, Bool, true, false, ◌==◌, ◌∙◌, List, [], ◌∷◌, length}
use proofs.Names.{Option, Some, refl, sym, ap, subst, and_parts, ltb-false, same_Some, if◌then◌else◌, is_some, nat_lt}
use proofs.Names.{wrong, wrong', zero_of, Event, changes_phase, Row, Connection, GOOD, ScenarioValue, Policy}
use proofs.Names.{array_after, reply_in, shows_run, Reply, Array, RowReading, row_reading, row_events_by, process}
use proofs.Names.{Story, policy_of, run_at, run_length, runs_in, runs_in_all, is_status_next, Serving, after_run}
use proofs.Names.{disconnect_messages, disconnection, phase_entry, phase_leaving, phase_of, unless_attention, with_task}
use proofs.Names.{Next, Phase, Task, target_def_of, progress_in, RunState, array_of, bus_of, carried_here, or_start}
use proofs.Names.{process_item, process_served, array_after_events, run_state, serving_of, reply_now, task_if}
use proofs.Names.{is_true_telling, telling, policy_for, change_plain, least_is, by_bool, writes_there, frees_bus}
use proofs.Names.{AnsweredOpen, IsTaken, PlacedBefore, PlacedIf, PlacedIn, IsServedWell, moves_runs, some_total}
use proofs.Names.{RunsFrom, RunsInPhase, answered, moved_all, reads, run_turn, runs_from, writes, LinesOf, active_is}
use proofs.Names.{lines_of, task_here, FitsRuns, RunsFit, served_id, last_run, Whole, HasRunLeft, RunsLeftOf, run_total}
use proofs.{Names.{PointsAtEnd}, DataIn.{Counts.{IsReader, ReadRow}, Pointers.{read_done}, Runs.{fits_reads}}}
use proofs.{Given.Sent.{runs_so}, Ran.{Crossings.{GoesSo, here_goes, known_served}, Open.{none_is}, Sent.{answer_of}}}
use proofs.Ran.Shown.{IsAnswer, RunsAs, runs_alone, runs_arrived, row_runs}

-- ---- the last run

-- DATA IN is left for STATUS: no run follows.
last_read : (v : Serving) (attention : Bool) (t : Task) → v.task ≡ Some t
    → is_status_next (phase_leaving v attention Phase.DataIn).to ≡ true
    → nat_lt (t.runs + 1) (runs_in_all (policy_of v.def) t) ≡ false
last_read v attention t e status = attends attention status
  where
    ends : (q : Bool) → nat_lt (t.runs + 1) (runs_in_all (policy_of v.def) t) ≡ q → is_status_next
        (if q then disconnection (disconnect_messages (policy_of v.def)) else phase_entry Phase.Status).to ≡ true
        → nat_lt (t.runs + 1) (runs_in_all (policy_of v.def) t) ≡ false
    ends true f z = wrong' z
    ends false f z = f

    attends : (a : Bool)
        → is_status_next (unless_attention a (with_task v.task (λ x. after_run (policy_of v.def) x))).to ≡ true
        → nat_lt (t.runs + 1) (runs_in_all (policy_of v.def) t) ≡ false
    attends true z = wrong' z
    attends false z = ends (nat_lt (t.runs + 1) (runs_in_all (policy_of v.def) t)) refl
        (sym (ap (λ (o : Option Task). is_status_next (with_task o (λ x. after_run (policy_of v.def) x)).to) e) ∙ z)

last_all : (policy : Policy) (t : Task) → RunsFit policy t → nat_lt (t.runs + 1) (runs_in_all policy t) ≡ false
    → t.moved ≤ (run_at policy t t.runs).start + run_length policy t
last_all policy t f last =
    by_bool (t.moved == 0)
    (λ z. none t.moved ((run_at policy t t.runs).start + run_length policy t) (zero_of t.moved z))
    (λ z. last_run policy t (moves_runs policy t f z) z last)
  where
    none : (m a : ℕ) → m ≡ 0 → m ≤ a
    none m a e = omega (arith, e)

-- ---- its runs are not all made

clash : (made whole : ℕ) → 1 ≤ whole → whole ≤ made → HasRunLeft whole made → ⊥
clash made whole one few (inl z) = absurd omega (arith, one, few, z)
clash made whole one few (inr z) = absurd omega (arith, few, z)

none_given : (a b m : ℕ) → m ≡ a → m ≡ 0 → a ≤ b
none_given a b m e z = omega (arith, e, z)

all_given : (active start requests length_ moved given : ℕ) → active ≡ start + requests → requests ≡ length_
    → moved ≤ start + length_ → moved ≡ given → given ≤ active
all_given active start requests length_ moved given e f h g = omega (arith, e, f, h, g)

-- ---- the row

pub points_at_end : (s : ScenarioValue) (p : List Row) (row : Row) → ReadRow s p row → Whole s p → Whole s (row ∷ p)
    → RunsLeftOf IsReader s p → PointsAtEnd s (run_state s p) row
points_at_end s p row w was next left q reply is reading =
    by (here_goes s k row answer.link q.id (λ e. (was.facts.items.items.apart e).0) next.rows_are.1 answer.here)
  where
    k : RunState
    k = run_state s p

    d : RowReading
    d = row_reading k.story.bus_state row

    shown : List Event
    shown = row_events_by s k.story d row

    answer : IsAnswer k d q.id
    answer = answer_of s k row q.id is.runs

    runs_with : RunsAs q.id shown
    runs_with = row_runs s k row q.id is.runs

    now : reply_in next.places.array.replies q.id ≡ Some (reply_now was.places.array q)
    now = runs_so s was.places.array next.places.array q shown w.obeys was.places.sound is.process_is runs_with
        (sym (λ i. array_after_events s (was.places.array_is i) shown) ∙ next.places.array_is)

    same : reply_now (array_of s k) q ≡ reply
    same = (λ i. reply_now (or_start s (was.places.array_is i)) q) ∙ same_Some (reply_now was.places.array q) reply
        (sym now ∙ (λ i. reply_in (or_start s (sym next.places.array_is i)).replies q.id) ∙ is.reply_is)

    ran : shows_run shown ≡ true
    ran = go runs_with
      where
        go : RunsAs q.id shown → shows_run shown ≡ true
        go (runs_alone e) = ap shows_run e
        go (runs_arrived e) = ap shows_run e

    tells : is_true_telling s k row d ≡ true
    tells = (and_parts (telling s p) (is_true_telling s k row d) next.told).1

    t : Task
    t = task_here s k q

    moved : t.moved ≡ length reply.bytes
    moved = (λ i. length (if reading i then (if (reply_now (array_of s k) q).status == GOOD then q.sent else [])
        else (reply_now (array_of s k) q).bytes)) ∙ ap (λ (r : Reply). length r.bytes) same

    by : GoesSo s k row → length reply.bytes ≤ (carried_here k q.id).moved.active
    by v = cases (runs_from (serving_of s k n.target) (bus_of k).atn (phase_of (bus_of k)) r.id r.turn)
      where
        n : Connection
        n = v.connection

        lines : LinesOf s p row n v.change
        lines = lines_of s p row n v.change was.stood.standing.devices
            (least_is s p row w.prompt.1).inside v.goes.calm v.goes.row_is

        con : k.story.bus_state.connection ≡ Some n
        con = v.goes.row_is.connection_is

        served : k.served ≡ Some (process q.id)
        served = known_served s k row n v.change answer.link q.id was.stood.books v.goes answer.here.link_is
            answer.here.item_is

        served_is : process_served s k ≡ Some q
        served_is = ap (process_item s) served ∙ is.process_is

        r : RunsInPhase s k n d
        r = run_turn s k row d n con answer.here.calm tells ran

        task : r.turn.task ≡ t
        task = sym (same_Some t r.turn.task (sym (ap (task_if s k) served_is) ∙ r.turn.task_is))

        unanswered : is_some (reply_in (array_of s k).replies q.id) ≡ false
        unanswered = ap (λ (x : Task). x.replied) (sym task) ∙ r.turn.open_is

        well : IsServedWell s k n q
        well = w.pointers.served n q con v.goes.calm served_is reading

        f : FitsRuns s k q t
        f = fits_reads s k q w.obeys
            (was.stood.plain.array ∙ ap (λ (x : Story). array_after s x.history) (sym was.stood.plain.story))
            (served_id s k.served q served_is).1 reading

        policy : policy_of (target_def_of s n.target) ≡ policy_for s q
        policy = ap (λ (x : ℕ). policy_of (target_def_of s x)) (sym well.target_is)

        placed : PlacedIn was.places.array q k.exchange.plan k.handshakes (bus_of k).atn (phase_of (bus_of k))
        placed = subst (λ (b : Bool). PlacedIf b was.places.array q k.exchange.plan k.handshakes (bus_of k).atn
            (phase_of (bus_of k))) r.begun (was.places.placed n con v.goes.calm q served_is)

        listed : {A : Type 0} → AnsweredOpen was.places.array q.id → A
        listed a = wrong' (sym unanswered
            ∙ ap (λ (x : Option Array). is_some (reply_in (or_start s x).replies q.id)) was.places.array_is
            ∙ ap (λ (x : Option Reply). is_some x) a.answered.given)

        before_status : phase_of (bus_of k) ≡ Phase.MessageIn → k.exchange.plan.next ≡ Next.Status
            → length reply.bytes ≤ (carried_here k q.id).moved.active
        before_status phase to =
            go (subst (PlacedIn was.places.array q k.exchange.plan k.handshakes (bus_of k).atn) phase placed)
          where
            go : PlacedBefore was.places.array q k.exchange.plan.messages k.exchange.plan.next
                ⊎ IsTaken was.places.array q k.exchange.plan k.handshakes (bus_of k).atn
                → length reply.bytes ≤ (carried_here k q.id).moved.active
            go (inl z) = listed (subst (PlacedBefore was.places.array q k.exchange.plan.messages) to z)
            go (inr z) = wrong' (sym (ap frees_bus to) ∙ ap frees_bus z.next_is)

        not_all : nat_lt r.turn.task.runs (runs_in_all (policy_of (target_def_of s n.target)) r.turn.task) ≡ false
            → length reply.bytes ≤ (carried_here k q.id).moved.active
        not_all e = by_bool (t.moved == 0) (λ z. none_given (length reply.bytes)
            (carried_here k q.id).moved.active t.moved moved (zero_of t.moved z)) (λ z. absurd
            (clash (progress_in k.progress q.id).runs (run_total s q) (some_total (policy_for s q) t f.fit z) (all z)
            (left q is.process_is reading (none_is (reply_in (array_of s k).replies q.id) unanswered))))
          where
            all : (t.moved == 0) ≡ false → run_total s q ≤ (progress_in k.progress q.id).runs
            all some = subst (λ (x : ℕ). x ≤ t.runs) (λ i. if some i then 0 else runs_in (policy_for s q) t.blocks)
                (ltb-false t.runs (runs_in_all (policy_for s q) t)
                (sym (λ i. nat_lt (task i).runs (runs_in_all (policy i) (task i))) ∙ e))

        done : phase_of (bus_of k) ≡ Phase.DataIn → length reply.bytes ≤ (carried_here k q.id).moved.active
        done phase =
            let here : Policy = policy_of (target_def_of s n.target) in
            let task_is = ap (task_if s k) served_is in
            let active = active_is s k q t k.handshakes.requests f served_is task_is phase refl r.begun
            (λ l x. x.active) well.pointers in
            let requests = read_done s p row n w lines.con lines.calm lines.off lines.after
            (sym was.stood.plain.begun ∙ r.begun) (ap changes_phase
            (sym (change_plain s row p was.stood.standing.devices (least_is s p row w.prompt.1).inside)) ∙ r.left)
            t task_is phase in
            let last = last_read (serving_of s k n.target) (bus_of k).atn t task_is
            (ap (λ (x : Phase). is_status_next (phase_leaving (serving_of s k n.target) (bus_of k).atn x).to)
            (sym phase) ∙ r.turn.status) in
            let whole = last_all here t (subst (λ (x : Policy). RunsFit x t) (sym policy) f.fit) last in
            all_given (carried_here k q.id).moved.active (run_at here t t.runs).start k.handshakes.requests
            (run_length here t) t.moved (length reply.bytes) (subst (λ (x : ℕ). (carried_here k q.id).moved.active
            ≡ (run_at (policy_of (target_def_of s x)) t t.runs).start + k.handshakes.requests) well.target_is active)
            requests whole moved

        cases : RunsFrom (serving_of s k n.target) r.turn.task (phase_of (bus_of k))
            → length reply.bytes ≤ (carried_here k q.id).moved.active
        cases (answered phase to) = before_status phase to
        cases (moved_all e) = not_all e
        cases (reads phase) = done phase
        cases (writes phase struck) = wrong
            (sym (writes_there s k q (was.stood.planned n lines.con lines.calm) r.begun served_is phase) ∙ reading)

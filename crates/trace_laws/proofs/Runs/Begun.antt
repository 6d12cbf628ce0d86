-- Of a prompt trace: a run that is begun has a byte, from MESSAGE IN and from COMMAND.
use Rattle.trace_laws.proofs
use proofs.Names.{ℕ, ◌≡◌, ◌⊎◌, inl, inr, ◌+◌, ◌≤◌, Bool, true, false, not, ◌&&◌, ◌∙◌, List, [], ◌∷◌, Option, Some, None}
use proofs.Names.{refl, sym, ap, subst, if◌then◌else◌, nat_lt, wrong', plus_none, Event, change_of, LineSet}
use proofs.Names.{changes_phase, is_command, is_message_out, connection, connection_after, bus, Row, Change, Connection}
use proofs.Names.{ScenarioValue, Obeys, Policy, array_after, Process, process_of, carried_id, RowReading, row_reading}
use proofs.Names.{CarriedBytes, carried_of, is_whole_block, row_events_by, queue_event, queue_events, carried_if, Item}
use proofs.Names.{process, Link, Story, policy_of, run_length, runs_in_all, begun, phase_of, run_length_if, one_if}
use proofs.Names.{Arrival, Phase, target_def_of, ProcessProgress, progress_in, IsPrompt, RunState, or_start, array_of}
use proofs.Names.{bus_of, process_item, process_served, run_state, array_after_events, served_after, progress_after}
use proofs.Names.{progress_by_leaving, leaving_of, leaving, serving_of, arrival_at, is_writing, task_if, arrival_if}
use proofs.Names.{arrival_of, Knows, change_plain, run_count, none_some, by_bool, connection_row, RowFacts, stays}
use proofs.Names.{ends_here, Stood, NextStood, run_lines, phase_by, runs_more, RunFacts, IsServedWell}
use proofs.Runs.Begins.{SameRun, BeginsRun, begins_run, status_none, queued, row_queues, none_queued, arrives, run_kept}
use proofs.Runs.{Begins.{IsRunEntry}, Facts.{task_here}, Fits.{FitsRuns, fits_runs}, Parts.{RunsFit, has_byte}}
use proofs.Runs.Rows.{served_id}

-- ---- lines

no_command : (b : LineSet) → phase_of b ≡ Phase.MessageIn → is_command b ≡ false
no_command b e = go b.msg b.cd b.io e
  where
    go : (m d i : Bool) → phase_by m d i ≡ Phase.MessageIn → (not m && d && not i) ≡ false
    go true d i z = refl
    go false true true z = absurd cc
    go false true false z = absurd cc
    go false false true z = absurd cc
    go false false false z = absurd cc

-- ---- the array after the row

-- What the row tells at most.
told : (s : ScenarioValue) (k : RunState) (q : Process) (l : Link) (before : LineSet) → l.item ≡ Some (process q.id)
    → (queue_events s k.story (carried_if k.story l.item) before ≡ [])
    ⊎ (queue_events s k.story (carried_if k.story l.item) before ≡ queue_event s k.story.history q.id ∷ [])
told s k q l before e =
    by_bool (is_command before && is_whole_block c)
    (λ f. inr (is ∙ (λ i. if f i then queue_event s k.story.history (carried_id k.story.carried q.id i) ∷ [] else [])))
    (λ f. inl (is ∙ ap (λ (b : Bool). if b then queue_event s k.story.history c.id ∷ [] else []) f))
  where
    c : CarriedBytes
    c = carried_of k.story.carried q.id

    is : queue_events s k.story (carried_if k.story l.item) before
        ≡ (if is_command before && is_whole_block c then queue_event s k.story.history c.id ∷ [] else [])
    is = ap (λ (x : Option Item). queue_events s k.story (carried_if k.story x) before) e

kept_array : (s : ScenarioValue) (k : RunState) (q : Process) (all : List Event) → all ≡ []
    → SameRun (array_of s k) (or_start s (array_after_events s k.array all)) q
kept_array s k q all e = subst (λ (x : List Event). SameRun (array_of s k)
    (or_start s (array_after_events s k.array x)) q) (sym e) (record { size = refl; moved = refl })

entry_array : (s : ScenarioValue) (k : RunState) (n : Connection) (q : Process) → Knows s k n
    → process_served s k ≡ Some q → is_writing q ≡ true → k.array ≡ array_after s k.story.history
    → RunsFit (policy_of (target_def_of s n.target)) (task_here s k q)
    → nat_lt (task_here s k q).runs (runs_in_all (policy_of (target_def_of s n.target)) (task_here s k q)) ≡ true
    → IsRunEntry (serving_of s k n.target) (phase_of (bus_of k)) → (before : LineSet) → before ≡ bus_of k
    → SameRun (array_of s k) (or_start s (array_after_events s k.array (queued s k.story k.story.link before))) q
entry_array s k n q w served writes is fit more entry before same = by entry
  where
    policy : Policy
    policy = policy_of (target_def_of s n.target)

    own : (k.served ≡ Some (process q.id)) × (process_of s q.id ≡ Some q)
    own = served_id s k.served q served

    linked : queued s k.story k.story.link before ≡ queue_events s k.story (carried_if k.story w.link.item) before
    linked = ap (λ (x : Option Link). queued s k.story x before) w.link_is

    at : (arrival_of s k policy ≡ Arrival.Guest) ⊎ (arrival_of s k policy ≡ Arrival.AtOnce)
        → (arrival_if policy (array_of s k) (Some q) ≡ Arrival.Guest)
        ⊎ (arrival_if policy (array_of s k) (Some q) ≡ Arrival.AtOnce)
    at h = subst (λ (x : Option Process). (arrival_if policy (array_of s k) x ≡ Arrival.Guest)
        ⊎ (arrival_if policy (array_of s k) x ≡ Arrival.AtOnce)) served h

    command : phase_of (bus_of k) ≡ Phase.Command
        → (arrival_of s k policy ≡ Arrival.Guest) ⊎ (arrival_of s k policy ≡ Arrival.AtOnce)
        → (w.link.item ≡ k.served) ⊎ ((n.reselected ≡ true) × (w.link.item ≡ None))
        → SameRun (array_of s k) (or_start s (array_after_events s k.array (queued s k.story k.story.link before))) q
    command z h (inr u) = kept_array s k q (queued s k.story k.story.link before)
        (linked ∙ ap (λ (x : Option Item). queue_events s k.story (carried_if k.story x) before) u.1)
    command z h (inl u) = tells (told s k q w.link before (u ∙ own.0))
      where
        tells : (queue_events s k.story (carried_if k.story w.link.item) before ≡ [])
            ⊎ (queue_events s k.story (carried_if k.story w.link.item) before ≡ queue_event s k.story.history q.id ∷ [])
            → SameRun (array_of s k) (or_start s (array_after_events s k.array (queued s k.story k.story.link before)))
            q
        tells (inl e) = kept_array s k q (queued s k.story k.story.link before) (linked ∙ e)
        tells (inr e) = subst
            (λ (x : List Event). SameRun (array_of s k) (or_start s (array_after_events s k.array x)) q)
            (sym (linked ∙ e)) (arrives s k q policy own.1 writes is fit more (at h))

    by : IsRunEntry (serving_of s k n.target) (phase_of (bus_of k))
        → SameRun (array_of s k) (or_start s (array_after_events s k.array (queued s k.story k.story.link before))) q
    by (inl z) = kept_array s k q (queued s k.story k.story.link before)
        (none_queued s k.story k.story.link before (ap is_command same ∙ no_command (bus_of k) z))
    by (inr z) = command z.0 (subst (λ (x : Phase). (arrival_at s k n.target x ≡ Arrival.Guest)
        ⊎ (arrival_at s k n.target x ≡ Arrival.AtOnce)) z.0 z.1) w.item_is

-- ---- the run

pub no_more : (m : ℕ) (b : Bool) → b ≡ false → m + one_if b ≡ m
no_more m b e = ap (λ (x : Bool). m + one_if x) e ∙ plus_none m

pub run_begun : (s : ScenarioValue) (p : List Row) (row : Row) (n : Connection) → Obeys s → IsPrompt s (row ∷ p)
    → Stood s p → NextStood s p row → RunFacts s p → connection p ≡ Some n → (bus p).rst ≡ false
    → (bus (row ∷ p)).rst ≡ false → connection (row ∷ p) ≡ Some n → changes_phase (change_of p row) ≡ true
    → phase_of (bus (row ∷ p)) ≡ Phase.DataOut → 1 ≤ run_count s (row ∷ p) n
run_begun s p row n o prompt was nx facts con calm off after ep phase =
    by (connection_row s p row n o prompt was con calm off).facts
  where
    k : RunState
    k = run_state s p

    j : RunState
    j = run_state s (row ∷ p)

    policy : Policy
    policy = policy_of (target_def_of s n.target)

    d : RowReading
    d = row_reading k.story.bus_state row

    change : d.change ≡ change_of p row
    change = change_plain s row p was.standing.devices (nx.stood.standing.devices).0

    con_k : k.story.bus_state.connection ≡ Some n
    con_k = was.plain.connection ∙ con

    calm_k : (bus_of k).rst ≡ false
    calm_k = ap (λ (l : LineSet). l.rst) was.plain.bus ∙ calm

    next : d.next ≡ Some n
    next = (λ i. connection_after (was.plain.connection i) (was.plain.call i) (change i) row) ∙ after

    run : (r : BeginsRun s k n) → k.exchange.begun ≡ true → 1 ≤ run_count s (row ∷ p) n
    run r b = subst (λ (x : ℕ). 1 ≤ x) (sym (count ∙ run_kept s k j policy q array runs))
        (has_byte policy (task_here s k q) fit r.more)
      where
        q : Process
        q = r.process

        well : IsServedWell s k n q
        well = facts.served n q con_k calm_k r.served_is r.writes

        is : k.array ≡ array_after s k.story.history
        is = was.plain.array ∙ ap (λ (x : Story). array_after s x.history) (sym was.plain.story)

        f : FitsRuns s k q (task_here s k q)
        f = fits_runs s k q o is (served_id s k.served q r.served_is).1 r.writes

        fit : RunsFit policy (task_here s k q)
        fit = subst (λ (x : ℕ). RunsFit (policy_of (target_def_of s x)) (task_here s k q)) well.target_is f.fit

        events : row_events_by s k.story d row ≡ queued s k.story k.story.link d.change.before
        events = row_queues s k.story row d n next
            (ap (λ (x : Change). x.after.rst) change ∙ off) (ap changes_phase change ∙ ep)
            (status_none d.change.after (ap (λ (x : Change). phase_of x.after) change ∙ phase))

        array : SameRun (array_of s k) (array_of s j) q
        array = subst (λ (x : List Event). SameRun (array_of s k) (or_start s (array_after_events s k.array x)) q)
            (sym events) (entry_array s k n q (was.books.knows n con_k calm_k) r.served_is r.writes is fit r.more r.from
            d.change.before (ap (λ (x : Change). x.before) change ∙ sym was.plain.bus))

        progress : j.progress ≡ progress_by_leaving k (Some q) (leaving s k n.target)
        progress = (λ i. progress_after s k d (con_k i) (next i) (leaving_of s k (con_k i)))
            ∙ (λ i. if (ap changes_phase change ∙ ep) i && b i
            then progress_by_leaving k (r.served_is i) (leaving s k n.target) else k.progress)

        runs : (progress_in j.progress q.id).runs ≡ (progress_in k.progress q.id).runs
        runs = ap (λ (x : List ProcessProgress). (progress_in x q.id).runs) progress
            ∙ runs_more k.progress q.id (leaving s k n.target).done (leaving s k n.target).counts
            ∙ no_more (progress_in k.progress q.id).runs (leaving s k n.target).done r.done

        count : run_count s (row ∷ p) n ≡ run_length policy (task_here s j q)
        count = ap (λ (x : Option Item). run_length_if policy (task_if s j (process_item s x)))
            (λ i. served_after s k (con_k i) (next i))
            ∙ ap (λ (x : Option Process). run_length_if policy (task_if s j x)) r.served_is

    by : RowFacts s p row n → 1 ≤ run_count s (row ∷ p) n
    by (ends_here g) = none_some n (sym g.stopped ∙ after)
    by (stays g) = by_bool (begun p)
        (λ e. run (begins_run s k n (was.plain.begun ∙ e) (g.whereto turns e ∙ ap (λ (x : Phase). Some x) to))
        (was.plain.begun ∙ e)) (λ e. wrong' (sym none_out ∙ g.first turns e))
      where
        same : g.change ≡ change_of p row
        same = sym g.row_is.change_is ∙ change

        turns : changes_phase g.change ≡ true
        turns = ap changes_phase same ∙ ep

        to : phase_of g.change.after ≡ Phase.DataOut
        to = ap (λ (x : Change). phase_of x.after) same ∙ phase

        none_out : is_message_out g.change.after ≡ false
        none_out = let l = run_lines g.change.after to in λ i. l.0 i && g.change.after.cd && not g.change.after.io

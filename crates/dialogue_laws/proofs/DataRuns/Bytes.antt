-- As a data run is done all its bytes have crossed, and no more.
use Rattle.dialogue_laws.proofs
use proofs.Names.{inl, inr, ℕ, ◌≡◌, ◌≤◌, ◌⊎◌, Bool, true, false, ◌∙◌, List, ◌∷◌, Some, refl, sym, ap, subst, arith}
use proofs.Names.{leb-true, ltb-false, nat_lt, LineSet, is_data, bus, Row, Connection, Handshakes, handshakes}
use proofs.Names.{ScenarioValue, Obeys, Process, policy_of, run_length, follows_by, phase_of, follows_in, run_length_if}
use proofs.Names.{Phase, Task, run_state_plain, target_def_of, IsPrompt, IsPlain, RunState, bus_of, run_state, pace_of}
use proofs.Names.{serving_of, is_writing, is_struck_phase, run_count, data_in_lines, task_here, steps, read_books}
use proofs.{Names.{is_data_in, present_phase, policy_at}, DataRuns.Rows.{unstruck}, Leavings.Recoveries.{Left}}
use proofs.Leavings.Recoveries.{phase_is, task_is}

just : (a b : ℕ) → a ≤ b → b ≤ a → a ≡ b
just a b h k = omega (arith, h, k)

same_bool : (b : Bool) → (b ≡ true) ⊎ (b ≡ false)
same_bool true = inl refl
same_bool false = inr refl

-- The target of the process is that of the connection.
target_is : (s : ScenarioValue) (p : List Row) (row : Row) (n : Connection) (q : Process) → Obeys s
    → IsPrompt s (row ∷ p) → Left s p row n q → q.target ≡ n.target
target_is s p row n q o prompt h = by (same_bool (is_writing q))
  where
    k : RunState
    k = run_state s p

    pl : IsPlain s p k
    pl = run_state_plain s p h.end.was.stood.standing.devices

    by : (is_writing q ≡ true) ⊎ (is_writing q ≡ false) → q.target ≡ n.target
    by (inl w) = (h.end.was.sends.runs.served n q (pl.connection ∙ h.leaving_row.stands)
        (ap (λ (l : LineSet). l.rst) pl.bus ∙ h.leaving_row.calm) h.served w).target_is
    by (inr w) = ((read_books s p o prompt.0).pointers.served n q (pl.connection ∙ h.leaving_row.stands)
        (ap (λ (l : LineSet). l.rst) pl.bus ∙ h.leaving_row.calm) h.served w).target_is

length_is : (s : ScenarioValue) (p : List Row) (row : Row) (n : Connection) (q : Process) → Left s p row n q
    → run_count s p n ≡ run_length (policy_at s n) (task_here s (run_state s p) q)
length_is s p row n q h = ap (run_length_if (policy_at s n)) (task_is s p row n q h)

pub length_out : (s : ScenarioValue) (p : List Row) (row : Row) (n : Connection) (q : Process) (next : Phase) → Obeys s
    → IsPrompt s (row ∷ p) → Left s p row n q → present_phase (row ∷ p) ≡ Some next → phase_of (bus p) ≡ Phase.DataOut
    → is_struck_phase s p ≡ false → (handshakes p).answers ≡ run_length (policy_at s n) (task_here s (run_state s p) q)
length_out s p row n q next o prompt h to phase struck = just (handshakes p).answers (run_length (policy_at s n) t)
    (subst (λ (x : ℕ). (handshakes p).answers ≤ x) (length_is s p row n q h) counts.within)
    (subst (λ (x : ℕ). run_length (policy_at s n) t ≤ x) (ap (λ (x : Handshakes). x.answers) pl.handshakes) (subst
    (λ (x : ℕ). run_length (policy_of (target_def_of s x)) t ≤ k.handshakes.answers) (target_is s p row n q o prompt h)
    (leb-true (run_length (policy_of (target_def_of s q.target)) t) k.handshakes.answers whole.whole)))
  where
    k : RunState
    k = run_state s p

    t : Task
    t = task_here s k q

    pl : IsPlain s p k
    pl = run_state_plain s p h.end.was.stood.standing.devices

    begun_is : Rattle.due_model.specs.dialogue_model.specs.Hearing.begun p ≡ true
    begun_is = sym pl.begun ∙ h.leaving_row.begun

    counts : Rattle.progress_laws.specs.story_laws.specs.RunCounts.AreCounted (handshakes p) (bus p)
        (Rattle.progress_laws.specs.story_laws.specs.RunCounts.pulses_here p) (run_count s p n)
    counts = h.end.was.sends.counts.counts n h.leaving_row.stands h.leaving_row.calm begun_is phase

    on : (Rattle.due_model.specs.bus_trace.specs.Terms.connection (row ∷ p) ≡ Some n)
        × (Rattle.due_model.specs.bus_trace.specs.Phases.changes_phase
        (Rattle.due_model.specs.bus_trace.specs.Changes.change_of p row) ≡ true)
    on = h.end.stands next to

    whole : Rattle.progress_laws.specs.row_laws.specs.WriteFacts.IsAnsweredWhole s k q t
    whole = (steps s p row o prompt h.end.was).writes.answered n q t h.leaving_row.stands h.leaving_row.calm
        h.leaving_row.calm_after on.0 begun_is on.1 (phase_is s p row n q h Phase.DataOut phase)
        (unstruck s p struck) h.served (task_is s p row n q h)

-- In DATA IN the target asks for all of them, and leaves the phase once they are taken.
pub length_in : (s : ScenarioValue) (p : List Row) (row : Row) (n : Connection) (q : Process)
    → Obeys s → IsPrompt s (row ∷ p) → Left s p row n q → phase_of (bus p) ≡ Phase.DataIn
    → (handshakes p).requests ≡ run_length (policy_at s n) (task_here s (run_state s p) q)
length_in s p row n q o prompt h phase = just (handshakes p).requests (run_length (policy_at s n) t)
    (subst (λ (x : ℕ). (handshakes p).requests ≤ x) (length_is s p row n q h) few)
    (subst (λ (x : ℕ). run_length (policy_at s n) t ≤ x) (ap (λ (x : Handshakes). x.requests) pl.handshakes)
    (subst (λ (x : ℕ). x ≤ k.handshakes.requests) (ap (run_length_if (policy_at s n)) (task_is s p row n q h))
    (ltb-false k.handshakes.requests (run_count s p n) all)))
  where
    k : RunState
    k = run_state s p

    t : Task
    t = task_here s k q

    pl : IsPlain s p k
    pl = run_state_plain s p h.end.was.stood.standing.devices

    here : is_data_in (bus p) ≡ true
    here =
        let l = data_in_lines (bus p) phase in
        (λ i. is_data_in (record (bus p) { msg = l.0 i; cd = l.1 i; io = l.2 i }))

    few : (handshakes p).requests ≤ run_count s p n
    few = ((read_books s p o prompt.0).counts n h.leaving_row.stands h.leaving_row.calm
        (sym pl.begun ∙ h.leaving_row.begun) here).few

    -- of a phase with pulses or without
    by : (b : Bool) → follows_by (serving_of s k n.target) b (bus_of k) k.handshakes
        ≡ nat_lt k.handshakes.requests (run_count s p n)
    by true = refl
    by false = ap (follows_in (serving_of s k n.target) k.handshakes (bus_of k).atn)
        (phase_is s p row n q h Phase.DataIn phase)

    all : nat_lt k.handshakes.requests (run_count s p n) ≡ false
    all = sym (by (pace_of s k n.target).pulsed) ∙ h.end.over.follows

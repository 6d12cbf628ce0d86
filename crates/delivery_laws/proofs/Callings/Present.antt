-- No fault strikes a connection of a command whose target is absent: it has none.
use Rattle.delivery_laws.proofs
use proofs.Names.{ℕ, ◌≡◌, ◌+◌, Bool, true, false, ◌&&◌, ◌||◌, ◌∙◌, List, [], ◌∷◌, Option, Some, None, cond, refl, sym}
use proofs.Names.{ap, and_parts, eqb-true, find, list_any, ◌==◌, is_some, wrong, wrong', ProcId, connection, is_fault}
use proofs.Names.{Row, Connection, has_target, ScenarioValue, Obeys, TargetDef, Process, process_of, Item, process}
use proofs.Names.{one_if, run_state_plain, faithful, has_ends, IsPrompt, IsPlain, RunState, process_item}
use proofs.Names.{process_served, run_state, obeys_fits, units_are, ends_are, trace_faithful, fault_rows, is_fault_of}
use proofs.Names.{serves, item_is, Whole, whole}
use Rattle.due_model.specs.Faithful.{same_process}

-- A line that is found is there.
found_there : (targets : List TargetDef) (dev : ℕ) → is_some (find (λ (t : TargetDef). t.dev == dev) targets) ≡ true
    → list_any (λ (t : TargetDef). t.dev == dev) targets ≡ true
found_there [] dev e = wrong' e
found_there (t ∷ targets) dev e = go (t.dev == dev) e (λ z. found_there targets dev z)
  where
    go : (q : Bool) → is_some (cond q (Some t) (find (λ (x : TargetDef). x.dev == dev) targets)) ≡ true
        → (is_some (find (λ (x : TargetDef). x.dev == dev) targets) ≡ true
        → list_any (λ (x : TargetDef). x.dev == dev) targets ≡ true)
        → (q || list_any (λ (x : TargetDef). x.dev == dev) targets) ≡ true
    go true z rest = refl
    go false z rest = rest z

-- The target of a process that is served is there.
pub served_there : (s : ScenarioValue) (p : List Row) (n : Connection) → Obeys s → IsPrompt s p → connection p ≡ Some n
    → (id : ProcId) (q : Process) → process_of s id ≡ Some q → (run_state s p).served ≡ Some (process id)
    → has_target s q.target ≡ true
served_there s p n o prompt con id q own serving =
    ap (has_target s) at ∙ found_there s.targets n.target (w.ends n con).target
  where
    w : Whole s p
    w = whole s p o prompt

    true_to : faithful s p ≡ true
    true_to = trace_faithful s p (units_are s (obeys_fits s o)) w.rows_are

    served : process_served s (run_state s p) ≡ Some q
    served = ap (process_item s) serving ∙ own

    at : q.target ≡ n.target
    at = eqb-true q.target n.target (and_parts (q.initiator == n.initiator)
        (q.target == n.target) (ap (λ (x : Option Process). has_ends x n) (sym served)
        ∙ ends_are s p (λ before d. run_state_plain s before d) w.stood.standing.devices true_to n con)).1

pub absent_unstruck : (s : ScenarioValue) (p : List Row) → Obeys s → IsPrompt s p → (id : ProcId) (q : Process)
    → process_of s id ≡ Some q → has_target s q.target ≡ false → fault_rows s p id ≡ 0
absent_unstruck s [] o prompt id q own away = refl
absent_unstruck s (row ∷ p) o prompt id q own away =
    λ i. absent_unstruck s p o prompt.0 id q own away i + one_if (none (is_fault_of k row id) refl i)
  where
    k : RunState
    k = run_state s p

    pl : IsPlain s p k
    pl = run_state_plain s p (whole s p o prompt.0).stood.standing.devices

    served_by : (x : Option Item) → k.served ≡ x → (same_process x (Some (process id)) && is_some x) ≡ true
        → k.served ≡ Some (process id)
    served_by None e z = wrong' z
    served_by (Some item) e z = e ∙ ap (λ (y : Item). Some y)
        (item_is item (process id) (and_parts (same_process (Some item) (Some (process id))) true z).0)

    by : (x : Option Connection) → k.story.bus_state.connection ≡ x → is_some x ≡ true → serves k id ≡ true
        → is_fault_of k row id ≡ false
    by None e z h = wrong' z
    by (Some n) e z h =
        wrong (sym (served_there s p n o prompt.0 (sym pl.connection ∙ e) id q own (served_by k.served refl h)) ∙ away)

    none : (x : Bool) → is_fault_of k row id ≡ x → is_fault_of k row id ≡ false
    none false e = e
    none true e =
        let two = and_parts (is_fault row.kind && is_some k.story.bus_state.connection) (serves k id) e in
        by k.story.bus_state.connection refl
        (and_parts (is_fault row.kind) (is_some k.story.bus_state.connection) two.0).1 two.1

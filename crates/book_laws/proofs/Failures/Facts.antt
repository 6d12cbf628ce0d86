-- Of a whole trace: a process fails, or is lost, only past the limit of its target.
use Rattle.book_laws.proofs
use proofs.Names.{ℕ, ◌≡◌, Bool, true, false, List, [], ◌∷◌, ◌∙◌, refl, sym, Option, Some, None, arith, ◌+◌, not, ◌&&◌}
use proofs.Names.{◌||◌, and_parts, eqb-true, nat_tests, if◌then◌else◌, ◌==◌, is_some, is_none, nat_lt, middle, Event}
use proofs.Names.{Row, Connection, ScenarioValue, TargetDef, same_id_is, Process, process_of, RowReading, row_reading}
use proofs.Names.{row_events_by, Item, process, abort, phase_of, recovery_limit, one_if, Task, target_def_of}
use proofs.Names.{same_process, has_ends, is_true_beginning, is_faithful, is_true_hearing, faithful, RunState, bus_of}
use proofs.Names.{process_served, process_item, run_state, served_after, leaving, task_of, is_true_telling, telling}
use proofs.Names.{has_event, is_struck_phase, is_left, serves, is_wrong_phase, leaves_wrong_phase, wrong_phases}
use proofs.Names.{is_failure, is_loss, is_past_limit, gives_up, is_left_by, is_left_as_due, left_as_due}
use proofs.{Names.{has_passed_limit}, Failures.GiveUps.{failure_is, loss_by, fails_connected, lost_connected}}
use proofs.Failures.{GiveUps.{lost_calm}, Struck.{either_list}}

-- ---- the ends of a connection are those of the process that its target serves

some_same : (m n : Connection) (q : Bool) → (if q then Some m else None) ≡ Some n → m ≡ n
some_same m n true h = cc
some_same m n false h = cc

ends_are : (s : ScenarioValue) (rows : List Row) (n : Connection) → faithful s rows ≡ true
    → (run_state s rows).story.bus_state.connection ≡ Some n → has_ends (process_served s (run_state s rows)) n ≡ true
ends_are s [] n h z = cc
ends_are s (row ∷ rows) n h z = go (λ m y. ends_are s rows m two.0 y) k.story.bus_state.connection refl
  where
    k : RunState
    k = run_state s rows

    d : RowReading
    d = row_reading k.story.bus_state row

    two : (faithful s rows ≡ true) × (is_faithful s k d ≡ true)
    two = and_parts (faithful s rows) (is_faithful s k d) h

    begins : is_true_beginning s k k.story.bus_state.connection d.next ≡ true
    begins = (and_parts (is_true_beginning s k k.story.bus_state.connection d.next)
        (d.change.after.rst || is_true_hearing s k d) two.1).0

    next : d.next ≡ Some n
    next = z

    go : ((m : Connection) → k.story.bus_state.connection ≡ Some m → has_ends (process_served s k) m ≡ true)
        → (o : Option Connection) → k.story.bus_state.connection ≡ o
        → has_ends (process_item s (served_after s k k.story.bus_state.connection d.next)) n ≡ true
    go before None y = (λ i. has_ends (process_item s (served_after s k (y i) (next i))) n)
        ∙ (λ i. is_true_beginning s k (sym y i) (sym next i)) ∙ begins
    go before (Some m) y =
        let same : m ≡ n = some_same m n d.change.after.bsy
        ((λ i. Rattle.due_model.specs.bus_trace.specs.Terms.connection_after
        (sym y i) k.story.bus_state.call d.change row) ∙ next) in
        (λ i. has_ends (process_item s (served_after s k (y i) (next i))) (sym same i)) ∙ before m y

-- ---- a row that gives up

past_limit : (def : Option TargetDef) (o : Option Task) (w : ℕ) → is_past_limit def o w ≡ true
    → nat_lt (recovery_limit def) w ≡ true
past_limit def None w h = cc
past_limit def (Some t) w h =
    (and_parts (not t.in_hold && not (nat_lt t.recoveries (recovery_limit def))) (nat_lt (recovery_limit def) w) h).1

gave_up : (s : ScenarioValue) (rows : List Row) (row : Row) (n : Connection) (c : Process)
    → faithful s rows ≡ true → (run_state s rows).story.bus_state.connection ≡ Some n → process_of s c.id ≡ Some c
    → gives_up s rows row n c.id ≡ true → has_passed_limit s (row ∷ rows) c ≡ true
gave_up s rows row n c f z own h =
    (λ i. nat_lt (recovery_limit (target_def_of s (at_target i))) (wrong_phases s (row ∷ rows) c.id))
    ∙ past_limit (target_def_of s n.target) (task_of s k) (wrong_phases s (row ∷ rows) c.id) two.1
  where
    k : RunState
    k = run_state s rows

    d : RowReading
    d = row_reading k.story.bus_state row

    two : (leaves_wrong_phase (is_struck_phase s rows) k d c.id ≡ true)
        × (is_past_limit (target_def_of s n.target) (task_of s k) (wrong_phases s (row ∷ rows) c.id) ≡ true)
    two = and_parts (leaves_wrong_phase (is_struck_phase s rows) k d c.id)
        (is_past_limit (target_def_of s n.target) (task_of s k) (wrong_phases s (row ∷ rows) c.id)) h

    served : (same_process k.served (Some (process c.id)) ≡ true) × (is_some k.served ≡ true)
    served = and_parts (same_process k.served (Some (process c.id))) (is_some k.served) (middle (is_left k d)
        (serves k c.id) (is_wrong_phase (is_struck_phase s rows) k.exchange.plan (phase_of (bus_of k))) two.0)

    is_own : (x : Option Item) → same_process x (Some (process c.id)) ≡ true → is_some x ≡ true
        → process_item s x ≡ Some c
    is_own None a b = cc
    is_own (Some (abort m)) a b = cc
    is_own (Some (process m)) a b = (λ i. process_of s (same_id_is m c.id a i)) ∙ own

    at_target : c.target ≡ n.target
    at_target = eqb-true c.target n.target (and_parts (c.initiator == n.initiator) (c.target == n.target)
        ((λ i. has_ends (sym (is_own k.served served.0 served.1) i) n) ∙ ends_are s rows n f z)).1

-- ---- it stays so

more_phases : (s : ScenarioValue) (rows : List Row) (row : Row) (c : Process) → has_passed_limit s rows c ≡ true
    → has_passed_limit s (row ∷ rows) c ≡ true
more_phases s rows row c h =
    go (recovery_limit (target_def_of s c.target)) (wrong_phases s rows c.id) (leaves_wrong_phase
    (is_struck_phase s rows) (run_state s rows) (row_reading (run_state s rows).story.bus_state row) c.id) h
  where
    go : (limit w : ℕ) (q : Bool) → nat_lt limit w ≡ true → nat_lt limit (w + one_if q) ≡ true
    go limit w true e = grind (arith, nat_tests)
    go limit w false e = grind (arith, nat_tests)

pub failures_are : (s : ScenarioValue) (rows : List Row) (c : Process) (code : ℕ)
    → faithful s rows ≡ true → telling s rows ≡ true → process_of s c.id ≡ Some c
    → has_event (run_state s rows).story.history (Event.Fail c.id code) ≡ true → has_passed_limit s rows c ≡ true
failures_are s [] c code f t own h = cc
failures_are s (row ∷ rows) c code f t own h =
    let k : RunState = run_state s rows in
    let d : RowReading = row_reading k.story.bus_state row in
    let ff = and_parts (faithful s rows) (is_faithful s k d) f in
    let tt2 = and_parts (telling s rows) (is_true_telling s k row d) t in
    either_list (row_events_by s k.story d row) k.story.history (Event.Fail c.id code)
    (has_passed_limit s (row ∷ rows) c) (λ x. let n = fails_connected s k row d c.id code tt2.1 x in
    gave_up s rows row n.0 c ff.0 n.1 own (and_parts (is_failure k.exchange.plan.cause code (phase_of (bus_of k)))
    (gives_up s rows row n.0 c.id) (failure_is s rows row n.0 c.id code n.1 tt2.1 x)).1)
    (λ x. more_phases s rows row c (failures_are s rows c code ff.0 tt2.0 own x)) h

free_row : (s : ScenarioValue) (k : RunState) (d : RowReading) (n : Connection) → k.story.bus_state.connection ≡ Some n
    → d.change.after.rst ≡ false → is_left_as_due s k d ≡ true → is_some d.next ≡ false
    → is_none (leaving s k n.target).to ≡ true
free_row s k d n z calm left next =
    (λ i. sym calm i || sym next i || is_none (leaving s k n.target).to) ∙ (λ i. is_left_by s k d (sym z i)) ∙ left

pub losses_are : (s : ScenarioValue) (rows : List Row) (c : Process) → faithful s rows ≡ true
    → telling s rows ≡ true → left_as_due s rows ≡ true → process_of s c.id ≡ Some c
    → has_event (run_state s rows).story.history (Event.Lost c.id) ≡ true → has_passed_limit s rows c ≡ true
losses_are s [] c f t l own h = cc
losses_are s (row ∷ rows) c f t l own h =
    let k : RunState = run_state s rows in
    let d : RowReading = row_reading k.story.bus_state row in
    let ff = and_parts (faithful s rows) (is_faithful s k d) f in
    let tt2 = and_parts (telling s rows) (is_true_telling s k row d) t in
    let ll = and_parts (left_as_due s rows) (is_left_as_due s k d) l in
    either_list (row_events_by s k.story d row) k.story.history (Event.Lost c.id) (has_passed_limit s (row ∷ rows) c)
    (λ x. let n = lost_connected s k row d c.id tt2.1 x in gave_up s rows row n.0 c ff.0 n.1 own
    (and_parts (is_loss k.exchange.plan.cause (phase_of (bus_of k))) (gives_up s rows row n.0 c.id)
    (loss_by s rows row n.0 c n.1 tt2.1 own (free_row s k d n.0 n.1 (lost_calm s k row d c.id tt2.1 x) ll.1) x)).1)
    (λ x. more_phases s rows row c (losses_are s rows c ff.0 tt2.0 ll.0 own x)) h

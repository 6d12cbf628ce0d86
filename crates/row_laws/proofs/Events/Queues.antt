-- A process stays in its queue with every event that does not end it; a command that arrives at its unit is put there,
-- and one that runs at rest stands there (7.8).
use Rattle.row_laws.proofs
use proofs.Names.{ℕ, ◌≡◌, Bool, true, false, not, ◌&&◌, ◌||◌, ◌∙◌, List, [], ◌∷◌, ◌++◌, Option, Some, None, refl, sym}
use proofs.Names.{ap, ◌==◌, or_right, or_left, same_Some, if◌then◌else◌, is_some, wrong, either_stays, ProcId}
use proofs.Names.{ScenarioValue, last_waits, Reply, choice, without_process, Process, process_of, same_id, waits_in}
use proofs.Names.{AllOwn, AllOwnUnits, IsOwnRunning, running_if, running_in, running_process, Array, Nexus}
use proofs.Names.{RunningProcess, UnitState, has_no_current, is_held, settled_array, unit_after_choice, unit_state_at}
use proofs.Names.{units_after_choice, with_current, with_unit, without_reply, id_is, IsAtRest, is_in_queue, is_queued}
use proofs.{Common.Impossible.{none_some}, Events.Arriving.{found_at, no_guest, queued}}
use Rattle.due_model.specs.array_model.specs.Steps

-- ---- it waits

still_waits : (waiting : List Process) (d id : ProcId) → same_id d id ≡ false → waits_in waiting id ≡ true
    → waits_in (without_process waiting d) id ≡ true
still_waits [] d id ne e = e
still_waits (w ∷ waiting) d id ne e =
    go (same_id w.id d) refl (same_id w.id id) refl e (λ z. still_waits waiting d id ne z)
  where
    go : (x : Bool) → same_id w.id d ≡ x → (y : Bool) → same_id w.id id ≡ y → (y || waits_in waiting id) ≡ true
        → (waits_in waiting id ≡ true → waits_in (without_process waiting d) id ≡ true)
        → waits_in (if x then without_process waiting d else w ∷ without_process waiting d) id ≡ true
    go true z true f h more = wrong (sym f ∙ ap (λ (i : ProcId). same_id i id) (id_is w.id d z) ∙ ne)
    go true z false f h more = more h
    go false z true f h more = or_left (same_id w.id id) (waits_in (without_process waiting d) id) f
    go false z false f h more = or_right (same_id w.id id) (waits_in (without_process waiting d) id) (more h)

pub waits_last : (waiting : List Process) (c : Process) (id : ProcId) → waits_in waiting id ≡ true
    → waits_in (waiting ++ c ∷ []) id ≡ true
waits_last [] c id e = wrong (sym e)
waits_last (w ∷ waiting) c id e = go (same_id w.id id) (λ z. waits_last waiting c id z) e
  where
    go : (x : Bool) → (waits_in waiting id ≡ true → waits_in (waiting ++ c ∷ []) id ≡ true)
        → (x || waits_in waiting id) ≡ true → (x || waits_in (waiting ++ c ∷ []) id) ≡ true
    go true more h = refl
    go false more h = more h

-- ---- in one unit

abbrev Stays : (UnitState → UnitState) → UnitState → ProcId → Type 0
Stays f u id = is_in_queue u id ≡ true → is_in_queue (f u) id ≡ true

idle_waits : (u : UnitState) (id : ProcId) → has_no_current u.current ≡ true → is_in_queue u id ≡ true
    → waits_in u.waiting id ≡ true
idle_waits u id idle e = go u.current refl (waits_in u.waiting id) refl
  where
    go : (o : Option RunningProcess) → u.current ≡ o → (w : Bool) → waits_in u.waiting id ≡ w
        → waits_in u.waiting id ≡ true
    go o z true f = f
    go None z false f = wrong (sym (sym (λ i. f i || is_some (running_if (z i) id)) ∙ e))
    go (Some r) z false f = wrong (sym (sym (ap has_no_current z) ∙ idle))

pub chosen_stays : (holds : List Nexus) (u : UnitState) (id : ProcId) → is_in_queue u id ≡ true
    → is_in_queue (unit_after_choice holds u) id ≡ true
chosen_stays holds u id e =
    go (has_no_current u.current) refl (not (is_held holds u.target u.unit)) (choice u.pick u.waiting)
  where
    one : (c : Process) → waits_in u.waiting id ≡ true → (y : Bool) → same_id c.id id ≡ y
        → (waits_in (without_process u.waiting c.id) id || is_some (if y then Some (without_reply c) else None)) ≡ true
    one c w true z = or_right (waits_in (without_process u.waiting c.id) id) true refl
    one c w false z = or_left (waits_in (without_process u.waiting c.id) id) false (still_waits u.waiting c.id id z w)

    go : (x : Bool) → has_no_current u.current ≡ x → (y : Bool) (c : Option Process)
        → is_in_queue (if x && y then with_current u c else u) id ≡ true
    go true z true None = e
    go true z true (Some c) = one c (idle_waits u id z e) (same_id c.id id) refl
    go true z false c = e
    go false z y c = e

replied_stays : (u : UnitState) (id i : ProcId) (reply : Reply) → is_in_queue u id ≡ true
    → is_in_queue (record u { current = Steps.current_with_reply u.current i reply }) id ≡ true
replied_stays u id i reply e = ap (λ (q : Bool). waits_in u.waiting id || q) (same u.current) ∙ e
  where
    one : (r : RunningProcess) (x : Bool)
        → is_some (running_if (if x then Some (record r { reply = Some reply }) else Some r) id)
        ≡ is_some (running_if (Some r) id)
    one r true = either (same_id r.process.id id)
      where
        either : (y : Bool) → is_some (if y then Some (record r { reply = Some reply }) else None)
            ≡ is_some (if y then Some r else None)
        either true = refl
        either false = refl
    one r false = refl

    same : (o : Option RunningProcess)
        → is_some (running_if (Steps.current_with_reply o i reply) id) ≡ is_some (running_if o id)
    same None = refl
    same (Some r) = one r (same_id r.process.id i)

left_stays : (u : UnitState) (id i : ProcId) → same_id i id ≡ false → is_in_queue u id ≡ true
    → is_in_queue (Steps.unit_without u i) id ≡ true
left_stays u id i ne e = either_stays (waits_in u.waiting id) (is_some (running_if u.current id))
    (waits_in (without_process u.waiting i) id) _ (λ z. still_waits u.waiting i id ne z) (λ z. runs u.current z) e
  where
    one : (r : RunningProcess) (x : Bool) → same_id r.process.id i ≡ x → is_some (running_if (Some r) id) ≡ true
        → is_some (running_if (if is_some (if x then Some r else None) then None else Some r) id) ≡ true
    one r false f z = z
    one r true f z = go (same_id r.process.id id) refl z
      where
        go : (y : Bool) → same_id r.process.id id ≡ y → is_some (if y then Some r else None) ≡ true
            → is_some (running_if None id) ≡ true
        go true g h = wrong (sym g ∙ ap (λ (w : ProcId). same_id w id) (id_is r.process.id i f) ∙ ne)
        go false g h = wrong (sym h)

    runs : (o : Option RunningProcess) → is_some (running_if o id) ≡ true
        → is_some (running_if (if is_some (running_if o i) then None else o) id) ≡ true
    runs None z = z
    runs (Some r) z = one r (same_id r.process.id i) refl z

-- A test that does not drop the process of this number.
abbrev pub Spares : ScenarioValue → (Process → Bool) → ProcId → Type 0
Spares s drops id = (c : Process) → process_of s c.id ≡ Some c → same_id c.id id ≡ true → drops c ≡ false

kept_waits : (s : ScenarioValue) (t m : ℕ) (drops : Process → Bool) (waiting : List Process) (id : ProcId)
    → Spares s drops id → AllOwn s t m waiting → waits_in waiting id ≡ true
    → waits_in (Steps.kept_processes drops waiting) id ≡ true
kept_waits s t m drops [] id spares own e = e
kept_waits s t m drops (c ∷ waiting) id spares own e =
    go (drops c) refl (same_id c.id id) refl e (λ z. kept_waits s t m drops waiting id spares own.1 z)
  where
    go : (x : Bool) → drops c ≡ x → (y : Bool) → same_id c.id id ≡ y → (y || waits_in waiting id) ≡ true
        → (waits_in waiting id ≡ true → waits_in (Steps.kept_processes drops waiting) id ≡ true)
        → waits_in (if x then Steps.kept_processes drops waiting else c ∷ Steps.kept_processes drops waiting) id ≡ true
    go true z true f h more = wrong (sym z ∙ spares c own.0.is f)
    go true z false f h more = more h
    go false z true f h more = or_left (same_id c.id id) (waits_in (Steps.kept_processes drops waiting) id) f
    go false z false f h more = or_right (same_id c.id id) (waits_in (Steps.kept_processes drops waiting) id) (more h)

kept_runs : (s : ScenarioValue) (t m : ℕ) (drops : Process → Bool) (o : Option RunningProcess) (id : ProcId)
    → Spares s drops id → IsOwnRunning s t m o → is_some (running_if o id) ≡ true
    → is_some (running_if (Steps.kept_running drops o) id) ≡ true
kept_runs s t m drops None id spares own e = e
kept_runs s t m drops (Some r) id spares own e = go (drops r.process) refl (same_id r.process.id id) refl e
  where
    go : (x : Bool) → drops r.process ≡ x → (y : Bool) → same_id r.process.id id ≡ y
        → is_some (if y then Some r else None) ≡ true → is_some (running_if (if x then None else Some r) id) ≡ true
    go true z true f h = wrong (sym z ∙ spares r.process own.is f)
    go true z false f h = wrong (sym h)
    go false z y f h = ap (λ (q : Bool). is_some (if q then Some r else None)) f ∙ h

-- ---- in all units

pub chosen_all : (holds : List Nexus) (units : List UnitState) (id : ProcId) → is_queued units id ≡ true
    → is_queued (units_after_choice holds units) id ≡ true
chosen_all holds [] id e = e
chosen_all holds (u ∷ units) id e = either_stays (is_in_queue u id) (is_queued units id) _ _
    (λ z. chosen_stays holds u id z) (λ z. chosen_all holds units id z) e

pub replied_all : (units : List UnitState) (id i : ProcId) (reply : Reply) → is_queued units id ≡ true
    → is_queued (Steps.units_with_reply units i reply) id ≡ true
replied_all [] id i reply e = e
replied_all (u ∷ units) id i reply e = either_stays (is_in_queue u id) (is_queued units id) _ _
    (λ z. replied_stays u id i reply z) (λ z. replied_all units id i reply z) e

pub left_all : (units : List UnitState) (id i : ProcId) → same_id i id ≡ false → is_queued units id ≡ true
    → is_queued (Steps.units_without units i) id ≡ true
left_all [] id i ne e = e
left_all (u ∷ units) id i ne e = either_stays (is_in_queue u id) (is_queued units id) _ _ (λ z. left_stays u id i ne z)
    (λ z. left_all units id i ne z) e

pub kept_all : (s : ScenarioValue) (drops : Process → Bool) (units : List UnitState) (id : ProcId) → Spares s drops id
    → AllOwnUnits s units → is_queued units id ≡ true → is_queued (Steps.kept_units drops units) id ≡ true
kept_all s drops [] id spares own e = e
kept_all s drops (u ∷ units) id spares own e = either_stays (is_in_queue u id) (is_queued units id) _ _
    (λ z. either_stays (waits_in u.waiting id) (is_some (running_if u.current id)) _ _
    (λ y. kept_waits s u.target u.unit drops u.waiting id spares own.0.waiting y)
    (λ y. kept_runs s u.target u.unit drops u.current id spares own.0.current y) z)
    (λ z. kept_all s drops units id spares own.1 z) e

-- Where a unit is replaced by one that has the process if the unit had it.
pub with_unit_all : (units : List UnitState) (new u : UnitState) (id : ProcId)
    → unit_state_at units new.target new.unit ≡ Some u → (is_in_queue u id ≡ true → is_in_queue new id ≡ true)
    → is_queued units id ≡ true → is_queued (with_unit units new) id ≡ true
with_unit_all [] new u id at f e = e
with_unit_all (v ∷ units) new u id at f e =
    go (v.target == new.target && v.unit == new.unit) at (λ z y. with_unit_all units new u id z f y)
  where
    go : (x : Bool) → (if x then Some v else unit_state_at units new.target new.unit) ≡ Some u
        → (unit_state_at units new.target new.unit ≡ Some u
        → is_queued units id ≡ true → is_queued (with_unit units new) id ≡ true)
        → is_queued (if x then new ∷ units else v ∷ with_unit units new) id ≡ true
    go true z more = either_stays (is_in_queue v id) (is_queued units id) (is_in_queue new id) (is_queued units id)
        (λ y. f (ap (λ (w : UnitState). is_in_queue w id) (sym (same_Some v u z)) ∙ y)) (λ y. y) e
    go false z more = either_stays (is_in_queue v id) (is_queued units id) (is_in_queue v id)
        (is_queued (with_unit units new) id) (λ y. y) (λ y. more z y) e

-- Where the new one has it.
pub with_unit_new : (units : List UnitState) (new u : UnitState) (id : ProcId)
    → unit_state_at units new.target new.unit ≡ Some u → is_in_queue new id ≡ true
    → is_queued (with_unit units new) id ≡ true
with_unit_new [] new u id at e = absurd (let w = at in no_unit w)
  where
    no_unit : (let a : Option UnitState = None in a) ≡ Some u → ⊥
    no_unit z = absurd cc
with_unit_new (v ∷ units) new u id at e =
    go (v.target == new.target && v.unit == new.unit) at (λ z. with_unit_new units new u id z e)
  where
    go : (x : Bool) → (if x then Some v else unit_state_at units new.target new.unit) ≡ Some u
        → (unit_state_at units new.target new.unit ≡ Some u → is_queued (with_unit units new) id ≡ true)
        → is_queued (if x then new ∷ units else v ∷ with_unit units new) id ≡ true
    go true z more = or_left (is_in_queue new id) (is_queued units id) e
    go false z more = or_right (is_in_queue v id) (is_queued (with_unit units new) id) (more z)

-- ---- one that arrives, and one that runs at rest

pub queued_stands : (a : Array) (c : Process) (u : UnitState) → unit_state_at a.units c.target c.unit ≡ Some u
    → is_queued (settled_array (queued a c u)).units c.id ≡ true
queued_stands a c u e =
    let at = found_at a.units c.target c.unit u e in
    let new : UnitState = record u { waiting = u.waiting ++ c ∷ [] } in
    chosen_all a.holds (with_unit a.units new) c.id
    (with_unit_new a.units new u c.id ((λ i. unit_state_at a.units (at.target_is i) (at.unit_is i)) ∙ e)
    (or_left (waits_in (u.waiting ++ c ∷ []) c.id) (is_some (running_if u.current c.id)) (last_waits u.waiting c)))

runs_in : (units : List UnitState) (id : ProcId) (r : RunningProcess) → running_in units id ≡ Some r
    → is_queued units id ≡ true
runs_in [] id r e = none_some r e
runs_in (u ∷ units) id r e = go (running_if u.current id) refl e (λ z. runs_in units id r z)
  where
    go : (o : Option RunningProcess) → running_if u.current id ≡ o
        → (if is_some o then o else running_in units id) ≡ Some r
        → (running_in units id ≡ Some r → is_queued units id ≡ true) → (is_in_queue u id || is_queued units id) ≡ true
    go (Some g) f h more = or_left (is_in_queue u id) (is_queued units id) (or_right (waits_in u.waiting id)
        (is_some (running_if u.current id)) (ap (λ (o : Option RunningProcess). is_some o) f))
    go None f h more = or_right (is_in_queue u id) (is_queued units id) (more h)

-- What is at rest is no guest.
pub rests_in_queue : (a : Array) (c : Process) → running_process a c.id ≡ Some (without_reply c) → IsAtRest a c.id
    → is_queued a.units c.id ≡ true
rests_in_queue a c runs rests = runs_in a.units c.id (without_reply c) (sym own ∙ runs)
  where
    own : running_process a c.id ≡ running_in a.units c.id
    own = λ i. if is_some (no_guest a.guests c.id rests.guests i) then no_guest a.guests c.id rests.guests i
        else running_in a.units c.id

-- What stands in the queues of the plain disk array; and that a unit in which a process stands has one that is current,
-- but while it is held (6.6.17, 7.6, 7.8).
use Rattle.progress_laws.proofs
use proofs.Names.{ℕ, zero, suc, ◌≡◌, ◌+◌, ◌<◌, Bool, true, false, ◌&&◌, ◌||◌, ◌∙◌, List, [], ◌∷◌, Option, Some, None}
use proofs.Names.{refl, sym, ap, arith, inl, inr, eqb-true, and_right, or_parts, cases_Bool, same_Some, list_any}
use proofs.Names.{if◌then◌else◌, ◌==◌, is_some, wrong, and_first, and_second, eq_self, ProcId, ScenarioValue, any_none}
use proofs.Names.{choice, Process, process_of, same_id, in_hold, is_any_held, nexus_at, unit_mapped, unit_with_choice}
use proofs.Names.{current_of, AllOwn, AllOwnUnits, AreApart, IsOwn, IsOwnRunning, IsOwnUnit, IsSound, running_if, Array}
use proofs.Names.{Nexus, RunningProcess, UnitState, has_no_current, is_at_unit, is_held, unit_state_at, with_current}
use proofs.Names.{Ready, first_ready, is_ready_before, ready_by, ready_in, ready_among, ready_at, since_of, id_is}
use proofs.{Names.{some_none, none_some, is_in_queue, is_queued}, Queues.Choices.{some_chosen}}

-- ---- the unit

pub record IsQueuedAt (units : List UnitState) (id : ProcId) (u : UnitState) : Type 0 where
  pub at : unit_state_at units u.target u.unit ≡ Some u
  pub here : is_in_queue u id ≡ true

pub record HasQueue (s : ScenarioValue) (units : List UnitState) (id : ProcId) : Type 0 where
  pub unit : UnitState
  pub at : unit_state_at units unit.target unit.unit ≡ Some unit
  pub own : IsOwnUnit s unit
  pub here : is_in_queue unit id ≡ true

found : (s : ScenarioValue) (units : List UnitState) (id : ProcId) → AreApart units → AllOwnUnits s units
    → is_queued units id ≡ true → HasQueue s units id
found s [] id apart own e = wrong (sym e)
found s (v ∷ units) id apart own e = go (is_in_queue v id) refl (λ z. found s units id apart.1 own.1 z) e
  where
    later : HasQueue s units id → HasQueue s (v ∷ units) id
    later w = at_address (v.target == w.unit.target && v.unit == w.unit.unit) refl
      where
        at_address : (q : Bool) → (v.target == w.unit.target && v.unit == w.unit.unit) ≡ q → HasQueue s (v ∷ units) id
        at_address true z =
            let t = eqb-true v.target w.unit.target (and_first (v.target == w.unit.target) (v.unit == w.unit.unit) z) in
            let n = eqb-true v.unit w.unit.unit (and_second (v.target == w.unit.target) (v.unit == w.unit.unit) z) in
            none_some w.unit (sym apart.0 ∙ (λ i. unit_state_at units (t i) (n i)) ∙ w.at)
        at_address false z = record {
          unit = w.unit;
          at = ap (λ (q : Bool). if q then Some v else unit_state_at units w.unit.target w.unit.unit) z ∙ w.at;
          own = w.own;
          here = w.here;
        }

    go : (q : Bool) → is_in_queue v id ≡ q → (is_queued units id ≡ true → HasQueue s units id)
        → (q || is_queued units id) ≡ true → HasQueue s (v ∷ units) id
    go true z more h = record {
      unit = v;
      at = λ i. if eq_self v.target i && eq_self v.unit i then Some v else unit_state_at units v.target v.unit;
      own = own.0;
      here = z;
    }
    go false z more h = later (more h)

pub queue_found : (s : ScenarioValue) (a : Array) (id : ProcId) → IsSound s a → is_queued a.units id ≡ true
    → HasQueue s a.units id
queue_found s a id sound e = found s a.units id sound.apart sound.units e

-- ---- the process itself is of the scenario, and of this unit

pub record IsThere (s : ScenarioValue) (u : UnitState) (id : ProcId) : Type 0 where
  pub process : Process
  pub is : process_of s id ≡ Some process
  pub target_is : process.target ≡ u.target
  pub unit_is : process.unit ≡ u.unit

by_own : (s : ScenarioValue) (u : UnitState) (id : ProcId) (c : Process) → IsOwn s u.target u.unit c
    → same_id c.id id ≡ true → IsThere s u id
by_own s u id c own e = record {
  process = c;
  is = ap (process_of s) (sym (id_is c.id id e)) ∙ own.is;
  target_is = own.target_is;
  unit_is = own.unit_is;
}

waits_there : (s : ScenarioValue) (u : UnitState) (id : ProcId) (waiting : List Process)
    → AllOwn s u.target u.unit waiting → list_any (λ (c : Process). same_id c.id id) waiting ≡ true → IsThere s u id
waits_there s u id [] own e = wrong (sym e)
waits_there s u id (c ∷ waiting) own e = go (same_id c.id id) refl (λ z. waits_there s u id waiting own.1 z) e
  where
    go :
        (q : Bool) → same_id c.id id ≡ q → (list_any (λ (w : Process). same_id w.id id) waiting ≡ true → IsThere s u id)
        → (q || list_any (λ (w : Process). same_id w.id id) waiting) ≡ true → IsThere s u id
    go true z more h = by_own s u id c own.0 z
    go false z more h = more h

runs_there : (s : ScenarioValue) (u : UnitState) (id : ProcId) (current : Option RunningProcess)
    → IsOwnRunning s u.target u.unit current → is_some (running_if current id) ≡ true → IsThere s u id
runs_there s u id None own e = wrong (sym e)
runs_there s u id (Some r) own e =
    elim (cases_Bool (same_id r.process.id id)) [
      | inl f ↦ by_own s u id r.process own f
      | inr f ↦ wrong (sym (rw f at e))
    ]

pub process_there : (s : ScenarioValue) (u : UnitState) (id : ProcId) → IsOwnUnit s u → is_in_queue u id ≡ true
    → IsThere s u id
process_there s u id own e =
    elim (cases_Bool (list_any (λ (c : Process). same_id c.id id) u.waiting)) [
      | inl f ↦ waits_there s u id u.waiting own.waiting f
      | inr f ↦ runs_there s u id u.current own.current (rw f at e)
    ]

-- ---- a unit that is not held and has a process has a current one

pub record HasCurrent (u : UnitState) : Type 0 where
  pub running : RunningProcess
  pub running_is : u.current ≡ Some running

-- No one stands in the hold of a unit that is not held.
none_in : (holds : List Nexus) (t m i : ℕ) → is_held holds t m ≡ false → in_hold holds (nexus_at t m i) ≡ false
none_in [] t m i e = refl
none_in (q ∷ holds) t m i e =
    let w = or_parts (is_at_unit q t m) (is_held holds t m) e in
    (λ j. and_right (q.initiator == i) (is_at_unit q t m) w.0 j || none_in holds t m i w.1 j)

not_any : (holds : List Nexus) (t m : ℕ) → is_held holds t m ≡ false
    → is_any_held (λ i. in_hold holds (nexus_at t m i)) ≡ false
unfolding is_any_held
not_any holds t m e = any_none (λ i. in_hold holds (nexus_at t m i)) 8 (λ i. none_in holds t m i e)

settled_unit : (s : ScenarioValue) (a : Array) (u : UnitState) → IsSound s a
    → unit_state_at a.units u.target u.unit ≡ Some u → is_held a.holds u.target u.unit ≡ false
    → unit_with_choice false u ≡ u
settled_unit s a u sound at free =
    let held : is_any_held (λ i. in_hold a.holds (nexus_at u.target u.unit i)) ≡ false = not_any
    a.holds u.target u.unit free in
    same_Some (unit_with_choice false u) u (sym (λ i. unit_mapped (unit_with_choice (held i)) (at i))
    ∙ ap (λ seat. seat.unit) (sound.settled u.target u.unit) ∙ at)

pub current_there : (s : ScenarioValue) (a : Array) (u : UnitState) (id : ProcId) → IsSound s a
    → unit_state_at a.units u.target u.unit ≡ Some u → is_in_queue u id ≡ true → is_held a.holds u.target u.unit ≡ false
    → HasCurrent u
current_there s a u id sound at here free = go u.current refl
  where
    chosen : u.current ≡ None → (waiting : List Process) → u.waiting ≡ waiting → HasCurrent u
    chosen idle [] w = wrong
        (sym (sym (λ i. list_any (λ (t : Process). same_id t.id id) (w i) || is_some (running_if (idle i) id)) ∙ here))
    chosen idle (t ∷ waiting) w =
        let c = some_chosen u.pick t waiting in
        let is : choice u.pick u.waiting ≡ Some c.process = ap (choice u.pick) w ∙ c.is in
        let same = sym (λ i. (if has_no_current (idle i) && true then with_current u (is i) else u).current)
        ∙ ap (λ (v : UnitState). v.current) (settled_unit s a u sound at free) ∙ idle in
        some_none (record { process = c.process; reply = None }) same

    go : (o : Option RunningProcess) → u.current ≡ o → HasCurrent u
    go (Some r) e = record { running = r; running_is = e }
    go None e = chosen e u.waiting refl

-- ---- such a unit is ready, and its target wants to reselect

both_none : (a b : Option Ready) → first_ready a b ≡ None → (a ≡ None) × (b ≡ None)
both_none None b e = (refl, e)
both_none (Some x) None e = some_none x e
both_none (Some x) (Some y) e =
    elim (cases_Bool (is_ready_before y x)) [ inl f ↦ some_none y (rw f at e) | inr f ↦ some_none x (rw f at e) ]

abbrev none_of : (ℕ → Option Ready) → Option Ready
none_of f = ready_by (f 0 ∷ f 1 ∷ f 2 ∷ f 3 ∷ f 4 ∷ f 5 ∷ f 6 ∷ f 7 ∷ [])

each_none : (f : ℕ → Option Ready) (i : ℕ) → i < 8 → none_of f ≡ None → f i ≡ None
each_none f i lt e =
    let a0 = both_none (f 0) _ e in
    let a1 = both_none (f 1) _ a0.1 in
    let a2 = both_none (f 2) _ a1.1 in
    let a3 = both_none (f 3) _ a2.1 in
    let a4 = both_none (f 4) _ a3.1 in
    let a5 = both_none (f 5) _ a4.1 in
    let a6 = both_none (f 6) _ a5.1 in
    let a7 = both_none (f 7) _ a6.1 in
    by_number i lt a0.0 a1.0 a2.0 a3.0 a4.0 a5.0 a6.0 a7.0
  where
    by_number : (m : ℕ) → m < 8 → f 0 ≡ None → f 1 ≡ None → f 2 ≡ None → f 3 ≡ None → f 4 ≡ None → f 5 ≡ None
        → f 6 ≡ None → f 7 ≡ None → f m ≡ None
    by_number zero lt a b c d e f g h = a
    by_number (suc zero) lt a b c d e f g h = b
    by_number (suc (suc zero)) lt a b c d e f g h = c
    by_number (suc (suc (suc zero))) lt a b c d e f g h = d
    by_number (suc (suc (suc (suc zero)))) lt a b c d e f g h = e
    by_number (suc (suc (suc (suc (suc zero))))) lt a b c d e f g h = f
    by_number (suc (suc (suc (suc (suc (suc zero)))))) lt a b c d e f g h = g
    by_number (suc (suc (suc (suc (suc (suc (suc zero))))))) lt a b c d e f g h = h
    by_number (suc (suc (suc (suc (suc (suc (suc (suc m)))))))) lt a b c d e f g h = absurd (let w = lt in omega arith)

-- A target that has nothing ready has no unit with a current process that is not held.
pub not_ready : (a : Array) (times : List ℕ) (seek : ℕ) (u : UnitState) → u.unit < 8
    → unit_state_at a.units u.target u.unit ≡ Some u → is_held a.holds u.target u.unit ≡ false → HasCurrent u
    → ready_among a times seek u.target ≡ None → ⊥
not_ready a times seek u lt at free c e =
    let none = each_none (ready_at a times seek u.target) u.unit lt e in
    some_none (record { time = since_of a.units times u.target u.unit + seek; process = c.running.process })
    (sym (λ i. ready_in (free i) ((ap current_of at ∙ c.running_is) i) (since_of a.units times u.target u.unit + seek))
    ∙ none)

-- The times of current processes over two events at one time, where the first lets each current process be.
use Rattle.std.proofs.Common.{ℕ, ◌≡◌, Bool, true, false, List, [], ◌∷◌, ◌++◌, ◌∙◌, refl, sym, subst, Option, Some, None}
use Rattle.std.specs.Prelude.{if◌then◌else◌, not, ◌&&◌, ◌||◌, ◌==◌, nat_lt}
use Rattle.bus_base.specs.declared.Event.TheVariants as events
use Rattle.bus_base.specs.declared.ProcId.{ProcId}
use Rattle.cdb_codec.specs.Cdb.{command_of}
use Rattle.scenario.specs.Value.{ScenarioValue}
use Rattle.array_model.specs.Execution.{is_request_sense}
use Rattle.array_model.specs.Order.{choice}
use Rattle.array_model.specs.Processes.{Process, process_of, same_id}
use Rattle.array_model.specs.Steps.{step, settled_array_if, accept_step, accept_step_at, queue_step, with_guest}
use Rattle.array_model.specs.Steps.{process_count}
use Rattle.array_model.specs.Units.{RunningProcess, UnitState, Nexus, Array, is_held, unit_state_at, with_unit}
use Rattle.array_model.specs.Units.{with_current, has_no_current, unit_after_choice, units_after_choice, settled_array}
use Rattle.due_model.specs.RunSteps.{is_same_running, current_times_after}
use Rattle.array_model.proofs.SeatLookups.{found_target, found_unit, same_id_is}
use Rattle.array_model.proofs.SeatReplies.{id_self}

-- ---- each current process stays

abbrev is_kept : Option RunningProcess → Option RunningProcess → Bool
is_kept x y = has_no_current x || is_same_running x y

abbrev AreKept : List UnitState → List UnitState → Type 0
AreKept [] [] = Unit {0}
AreKept [] (v ∷ vs) = ⊥
AreKept (u ∷ us) [] = ⊥
AreKept (u ∷ us) (v ∷ vs) = (is_kept u.current v.current ≡ true) × AreKept us vs

same_now : (y : Bool) (now : ℕ) → (if y then now else now) ≡ now
same_now true now = refl
same_now false now = refl

time_twice : (x y z : Option RunningProcess) (t now : ℕ) → is_kept x y ≡ true
    → (if is_same_running y z then (if is_same_running x y then t else now) else now)
    ≡ (if is_same_running x z then t else now)
time_twice None y z t now k = same_now (is_same_running y z) now
time_twice (Some r) None z t now k = cc
time_twice (Some r) (Some q) None t now k = refl
time_twice (Some r) (Some q) (Some w) t now k =
    (λ i. if same_id q.process.id w.process.id then (if k i then t else now) else now)
    ∙ (λ i. if same_id (sym (same_id_is r.process.id q.process.id k) i) w.process.id then t else now)

pub twice : (us vs ws : List UnitState) (times : List ℕ) (now : ℕ) → AreKept us vs
    → current_times_after vs ws (current_times_after us vs times now) now ≡ current_times_after us ws times now
twice [] [] ws times now k = refl
twice [] (v ∷ vs) ws times now k = absurd k
twice (u ∷ us) [] ws times now k = absurd k
twice (u ∷ us) (v ∷ vs) [] times now k = refl
twice (u ∷ us) (v ∷ vs) (w ∷ ws) [] now k = refl
twice (u ∷ us) (v ∷ vs) (w ∷ ws) (t ∷ times) now k =
    λ i. time_twice u.current v.current w.current t now k.0 i ∷ twice us vs ws times now k.1 i

-- ---- a command arrives

abbrev AreCurrent : List UnitState → List UnitState → Type 0
AreCurrent [] [] = Unit {0}
AreCurrent [] (v ∷ vs) = ⊥
AreCurrent (u ∷ us) [] = ⊥
AreCurrent (u ∷ us) (v ∷ vs) = (v.current ≡ u.current) × AreCurrent us vs

current_self : (us : List UnitState) → AreCurrent us us
current_self [] = tt
current_self (u ∷ us) = (refl, current_self us)

kept_self : (x : Option RunningProcess) → is_kept x x ≡ true
kept_self None = refl
kept_self (Some r) = id_self r.process.id

chosen : (holds : List Nexus) (v : UnitState) (x : Option RunningProcess) → v.current ≡ x
    → is_kept x (unit_after_choice holds v).current ≡ true
chosen holds v None e = refl
chosen holds v (Some r) e = (λ i. is_kept (Some r)
    (if has_no_current (e i) && not (is_held holds v.target v.unit) then with_current v (choice v.pick v.waiting)
    else v).current) ∙ (λ i. is_kept (Some r) (e i)) ∙ kept_self (Some r)

choices_keep : (holds : List Nexus) (us vs : List UnitState) → AreCurrent us vs
    → AreKept us (units_after_choice holds vs)
choices_keep holds [] [] h = tt
choices_keep holds [] (v ∷ vs) h = absurd h
choices_keep holds (u ∷ us) [] h = absurd h
choices_keep holds (u ∷ us) (v ∷ vs) h = (chosen holds v u.current h.0, choices_keep holds us vs h.1)

with_current_unit : (us : List UnitState) (t n : ℕ) (u new : UnitState) → unit_state_at us t n ≡ Some u → new.target ≡ t
    → new.unit ≡ n → new.current ≡ u.current → AreCurrent us (with_unit us new)
with_current_unit [] t n u new found tt' nn same = cc
with_current_unit (v ∷ us) t n u new found target number same =
    go (λ k. with_current_unit us t n u new k target number same) (v.target == new.target && v.unit == new.unit) refl
  where
    go : (unit_state_at us t n ≡ Some u → AreCurrent us (with_unit us new))
        → (y : Bool) → (v.target == new.target && v.unit == new.unit) ≡ y
        → AreCurrent (v ∷ us) (if y then new ∷ us else v ∷ with_unit us new)
    go rest true e =
        let at : Some v ≡ Some u = (λ i. if sym e i then Some v else unit_state_at us t n)
        ∙ (λ i. if v.target == target i && v.unit == number i then Some v else unit_state_at us t n) ∙ found in
        let it : v ≡ u = cc in
        (same ∙ (λ i. (sym it i).current), current_self us)
    go rest false e =
        let at : unit_state_at us t n ≡ Some u = (λ i. if sym e i then Some v else unit_state_at us t n)
        ∙ (λ i. if v.target == target i && v.unit == number i then Some v else unit_state_at us t n) ∙ found in
        (refl, rest at)

settled_keeps : (a x b : Array) → AreCurrent a.units x.units → Some (settled_array x) ≡ Some b → AreKept a.units b.units
settled_keeps a x b h e =
    let same : settled_array x ≡ b = cc in
    subst (λ (z : Array). AreKept a.units z.units) same (choices_keep x.holds a.units x.units h)

pub arrival_keeps : (s : ScenarioValue) (a b : Array) (id : ProcId) → step s (events.Accept id) a ≡ Some b
    → AreKept a.units b.units
arrival_keeps s a b id e = go (process_of s id) e
  where
    go : (p : Option Process) → settled_array_if (accept_step a p) ≡ Some b → AreKept a.units b.units
    go None k = cc
    go (Some p) k = at (unit_state_at a.units p.target p.unit) refl k
      where
        at : (x : Option UnitState) → unit_state_at a.units p.target p.unit ≡ x
            → settled_array_if (accept_step_at a p x) ≡ Some b → AreKept a.units b.units
        at None f l = settled_keeps a (with_guest a p None) b (current_self a.units) l
        at (Some u) f l = sense (is_request_sense (command_of p.cdb)) l
          where
            room : (y : Bool) → settled_array_if
                (if y then Some (record a { units = with_unit a.units (record u { waiting = u.waiting ++ p ∷ [] }) })
                else None) ≡ Some b → AreKept a.units b.units
            room false m = cc
            room true m = settled_keeps a (record a {
              units = with_unit a.units (record u { waiting = u.waiting ++ p ∷ [] });
            }) b (with_current_unit a.units p.target p.unit u (record u { waiting = u.waiting ++ p ∷ [] }) f
                (found_target a.units p.target p.unit u f) (found_unit a.units p.target p.unit u f) refl) m

            sense : (y : Bool) → settled_array_if (if y then Some (with_guest a p None) else queue_step a p u) ≡ Some b
                → AreKept a.units b.units
            sense true m = settled_keeps a (with_guest a p None) b (current_self a.units) m
            sense false m = room (nat_lt (process_count u) u.depth) m

-- Where a process stands as its connection begins.
use Rattle.std.proofs.Common.{ℕ, ◌≡◌, Bool, true, false, List, [], ◌∷◌, ◌∙◌, refl, Option, Some, None}
use Rattle.std.specs.Prelude.{if◌then◌else◌, ◌&&◌, ◌||◌, ◌==◌, is_some}
use Rattle.bus_base.specs.declared.ProcId.{ProcId}
use Rattle.array_model.specs.Processes.{Process, same_id}
use Rattle.array_model.specs.Seats.{seat_of, guests_at, current_of, waits_in}
use Rattle.array_model.specs.Steps.{running_if, running_in, running_process, is_waiting, is_of_unit}
use Rattle.array_model.specs.Units.{RunningProcess, UnitState, Array, unit_state_at, guest_at}
use Rattle.array_model.proofs.SeatReplies.{id_self}
use Rattle.target_course.specs.scsi_device.specs.Heard.{is_new}
use Rattle.disk_target.specs.Standings.{is_inside, IsNoGuest}
use Rattle.std.proofs.lemmas.Bool.{not-true}
use Rattle.bus_base.proofs.Tests.{and_first, and_second, is_nothing, or_none_first, or_none_second}

-- ---- guests

none_here : (gs : List RunningProcess) (t n : ℕ) (id : ProcId) → guest_at gs id ≡ None
    → guest_at (guests_at gs t n) id ≡ None
none_here [] t n id h = refl
none_here (g ∷ gs) t n id h =
    go (λ k. none_here gs t n id k) (same_id g.process.id id) refl h (is_of_unit g.process t n)
  where
    go : (guest_at gs id ≡ None → guest_at (guests_at gs t n) id ≡ None) → (y : Bool) → same_id g.process.id id ≡ y
        → (if y then Some g else guest_at gs id) ≡ None
        → (z : Bool) → guest_at (if z then g ∷ guests_at gs t n else guests_at gs t n) id ≡ None
    go rest true e k z = cc
    go rest false e k true = (λ i. if e i then Some g else guest_at (guests_at gs t n) id) ∙ rest k
    go rest false e k false = rest k

-- ---- the unit

outside : (us : List UnitState) (t n : ℕ) (id : ProcId) → is_waiting us id ≡ false → running_in us id ≡ None
    → is_inside (unit_state_at us t n) id ≡ false
outside [] t n id w r = refl
outside (u ∷ us) t n id w r =
    go (λ k l. outside us t n id k l) (u.target == t && u.unit == n) (running_if u.current id) refl r
  where
    go : (is_waiting us id ≡ false → running_in us id ≡ None → is_inside (unit_state_at us t n) id ≡ false) → (y : Bool)
        → (x : Option RunningProcess) → running_if u.current id ≡ x → (if is_some x then x else running_in us id) ≡ None
        → is_inside (if y then Some u else unit_state_at us t n) id ≡ false
    go rest y (Some q) e k = cc
    go rest true None e k = (λ i. or_none_first (waits_in u.waiting id) (is_waiting us id) w i || is_some (e i))
    go rest false None e k = rest (or_none_second (waits_in u.waiting id) (is_waiting us id) w) k

runs_nowhere : (a : Array) (id : ProcId) → running_process a id ≡ None
    → (guest_at a.guests id ≡ None) × (running_in a.units id ≡ None)
runs_nowhere a id h = go (guest_at a.guests id) refl h
  where
    go : (x : Option RunningProcess) → guest_at a.guests id ≡ x
        → (if is_some x then x else running_in a.units id) ≡ None
        → (guest_at a.guests id ≡ None) × (running_in a.units id ≡ None)
    go None e k = (e, k)
    go (Some g) e k = cc

pub new_nowhere : (a : Array) (p : Process) (t n : ℕ) → is_new a p ≡ true → IsNoGuest (seat_of a t n) p false
new_nowhere a p t n h =
    let waits = not-true (is_waiting a.units p.id) (and_first _ _ (and_first _ _ h)) in
    let runs = runs_nowhere a p.id (is_nothing (running_process a p.id) (and_second _ _ (and_first _ _ h))) in
    record { none = none_here a.guests t n p.id runs.0; inside_is = outside a.units t n p.id waits runs.1 }

-- A current process that is no guest.
pub current_inside : (a : Array) (p : Process) (t n : ℕ) (r : RunningProcess) → guest_at a.guests p.id ≡ None
    → current_of (unit_state_at a.units t n) ≡ Some r → r.process ≡ p → IsNoGuest (seat_of a t n) p true
current_inside a p t n r none e same =
    record { none = none_here a.guests t n p.id none; inside_is = go (unit_state_at a.units t n) e }
  where
    or_true : (x : Bool) → (x || true) ≡ true
    or_true true = refl
    or_true false = refl

    go : (x : Option UnitState) → current_of x ≡ Some r → is_inside x p.id ≡ true
    go None k = cc
    go (Some u) k =
        (λ i. waits_in u.waiting p.id || is_some (running_if (k i) p.id))
        ∙ (λ i. waits_in u.waiting p.id || is_some (if same_id (same i).id p.id then Some r else None))
        ∙ (λ i. waits_in u.waiting p.id || is_some (if id_self p.id i then Some r else None))
        ∙ or_true (waits_in u.waiting p.id)

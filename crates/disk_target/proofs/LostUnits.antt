-- A process that is lost in the opening of its connection stands nowhere, and its loss changes nothing of the units.
use Rattle.std.proofs.Common.{ℕ, zero, suc, ◌≡◌, ◌<◌, ◌∙◌, Bool, true, false, List, [], ◌∷◌, refl, sym, subst, set}
use Rattle.std.proofs.Common.{get_or, Option, Some, None}
use Rattle.std.specs.Prelude.{if◌then◌else◌, ◌||◌, is_some}
use Rattle.bus_base.specs.declared.Event.TheVariants as events
use Rattle.bus_base.specs.declared.ProcId.{ProcId}
use Rattle.bus_trace.specs.declared.Row.{Row}
use Rattle.scenario.specs.Value.{ScenarioValue}
use Rattle.array_model.specs.Order.{without_process}
use Rattle.array_model.specs.Processes.{Process, same_id}
use Rattle.array_model.specs.Seats
use Rattle.array_model.specs.Seats.{Seat, seat_of, settled_seat, waits_in}
use Rattle.array_model.specs.SoundArray.{HasSeats, IsOwn}
use Rattle.array_model.specs.Steps.{has_ended, running_if, unit_without}
use Rattle.array_model.specs.Units.{Array, RunningProcess, UnitState, guest_at, without_guest}
use Rattle.due_model.specs.Allowed.{allowed}
use Rattle.due_model.specs.RunState.{RunState, array_of, or_start}
use Rattle.due_model.specs.RunSteps.{run_state, events_of_row}
use Rattle.due_model.specs.Wants.{since_of}
use Rattle.target_course.specs.scsi_device.specs.Heard.{is_new}
use Rattle.target_course.specs.target_units.specs.Absent.{nothing_kept}
use Rattle.target_course.specs.target_units.specs.Seated.{seat_time}
use Rattle.target_course.specs.target_units.specs.Units.{UnitsState, AreUnitsAfter, AreUnitsOf, IsStep, IsUnitOf}
use Rattle.target_course.specs.target_units.specs.Units.{spare_of, unit_in}
use Rattle.target_course.specs.target_units.specs.declared.logical.LogicalUnit.{LogicalUnit}
use Rattle.target_course.specs.target_units.specs.declared.logical.LogicalUnit.TheVariants as kinds
use Rattle.target_course.specs.target_units.proofs.UnitSteps.{left_kept, loss_left, one_goes, other_place, unit_goes}
use Rattle.target_course.specs.target_units.proofs.UnitSteps.{unit_stays}
use Rattle.disk_target.specs.Processes.{AreKeptOf}
use Rattle.disk_target.specs.Standings.{IsNoGuest, is_inside}
use Rattle.disk_target.proofs.Beginnings.{new_nowhere}
use Rattle.disk_target.proofs.UnitRows.{by_one, by_row, some_after}

waiting_kept : (waiting : List Process) (id : ProcId) → waits_in waiting id ≡ false
    → without_process waiting id ≡ waiting
waiting_kept [] id e = refl
waiting_kept (p ∷ waiting) id e = go (same_id p.id id) refl e (λ f. waiting_kept waiting id f)
  where
    go : (y : Bool) → same_id p.id id ≡ y → (y || waits_in waiting id) ≡ false
        → (waits_in waiting id ≡ false → without_process waiting id ≡ waiting)
        → (if y then without_process waiting id else p ∷ without_process waiting id) ≡ p ∷ waiting
    go true f g rest = absurd cc
    go false f g rest = λ i. p ∷ rest g i

guests_kept : (guests : List RunningProcess) (id : ProcId) → guest_at guests id ≡ None
    → without_guest guests id ≡ guests
guests_kept [] id e = refl
guests_kept (g ∷ guests) id e = go (same_id g.process.id id) refl e (λ f. guests_kept guests id f)
  where
    go : (y : Bool) → same_id g.process.id id ≡ y → (if y then Some g else guest_at guests id) ≡ None
        → (guest_at guests id ≡ None → without_guest guests id ≡ guests)
        → (if y then without_guest guests id else g ∷ without_guest guests id) ≡ g ∷ guests
    go true f h rest = absurd cc
    go false f h rest = λ i. g ∷ rest h i

unit_kept_as : (x : Option UnitState) (id : ProcId) → is_inside x id ≡ false
    → Seats.unit_mapped (λ u. unit_without u id) x ≡ x
unit_kept_as None id e = refl
unit_kept_as (Some u) id e = go (waits_in u.waiting id) refl (is_some (running_if u.current id)) refl e
  where
    go : (y : Bool) → waits_in u.waiting id ≡ y → (z : Bool) → is_some (running_if u.current id) ≡ z → (y || z) ≡ false
        → Some (unit_without u id) ≡ Some u
    go true f z g h = absurd cc
    go false f true g h = absurd cc
    go false f false g h =
        λ i. Some (record u { waiting = waiting_kept u.waiting id f i; current = if g i then None else u.current })

seat_kept_as : (seat : Seat) (p : Process) → IsNoGuest seat p false → Seats.seat_without seat p.id ≡ seat
seat_kept_as seat p h = λ i. record seat {
  unit = unit_kept_as seat.unit p.id h.inside_is i;
  guests = guests_kept seat.guests p.id h.none i;
}

lost_seat : (s : ScenarioValue) (a b : Array) (p : Process) (dev n : ℕ) → IsStep s (events.Lost p.id) a b
    → IsOwn s dev n p → IsNoGuest (seat_of a dev n) p false → seat_of b dev n ≡ seat_of a dev n
lost_seat s a b p dev n st own h =
    let left = loss_left s a b p dev n st own in
    sym left.settles ∙ (λ i. settled_seat (go (has_ended a p.id) left.seat left.is i)) ∙ st.sound.settled dev n
  where
    go : (y : Bool) (q : Seat) → Seats.seat_after_loss y p.id (seat_of a dev n) ≡ Some q → q ≡ seat_of a dev n
    go true q e = absurd cc
    go false q e =
        let same : Seats.seat_without (seat_of a dev n) p.id ≡ q = cc in
        sym same ∙ seat_kept_as (seat_of a dev n) p h

-- ---- so nothing changes of the units

set_same : (xs : List LogicalUnit) (n : ℕ) (d : LogicalUnit) → set xs n (get_or xs n d) ≡ xs
set_same [] n d = refl
set_same (x ∷ xs) zero d = refl
set_same (x ∷ xs) (suc n) d = λ i. x ∷ set_same xs n d i

lost_stays :
    (s : ScenarioValue) (a b : Array) (times : List ℕ) (now : ℕ) (p : Process) (dev n : ℕ) (units : List LogicalUnit)
    → n < 8 → IsStep s (events.Lost p.id) a b → IsOwn s dev n p → IsNoGuest (seat_of a dev n) p false
    → AreUnitsOf s a times dev units → AreUnitsAfter s a b times now dev units
lost_stays s a b times now p dev n units small st own none h =
    let same : seat_of b dev n ≡ seat_of a dev n = lost_seat s a b p dev n st own none in
    let time : ℕ = since_of a.units times dev n in
    let u : LogicalUnit = unit_in units n in
    let there = unit_goes s (events.Lost p.id) a b times now dev n u u st h.timed (h.each n small)
    (subst (λ (q : Seat). IsUnitOf s.hosts q (seat_time (seat_of a dev n) q time now) u)
    (sym same) (unit_stays s.hosts (seat_of a dev n) time now u (h.each n small))) in
    subst (λ (xs : List LogicalUnit). AreUnitsAfter s a b times now dev xs)
    (set_same units n (kinds.Absent nothing_kept))
    (one_goes s (events.Lost p.id) a b times now dev n units u small st h (λ m e. other_place s p dev n m own e) there
    (left_kept s (events.Lost p.id) a b dev n (spare_of u) st (h.room.left n small)))

pub lost_row : (s : ScenarioValue) (rows : List Row) (row : Row) (p : Process) (v : UnitsState) → HasSeats s
    → allowed s (row ∷ rows) ≡ true → events_of_row s rows row ≡ events.Lost p.id ∷ [] → IsOwn s v.dev p.unit p
    → p.unit < 8 → is_new (array_of s (run_state s rows)) p ≡ true → AreKeptOf s rows v → AreKeptOf s (row ∷ rows) v
lost_row s rows row p v seats permitted is own small new h =
    let k : RunState = run_state s rows in
    by_row s rows row row.time (events.Lost p.id ∷ []) v refl is (by_one s k.array k.current_since row.time v v
    (events.Lost p.id) seats h (some_after s rows row (events.Lost p.id ∷ []) permitted is)
    (λ b st. lost_stays s (or_start s k.array) b k.current_since row.time p v.dev p.unit v.units small st own
    (new_nowhere (or_start s k.array) p v.dev p.unit new) h.units))

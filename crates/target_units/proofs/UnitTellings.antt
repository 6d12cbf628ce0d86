-- What the units of a target tell is what the array has.
use Rattle.std.proofs.Common.{ℕ, ◌≡◌, ◌<◌, ◌+◌, Bool, true, false, List, [], ◌∷◌, ◌∙◌, refl, sym, Option, Some, None}
use Rattle.std.specs.Prelude.{if◌then◌else◌, is_some}
use Rattle.scenario.specs.declared.value.HostDef.{HostDef}
use Rattle.scenario.specs.Value.{ScenarioValue}
use Rattle.array_model.specs.Execution.{execution}
use Rattle.array_model.specs.Processes.{Process}
use Rattle.array_model.specs.Units.{RunningProcess, UnitState, Array, unit_state_at, is_held}
use Rattle.array_model.specs.Steps.{context_at}
use Rattle.array_model.specs.Seats
use Rattle.array_model.specs.Seats.{Seat, seat_of}
use Rattle.array_model.specs.SoundArray.{IsSound, IsOwnRunning}
use Rattle.due_model.specs.dialogue_model.specs.Wants as wants
use Rattle.due_model.specs.Wants as due
use Rattle.due_model.specs.Tasks.{room_of, size_of, reply_now}
use Rattle.target_units.specs.Readies.{ready_unit}
use Rattle.target_units.specs.declared.logical.LogicalUnit.{LogicalUnit}
use Rattle.target_units.specs.declared.logical.LogicalUnit.TheVariants as kinds
use Rattle.target_units.specs.Seated.{room_at, taken_in}
use Rattle.target_units.specs.Units.{IsUnitOf, room_if, first_unit, is_before, taken_by}
use Rattle.target_units.proofs.Tellings.{context_is, none_taken}
use Rattle.array_model.proofs.SeatSteps.{held_at}
use Rattle.array_model.proofs.SeatLookups.{found_target, found_unit}
use Rattle.array_model.proofs.SeatOwn.{own_found}

-- ---- a unit that is found

held_is : (s : ScenarioValue) (a : Array) (dev n : ℕ) → IsSound s a
    → is_held a.holds dev n ≡ Seats.is_any_held (seat_of a dev n).hold
held_is s a dev n sound = held_at a.holds dev n sound.holds

-- ---- room

pub room_is : (s : ScenarioValue) (a : Array) (dev n : ℕ) → IsSound s a
    → room_if (Seats.is_any_held (seat_of a dev n).hold) (unit_state_at a.units dev n)
    ≡ room_of a (unit_state_at a.units dev n)
room_is s a dev n sound = go (unit_state_at a.units dev n) refl
  where
    go : (x : Option UnitState) → unit_state_at a.units dev n ≡ x
        → room_if (Seats.is_any_held (seat_of a dev n).hold) x ≡ room_of a x
    go None e = refl
    go (Some u) e =
        let held : Seats.is_any_held (seat_of a dev n).hold ≡ is_held a.holds u.target u.unit =
        sym (held_is s a dev n sound)
        ∙ (λ i. is_held a.holds (sym (found_target a.units dev n u e) i) (sym (found_unit a.units dev n u e) i)) in
        λ i. Some (room_at (held i) u)

-- ---- what is ready first

pub ready_is : (s : ScenarioValue) (a : Array) (times : List ℕ) (dev seek n : ℕ) → IsSound s a
    → ready_unit (wants.ready_in (Seats.is_any_held (seat_of a dev n).hold) (Seats.current_of (seat_of a dev n).unit)
    (due.since_of a.units times dev n + seek)) ≡ ready_unit (due.ready_at a times seek dev n)
ready_is s a times dev seek n sound = λ i. ready_unit (wants.ready_in (sym (held_is s a dev n sound) i)
    (Seats.current_of (unit_state_at a.units dev n)) (due.since_of a.units times dev n + seek))

pub own_number : (s : ScenarioValue) (a : Array) (dev n : ℕ) → IsSound s a
    → (r : RunningProcess) → Seats.current_of (seat_of a dev n).unit ≡ Some r → r.process.unit ≡ n
own_number s a dev n sound r e = go (unit_state_at a.units dev n) refl e
  where
    go : (x : Option UnitState) → unit_state_at a.units dev n ≡ x → Seats.current_of x ≡ Some r → r.process.unit ≡ n
    go None f k = cc
    go (Some u) f k =
        running u.current (own_found s a.units dev n u sound.units f).current k ∙ found_unit a.units dev n u f
      where
        running : (c : Option RunningProcess) → IsOwnRunning s u.target u.unit c → c ≡ Some r → r.process.unit ≡ u.unit
        running None own m = cc
        running (Some q) own m = let same : q ≡ r = cc in (λ i. (sym same i).process.unit) ∙ own.unit_is

before_same : (x y : wants.Ready) → wants.is_ready_before x y ≡ is_before (record {
  time = x.time;
  initiator = x.process.initiator;
  unit = x.process.unit;
}) (record { time = y.time; initiator = y.process.initiator; unit = y.process.unit })
before_same x y = refl

pub first_same :
    (x y : Option wants.Ready) → first_unit (ready_unit x) (ready_unit y) ≡ ready_unit (wants.first_ready x y)
first_same None y = refl
first_same (Some x) None = refl
first_same (Some x) (Some y) = go (wants.is_ready_before y x)
  where
    go : (z : Bool)
        → (if z then ready_unit (Some y) else ready_unit (Some x)) ≡ ready_unit (if z then Some y else Some x)
    go true = refl
    go false = refl

-- ---- what a command would answer

pub context_same : (a : Array) (dev n from : ℕ)
    → context_at a (record { initiator = from; target = dev; unit = n }) (unit_state_at a.units dev n)
    ≡ Seats.context_of (seat_of a dev n) from
context_same a dev n from = go (unit_state_at a.units dev n)
  where
    go : (x : Option UnitState) → context_at a (record { initiator = from; target = dev; unit = n }) x ≡ record {
      present = is_some x;
      contents = Seats.contents_of x;
      stored = (seat_of a dev n).senses from;
      attention = (seat_of a dev n).attentions from;
    }
    go None = refl
    go (Some u) = refl

pub size_same : (x : Option UnitState) → (Seats.contents_of x).size ≡ size_of x
size_same None = refl
size_same (Some u) = refl

-- The first of eight.
pub eight_first : (a b c d e f g h : Option wants.Ready) → first_unit (ready_unit a)
    (first_unit (ready_unit b) (first_unit (ready_unit c) (first_unit (ready_unit d) (first_unit
    (ready_unit e) (first_unit (ready_unit f) (first_unit (ready_unit g) (first_unit (ready_unit h) None)))))))
    ≡ ready_unit (wants.ready_by (a ∷ b ∷ c ∷ d ∷ e ∷ f ∷ g ∷ h ∷ []))
eight_first a b c d e f g h =
    let r8 : first_unit (ready_unit h) None ≡ ready_unit (wants.ready_by (h ∷ [])) = first_same h None in
    let r7 : first_unit (ready_unit g) (first_unit (ready_unit h) None) ≡ ready_unit (wants.ready_by (g ∷ h ∷ [])) =
    (λ i. first_unit (ready_unit g) (r8 i)) ∙ first_same g (wants.ready_by (h ∷ [])) in
    let r6 = (λ i. first_unit (ready_unit f) (r7 i)) ∙ first_same f (wants.ready_by (g ∷ h ∷ [])) in
    let r5 = (λ i. first_unit (ready_unit e) (r6 i)) ∙ first_same e (wants.ready_by (f ∷ g ∷ h ∷ [])) in
    let r4 = (λ i. first_unit (ready_unit d) (r5 i)) ∙ first_same d (wants.ready_by (e ∷ f ∷ g ∷ h ∷ [])) in
    let r3 = (λ i. first_unit (ready_unit c) (r4 i)) ∙ first_same c (wants.ready_by (d ∷ e ∷ f ∷ g ∷ h ∷ [])) in
    let r2 = (λ i. first_unit (ready_unit b) (r3 i)) ∙ first_same b (wants.ready_by (c ∷ d ∷ e ∷ f ∷ g ∷ h ∷ [])) in
    (λ i. first_unit (ready_unit a) (r2 i)) ∙ first_same a (wants.ready_by (b ∷ c ∷ d ∷ e ∷ f ∷ g ∷ h ∷ []))

pub reply_same : (a : Array) (dev n from : ℕ) (cdb : List ℕ) (p : Process)
    → p.target ≡ dev → p.unit ≡ n → p.initiator ≡ from → p.cdb ≡ cdb
    → (execution (Seats.context_of (seat_of a dev n) from) cdb p.sent).reply ≡ reply_now a p
reply_same a dev n from cdb p target unit initiator block = (λ i.
    (execution (Seats.context_of (seat_of a (sym target i) (sym unit i)) (sym initiator i)) (sym block i) p.sent).reply)
    ∙ (λ i. (execution (sym (context_same a p.target p.unit p.initiator) i) p.cdb p.sent).reply)

-- What a command would take.
pub taken_seen : (hosts : List HostDef) (seat : Seat) (time : ℕ) (u : LogicalUnit) (from : ℕ) (cdb : List ℕ)
    → from < 8 → Seats.is_initiator hosts from ≡ true → IsUnitOf hosts seat time u
    → taken_by u from cdb ≡ taken_in (Seats.context_of seat from) cdb
taken_seen hosts seat time (kinds.There v) from cdb lt host h =
    λ i. taken_in (sym (context_is hosts seat time v from lt host h) i) cdb
taken_seen hosts seat time (kinds.Absent v) from cdb lt host h = none_taken seat from cdb h.none

-- The units of a target after each event.
use Rattle.std.proofs.Common.{ℕ, zero, suc, ◌≡◌, ◌<◌, ◌≤◌, Bool, true, false, List, [], ◌∷◌, ◌∙◌, refl, sym, subst}
use Rattle.std.proofs.Common.{length, length-set, get_or, set, arith, Option, Some, None}
use Rattle.std.specs.Prelude.{if◌then◌else◌, ◌&&◌, ◌||◌, ◌==◌, not, is_some, is_none}
use Rattle.std.proofs.lemmas.Bool.{eqb-true, eqb-false}
use Rattle.std.proofs.lemmas.List.{get_or-set_same, get_or-set_other}
use Rattle.bus_base.specs.declared.AbortKind.{AbortKind}
use Rattle.bus_base.specs.declared.AbortKind.TheVariants as aborts
use Rattle.bus_base.specs.declared.Event.{Event}
use Rattle.bus_base.specs.declared.Event.TheVariants as events
use Rattle.scenario.specs.declared.value.HostDef.{HostDef}
use Rattle.scenario.specs.Lookups.{unit_of}
use Rattle.scenario.specs.Value.{ScenarioValue}
use Rattle.cdb_codec.specs.declared.sense.TheConstants.{ABORTED_COMMAND}
use Rattle.array_model.specs.Execution.{Reply, execution, check_condition, sense_of}
use Rattle.array_model.specs.Processes.{Process, process_of, same_id}
use Rattle.array_model.specs.Units.{RunningProcess, UnitState, Array, unit_state_at, guest_at}
use Rattle.array_model.specs.Steps.{step, has_ended, running_if}
use Rattle.array_model.specs.Seats
use Rattle.array_model.specs.Seats.{Seat, seat_of, seat_if, settled_seat, settled_seat_if, current_of, is_elsewhere}
use Rattle.array_model.specs.Seats.{is_of_other_unit}
use Rattle.array_model.specs.SoundArray.{IsSound, HasSeats, IsOwn, IsOwnRunning}
use Rattle.array_model.proofs.SeatLaws as laws
use Rattle.array_model.proofs.SeatReplies.{id_self}
use Rattle.array_model.proofs.SeatLookups.{same_id_is}
use Rattle.array_model.proofs.SeatOwn.{own_found}
use Rattle.due_model.specs.Wants.{since_of}
use Rattle.due_model.specs.RunSteps.{is_same_running, current_times_after}
use Rattle.target_units.specs.declared.logical.LogicalUnit.{LogicalUnit}
use Rattle.target_units.specs.declared.logical.LogicalUnit.TheVariants as kinds
use Rattle.target_units.specs.Seated.{SeatedState, IsAtSeat, IsSince, seat_time}
use Rattle.target_units.specs.Rooms.{blocks_left_at}
use Rattle.target_units.specs.Units.{IsUnitOf, AreUnitsOf, AreUnitsAfter, IsStep, unit_in, unit_after_reset, is_of_one}
use Rattle.target_units.specs.Units.{no_unit, contents_in, state_contents, spare_of, HaveRoom}
use Rattle.target_units.proofs.AbsentSteps as absent
use Rattle.target_units.proofs.SeatSteps.{resets}
use Rattle.target_units.proofs.Rooms.{kinds_after, left_at_less, lines_after}
use Rattle.target_units.proofs.UnitTimes.{AreSame, IsLater, step_later, none_after, times_after, since_after}
use Rattle.bus_base.proofs.Tests.{and_false}

-- ---- one unit

pub later : (s : ScenarioValue) (event : Event) (a b : Array) → IsStep s event a b → IsLater a b
later s event a b st = step_later s a b event st.step_is

same_units : (s : ScenarioValue) (event : Event) (a b : Array) → IsStep s event a b → AreSame a.units b.units
same_units s event a b st = (later s event a b st).units

none_stays : (s : ScenarioValue) (event : Event) (a b : Array) (dev n : ℕ) → IsStep s event a b
    → (seat_of a dev n).unit ≡ None → (seat_of b dev n).unit ≡ None
none_stays s event a b dev n st h = none_after a.units b.units dev n (same_units s event a b st) h

-- Its time is that beside the units of the array.
seated_goes : (s : ScenarioValue) (event : Event) (a b : Array) (times : List ℕ) (now dev n : ℕ) (v w : SeatedState)
    → IsStep s event a b → length times ≡ length a.units
    → IsAtSeat s.hosts (seat_of a dev n) (since_of a.units times dev n) v → IsAtSeat s.hosts
    (seat_of b dev n) (seat_time (seat_of a dev n) (seat_of b dev n) (since_of a.units times dev n) now) w
    → IsAtSeat s.hosts (seat_of b dev n) (since_of b.units (current_times_after a.units b.units times now) dev n) w
seated_goes s event a b times now dev n v w st timed h k = subst (λ (t : ℕ). IsAtSeat s.hosts (seat_of b dev n) t w)
    (sym (since_after a.units b.units times now dev n h.1 (same_units s event a b st) timed h.2.kept.there)) k

pub unit_goes : (s : ScenarioValue) (event : Event) (a b : Array) (times : List ℕ) (now dev n : ℕ) (u w : LogicalUnit)
    → IsStep s event a b → length times ≡ length a.units
    → IsUnitOf s.hosts (seat_of a dev n) (since_of a.units times dev n) u → IsUnitOf s.hosts
    (seat_of b dev n) (seat_time (seat_of a dev n) (seat_of b dev n) (since_of a.units times dev n) now) w
    → IsUnitOf s.hosts (seat_of b dev n) (since_of b.units (current_times_after a.units b.units times now) dev n) w
unit_goes s event a b times now dev n u (kinds.Absent w) st timed h k = k
unit_goes s event a b times now dev n (kinds.There v) (kinds.There w) st timed h k =
    seated_goes s event a b times now dev n v w st timed h k
unit_goes s event a b times now dev n (kinds.Absent v) (kinds.There w) st timed h k =
    let bad : None ≡ Some k.1 = sym (none_stays s event a b dev n st h.none) ∙ k.2.kept.there in
    cc

-- At a seat that stays.
stays : (hosts : List HostDef) (seat : Seat) (time now : ℕ) (v : SeatedState) → IsAtSeat hosts seat time v
    → IsAtSeat hosts seat (seat_time seat seat time now) v
stays hosts seat time now v h = (
  h.0,
  h.1,
  record {
    kept = h.2.kept;
    queued = h.2.queued;
    pick = h.2.pick;
    reply = h.2.reply;
    since = subst (λ (t : ℕ). IsSince h.1.current t v.since)
        (λ i. if is_same_running (current_of (sym h.2.kept.there i)) (current_of (sym h.2.kept.there i)) then time
        else now) (go h.1.current h.2.since);
  },
)
  where
    go : (r : Option RunningProcess) → IsSince r time v.since
        → IsSince r (if is_same_running r r then time else now) v.since
    go None k = tt
    go (Some r) k = k ∙ (λ i. if sym (id_self r.process.id) i then time else now)

pub unit_stays : (hosts : List HostDef) (seat : Seat) (time now : ℕ) (u : LogicalUnit) → IsUnitOf hosts seat time u
    → IsUnitOf hosts seat (seat_time seat seat time now) u
unit_stays hosts seat time now (kinds.There v) h = stays hosts seat time now v h
unit_stays hosts seat time now (kinds.Absent v) h = h

elsewhere_unit : (s : ScenarioValue) (event : Event) (a b : Array) (times : List ℕ) (now dev n : ℕ) (u : LogicalUnit)
    → IsStep s event a b → length times ≡ length a.units → is_elsewhere s event dev n ≡ true
    → IsUnitOf s.hosts (seat_of a dev n) (since_of a.units times dev n) u
    → IsUnitOf s.hosts (seat_of b dev n) (since_of b.units (current_times_after a.units b.units times now) dev n) u
elsewhere_unit s event a b times now dev n u st timed o h =
    let same : seat_of b dev n ≡ seat_of a dev n = laws.other_law s a b event dev n st.seats st.sound o st.step_is in
    unit_goes s event a b times now dev n u u st timed h
    (subst (λ (q : Seat). IsUnitOf s.hosts q (seat_time (seat_of a dev n) q (since_of a.units times dev n) now) u)
    (sym same) (unit_stays s.hosts (seat_of a dev n) (since_of a.units times dev n) now u h))

-- ---- the memory for what is still written

pub left_kept : (s : ScenarioValue) (event : Event) (a b : Array) (dev n m : ℕ)
    → IsStep s event a b → blocks_left_at a.replies s (unit_of s dev n) ≤ m
    → blocks_left_at b.replies s (unit_of s dev n) ≤ m
left_kept s event a b dev n m st k =
    let less = left_at_less a.replies b.replies (later s event a b st).replies s (unit_of s dev n) in
    omega (arith, less, k)

room_goes : (s : ScenarioValue) (event : Event) (a b : Array) (dev : ℕ) (units last : List LogicalUnit)
    → IsStep s event a b → HaveRoom s a dev units
    → ((n : ℕ) → n < 8 → blocks_left_at b.replies s (unit_of s dev n) ≤ spare_of (unit_in last n))
    → HaveRoom s b dev last
room_goes s event a b dev units last st room left = record {
  fits = room.fits;
  target = room.target;
  lines = lines_after s a b (later s event a b st) room.lines;
  kinds = kinds_after s a b (later s event a b st) room.kinds;
  left = left;
}

-- ---- all of them

timed_after : (s : ScenarioValue) (event : Event) (a b : Array) (times : List ℕ) (now : ℕ) → IsStep s event a b
    → length times ≡ length a.units → length (current_times_after a.units b.units times now) ≡ length b.units
timed_after s event a b times now st timed = times_after a.units b.units times now (same_units s event a b st) timed

pub all_stay :
    (s : ScenarioValue) (event : Event) (a b : Array) (times : List ℕ) (now dev : ℕ) (units : List LogicalUnit)
    → IsStep s event a b → AreUnitsOf s a times dev units → ((n : ℕ) → n < 8 → is_elsewhere s event dev n ≡ true)
    → AreUnitsAfter s a b times now dev units
all_stay s event a b times now dev units st h o = record {
  timed = timed_after s event a b times now st h.timed;
  eight = h.eight;
  each = λ n lt. elsewhere_unit s event a b times now dev n (unit_in units n) st h.timed (o n lt) (h.each n lt);
  room = room_goes s event a b dev units units st h.room
      (λ n lt. left_kept s event a b dev n (spare_of (unit_in units n)) st (h.room.left n lt));
}

-- One of them becomes this one.
pub one_goes : (s : ScenarioValue) (event : Event) (a b : Array) (times : List ℕ)
    (now dev n : ℕ) (units : List LogicalUnit) (x : LogicalUnit) → n < 8 → IsStep s event a b
    → AreUnitsOf s a times dev units → ((m : ℕ) → (n == m) ≡ false → is_elsewhere s event dev m ≡ true)
    → IsUnitOf s.hosts (seat_of b dev n) (since_of b.units (current_times_after a.units b.units times now) dev n) x
    → blocks_left_at b.replies s (unit_of s dev n) ≤ spare_of x
    → AreUnitsAfter s a b times now dev (set units n x)
one_goes s event a b times now dev n units x lt st h o k left = record {
  timed = timed_after s event a b times now st h.timed;
  eight = length-set units n x ∙ h.eight;
  each = λ m below. go m below (n == m) refl;
  room = room_goes s event a b dev units (set units n x) st h.room (λ m below. room_of m below (n == m) refl);
}
  where
    room_of : (m : ℕ) → m < 8 → (y : Bool) → (n == m) ≡ y
        → blocks_left_at b.replies s (unit_of s dev m) ≤ spare_of (unit_in (set units n x) m)
    room_of m below true e =
        let same : n ≡ m = eqb-true n m e in
        let here : get_or (set units n x) n no_unit ≡ x = get_or-set_same units n x no_unit
        (omega (arith, h.eight, lt)) in
        subst (λ (j : ℕ). blocks_left_at b.replies s (unit_of s dev j) ≤ spare_of (unit_in (set units n x) j))
        same (subst (λ (z : LogicalUnit). blocks_left_at b.replies s (unit_of s dev n) ≤ spare_of z)
        (sym here) left)
    room_of m below false e =
        let there : get_or (set units n x) m no_unit ≡ get_or units m no_unit = get_or-set_other units n m x no_unit
        (λ f. eqb-false n m e (sym f)) in
        subst (λ (z : LogicalUnit). blocks_left_at b.replies s (unit_of s dev m) ≤ spare_of z) (sym there)
        (left_kept s event a b dev m (spare_of (unit_in units m)) st (h.room.left m below))

    go : (m : ℕ) → m < 8 → (y : Bool) → (n == m) ≡ y
        → IsUnitOf s.hosts (seat_of b dev m) (since_of b.units (current_times_after a.units b.units times now) dev m)
        (unit_in (set units n x) m)
    go m below true e =
        let same : n ≡ m = eqb-true n m e in
        let here : get_or (set units n x) n no_unit ≡ x = get_or-set_same units n x no_unit
        (omega (arith, h.eight, lt)) in
        subst (λ (j : ℕ). IsUnitOf s.hosts (seat_of b dev j)
        (since_of b.units (current_times_after a.units b.units times now) dev j) (unit_in (set units n x) j)) same
        (subst (λ (z : LogicalUnit). IsUnitOf s.hosts (seat_of b dev n)
        (since_of b.units (current_times_after a.units b.units times now) dev n) z) (sym here) k)
    go m below false e =
        let there : get_or (set units n x) m no_unit ≡ get_or units m no_unit = get_or-set_other units n m x no_unit
        (λ f. eqb-false n m e (sym f)) in
        subst (λ (z : LogicalUnit). IsUnitOf s.hosts (seat_of b dev m)
        (since_of b.units (current_times_after a.units b.units times now) dev m) z) (sym there)
        (elsewhere_unit s event a b times now dev m (unit_in units m) st h.timed (o m e) (h.each m below))

-- ---- the seat of a process after its event

-- What is left of a seat, before the choice.
pub record IsLeft (x : Option Seat) (q : Seat) : Type 0 where
  pub seat : Seat
  pub is : x ≡ Some seat
  pub settles : settled_seat seat ≡ q

left_of : (x : Option Seat) (q : Seat) → Some q ≡ settled_seat_if x → IsLeft x q
left_of None q h = cc
left_of (Some seat) q h = let same : settled_seat seat ≡ q = cc in record { seat = seat; is = refl; settles = same }

at_place : (s : ScenarioValue) (event : Event) (a b : Array) (p : Process) (dev n : ℕ) (f : Seat → Option Seat)
    → IsStep s event a b → IsOwn s dev n p
    → seat_if (step s event a) p.target p.unit ≡ settled_seat_if (f (seat_of a p.target p.unit))
    → IsLeft (f (seat_of a dev n)) (seat_of b dev n)
at_place s event a b p dev n f st own h =
    left_of (f (seat_of a dev n)) (seat_of b dev n)
    ((λ i. seat_if (sym st.step_is i) dev n)
    ∙ (λ i. seat_if (step s event a) (sym own.target_is i) (sym own.unit_is i))
    ∙ h
    ∙ (λ i. settled_seat_if (f (seat_of a (own.target_is i) (own.unit_is i)))))

pub accept_left : (s : ScenarioValue) (a b : Array) (p : Process) (dev n : ℕ) → IsStep s (events.Accept p.id) a b
    → IsOwn s dev n p → IsLeft (Seats.seat_after_accept p (seat_of a dev n)) (seat_of b dev n)
accept_left s a b p dev n st own = at_place s (events.Accept p.id) a b p dev n (λ q. Seats.seat_after_accept p q) st own
    (laws.accept_law s a p st.seats st.sound own.is)

pub refuse_left : (s : ScenarioValue) (a b : Array) (p : Process) (dev n : ℕ) → IsStep s (events.Refuse p.id) a b
    → IsOwn s dev n p → IsLeft (Seats.seat_after_refuse p (seat_of a dev n)) (seat_of b dev n)
refuse_left s a b p dev n st own = at_place s (events.Refuse p.id) a b p dev n (λ q. Seats.seat_after_refuse p q) st own
    (laws.refuse_law s a p st.seats st.sound own.is)

pub run_left : (s : ScenarioValue) (a b : Array) (p : Process) (dev n : ℕ) → IsStep s (events.Run p.id) a b
    → IsOwn s dev n p → IsLeft (Seats.seat_after_run p.id (seat_of a dev n)) (seat_of b dev n)
run_left s a b p dev n st own = at_place s (events.Run p.id) a b p dev n (λ q. Seats.seat_after_run p.id q) st own
    (laws.run_law s a p st.seats st.sound own.is)

pub fail_left : (s : ScenarioValue) (a b : Array) (p : Process) (code dev n : ℕ)
    → IsStep s (events.Fail p.id code) a b → IsOwn s dev n p
    → IsLeft (Seats.seat_after_failure (has_ended a p.id) p (check_condition (sense_of ABORTED_COMMAND code 0x00))
    (seat_of a dev n)) (seat_of b dev n)
fail_left s a b p code dev n st own = at_place s (events.Fail p.id code) a b p dev n
    (λ q. Seats.seat_after_failure (has_ended a p.id) p (check_condition (sense_of ABORTED_COMMAND code 0x00)) q) st own
    (laws.fail_law s a p code st.seats st.sound own.is)

pub end_left : (s : ScenarioValue) (a b : Array) (p : Process) (status dev n : ℕ)
    → IsStep s (events.End p.id status) a b → IsOwn s dev n p
    → IsLeft (Seats.seat_after_end p.id status (seat_of a dev n)) (seat_of b dev n)
end_left s a b p status dev n st own = at_place s (events.End p.id status) a b p dev n
    (λ q. Seats.seat_after_end p.id status q) st own (laws.end_law s a p status st.seats st.sound own.is)

pub loss_left : (s : ScenarioValue) (a b : Array) (p : Process) (dev n : ℕ) → IsStep s (events.Lost p.id) a b
    → IsOwn s dev n p → IsLeft (Seats.seat_after_loss (has_ended a p.id) p.id (seat_of a dev n)) (seat_of b dev n)
loss_left s a b p dev n st own = at_place s (events.Lost p.id) a b p dev n
    (λ q. Seats.seat_after_loss (has_ended a p.id) p.id q) st own (laws.loss_law s a p st.seats st.sound own.is)

-- ---- other places

pub other_place : (s : ScenarioValue) (p : Process) (dev n m : ℕ) → IsOwn s dev n p → (n == m) ≡ false
    → is_of_other_unit (process_of s p.id) dev m ≡ true
other_place s p dev n m own e =
    (λ i. is_of_other_unit (own.is i) dev m)
    ∙ (λ i. not (p.target == dev && own.unit_is i == m))
    ∙ (λ i. not (p.target == dev && e i))
    ∙ (λ i. not (and_false (p.target == dev) i))

-- An abort of one unit.
pub other_abort : (dev n m : ℕ) → (n == m) ≡ false → not (dev == dev && n == m) ≡ true
other_abort dev n m e = (λ i. not (dev == dev && e i)) ∙ (λ i. not (and_false (dev == dev) i))

-- ---- as a call changes one place of eight

in_range : {X : Type 0} (xs : List X) (n : ℕ) (d e : X) → n < length xs → get_or xs n d ≡ get_or xs n e
in_range [] n d e lt = absurd (omega (arith, lt))
in_range (x ∷ xs) zero d e lt = refl
in_range (x ∷ xs) (suc n) d e lt = in_range xs n d e (omega (arith, lt))

pub place_is : (units inside : List LogicalUnit) (n : ℕ) (d x : LogicalUnit) → length units ≡ 8 → n < 8 → inside ≡ units
    → get_or inside n d ≡ x → unit_in units n ≡ x
place_is units inside n d x eight lt same h =
    in_range units n no_unit d (omega (arith, eight, lt)) ∙ (λ i. get_or (sym same i) n d) ∙ h

-- What a call tells of its unit is what becomes of the target's units.
pub one_set : (s : ScenarioValue) (event : Event) (a b : Array) (times : List ℕ) (now dev n : ℕ)
    (units inside last : List LogicalUnit) (d u w : LogicalUnit) (x : Option Seat) → n < 8 → IsStep s event a b
    → AreUnitsOf s a times dev units → ((m : ℕ) → (n == m) ≡ false → is_elsewhere s event dev m ≡ true) → inside ≡ units
    → get_or inside n d ≡ u → last ≡ set inside n w → IsLeft x (seat_of b dev n)
    → ((after : Seat) → x ≡ Some after → IsUnitOf s.hosts (seat_of a dev n) (since_of a.units times dev n) u
    → IsUnitOf s.hosts (settled_seat after)
    (seat_time (seat_of a dev n) (settled_seat after) (since_of a.units times dev n) now) w)
    → (blocks_left_at a.replies s (unit_of s dev n) ≤ spare_of u
    → blocks_left_at b.replies s (unit_of s dev n) ≤ spare_of w) → AreUnitsAfter s a b times now dev last
one_set s event a b times now dev n units inside last d u w x lt st h o same is last_is left f room =
    let before : blocks_left_at a.replies s (unit_of s dev n) ≤ spare_of u = subst
    (λ (z : LogicalUnit). blocks_left_at a.replies s (unit_of s dev n) ≤ spare_of z)
    (place_is units inside n d u h.eight lt same is) (h.room.left n lt) in
    let old : IsUnitOf s.hosts (seat_of a dev n) (since_of a.units times dev n) u = subst
    (λ (z : LogicalUnit). IsUnitOf s.hosts (seat_of a dev n) (since_of a.units times dev n) z)
    (place_is units inside n d u h.eight lt same is) (h.each n lt) in
    let next : IsUnitOf s.hosts (seat_of b dev n)
    (seat_time (seat_of a dev n) (seat_of b dev n) (since_of a.units times dev n) now) w = subst
    (λ (q : Seat). IsUnitOf s.hosts q (seat_time (seat_of a dev n) q (since_of a.units times dev n) now) w) left.settles
    (f left.seat left.is old) in
    subst (λ (z : List LogicalUnit). AreUnitsAfter s a b times now dev z)
    (sym (last_is ∙ (λ i. set (same i) n w))) (one_goes s event a b times now dev n units w lt st h o
    (unit_goes s event a b times now dev n u w st h.timed old next) (room before))

-- An event but a run takes none of its memory.
pub spare_stays : (s : ScenarioValue) (event : Event) (a b : Array) (dev n : ℕ) (u w : LogicalUnit)
    → IsStep s event a b → spare_of w ≡ spare_of u → blocks_left_at a.replies s (unit_of s dev n) ≤ spare_of u
    → blocks_left_at b.replies s (unit_of s dev n) ≤ spare_of w
spare_stays s event a b dev n u w st same k = left_kept s event a b dev n (spare_of w) st (omega (arith, same, k))

-- ---- aborts and resets

pub abort_left : (s : ScenarioValue) (a b : Array) (i dev n : ℕ) (what : AbortKind)
    → IsStep s (events.Aborted i dev n what) a b
    → IsLeft (Some (Seats.seat_after_aborted s.hosts i what (seat_of a dev n))) (seat_of b dev n)
abort_left s a b i dev n what st =
    left_of (Some (Seats.seat_after_aborted s.hosts i what (seat_of a dev n))) (seat_of b dev n)
    ((λ j. seat_if (sym st.step_is j) dev n) ∙ laws.abort_law s a i dev n what st.seats st.sound)

pub device_seat : (s : ScenarioValue) (a b : Array) (i dev unit n : ℕ)
    → IsStep s (events.Aborted i dev unit aborts.Device) a b
    → settled_seat (Seats.seat_after_reset s.hosts (seat_of a dev n)) ≡ seat_of b dev n
device_seat s a b i dev unit n st =
    let x : IsLeft (Some (Seats.seat_after_reset s.hosts (seat_of a dev n))) (seat_of b dev n) = left_of
    (Some (Seats.seat_after_reset s.hosts (seat_of a dev n))) (seat_of b dev n)
    ((λ j. seat_if (sym st.step_is j) dev n) ∙ laws.device_law s a i dev unit n st.seats st.sound) in
    let same : Seats.seat_after_reset s.hosts (seat_of a dev n) ≡ x.seat = (let e = x.is in cc) in
    (λ j. settled_seat (same j)) ∙ x.settles

pub reset_seat : (s : ScenarioValue) (a b : Array) (by dev n : ℕ) → IsStep s (events.Reset by) a b
    → settled_seat (Seats.seat_after_reset s.hosts (seat_of a dev n)) ≡ seat_of b dev n
reset_seat s a b by dev n st =
    let x : IsLeft (Some (Seats.seat_after_reset s.hosts (seat_of a dev n))) (seat_of b dev n) = left_of
    (Some (Seats.seat_after_reset s.hosts (seat_of a dev n))) (seat_of b dev n)
    ((λ j. seat_if (sym st.step_is j) dev n) ∙ laws.reset_law s a by dev n st.seats st.sound) in
    let same : Seats.seat_after_reset s.hosts (seat_of a dev n) ≡ x.seat = (let e = x.is in cc) in
    (λ j. settled_seat (same j)) ∙ x.settles

-- Each of them is reset.
unit_resets : (hosts : List HostDef) (seat : Seat) (time now : ℕ) (u : LogicalUnit) → IsUnitOf hosts seat time u
    → IsUnitOf hosts (settled_seat (Seats.seat_after_reset hosts seat))
    (seat_time seat (settled_seat (Seats.seat_after_reset hosts seat)) time now) (unit_after_reset now u)
unit_resets hosts seat time now (kinds.There v) h = resets hosts seat time now v h
unit_resets hosts seat time now (kinds.Absent v) h = absent.resets hosts seat v h

reset_spare : (now : ℕ) (u : LogicalUnit) → spare_of (unit_after_reset now u) ≡ spare_of u
reset_spare now (kinds.There v) = refl
reset_spare now (kinds.Absent v) = refl

pub all_reset :
    (s : ScenarioValue) (event : Event) (a b : Array) (times : List ℕ) (now dev : ℕ) (units last : List LogicalUnit)
    → IsStep s event a b → AreUnitsOf s a times dev units
    → ((n : ℕ) → settled_seat (Seats.seat_after_reset s.hosts (seat_of a dev n)) ≡ seat_of b dev n) → length last ≡ 8
    → ((n : ℕ) → n < 8 → unit_in last n ≡ unit_after_reset now (unit_in units n))
    → AreUnitsAfter s a b times now dev last
all_reset s event a b times now dev units last st h seat eight each = record {
  timed = timed_after s event a b times now st h.timed;
  eight = eight;
  each = λ n lt. subst (λ (z : LogicalUnit). IsUnitOf s.hosts (seat_of b dev n)
      (since_of b.units (current_times_after a.units b.units times now) dev n) z) (sym (each n lt)) (unit_goes s
      event a b times now dev n (unit_in units n) (unit_after_reset now (unit_in units n)) st h.timed (h.each n lt)
      (subst (λ (q : Seat). IsUnitOf s.hosts q (seat_time (seat_of a dev n) q (since_of a.units times dev n) now)
      (unit_after_reset now (unit_in units n))) (seat n)
      (unit_resets s.hosts (seat_of a dev n) (since_of a.units times dev n) now (unit_in units n) (h.each n lt))));
  room = room_goes s event a b dev units last st h.room (λ n lt. left_kept s event a b dev n (spare_of (unit_in last n))
      st (let same : spare_of (unit_in last n) ≡ spare_of (unit_in units n) = (λ i. spare_of (each n lt i))
      ∙ reset_spare now (unit_in units n) in let k = h.room.left n lt in omega (arith, same, k)));
}

-- ---- the process that runs

-- A current process of this number is that process.
own_current : (s : ScenarioValue) (t n : ℕ) (c : Option RunningProcess) (r : RunningProcess) (p : Process)
    → IsOwnRunning s t n c → running_if c p.id ≡ Some r → process_of s p.id ≡ Some p → r.process ≡ p
own_current s t n None r p h e is = cc
own_current s t n (Some q) r p h e is = go (same_id q.process.id p.id) refl e
  where
    go : (y : Bool) → same_id q.process.id p.id ≡ y → (if y then Some q else None) ≡ Some r → r.process ≡ p
    go false z k = cc
    go true z k =
        let same : q ≡ r = cc in
        let id : q.process.id ≡ p.id = same_id_is q.process.id p.id z in
        let both : Some q.process ≡ Some p = sym h.is ∙ (λ i. process_of s (id i)) ∙ is in
        let it : q.process ≡ p = cc in
        (λ i. (sym same i).process) ∙ it

-- Where the run of a process that is not outside the queue is allowed, it is current, and has no reply.
running_there : (s : ScenarioValue) (a : Array) (dev n : ℕ) (u : UnitState) (p : Process) (after : Seat)
    → IsSound s a → IsOwn s dev n p → (seat_of a dev n).unit ≡ Some u
    → guest_at (seat_of a dev n).guests p.id ≡ None → Seats.seat_after_run p.id (seat_of a dev n) ≡ Some after
    → Seats.running_at (seat_of a dev n) p.id ≡ Some (record { process = p; reply = None })
running_there s a dev n u p after sound own there none e =
    let at : Seats.running_at (seat_of a dev n) p.id ≡ running_if u.current p.id =
    (λ i. if is_some (none i) then none i else running_if (current_of (there i)) p.id) in
    at ∙ go (running_if u.current p.id) refl
    ((λ i. Seats.seat_after_run_of (seat_of a dev n) (is_some (sym none i)) (sym at i)) ∙ e)
  where
    go : (x : Option RunningProcess) → running_if u.current p.id ≡ x
        → Seats.seat_after_run_of (seat_of a dev n) false x ≡ Some after
        → x ≡ Some (record { process = p; reply = None })
    go None f k = cc
    go (Some r) f k =
        let same : r.process ≡ p = own_current s u.target u.unit u.current r p
        (own_found s a.units dev n u sound.units there).current f own.is in
        unanswered r.reply refl k same
      where
        unanswered : (y : Option Reply) → r.reply ≡ y
            → (if is_none y && (false || not (Seats.is_any_held (seat_of a dev n).hold))
            then Some (Seats.seat_with_execution (seat_of a dev n) r.process (execution
            (Seats.context_of (seat_of a dev n) r.process.initiator) r.process.cdb r.process.sent)) else None)
            ≡ Some after → r.process ≡ p → Some r ≡ Some (record { process = p; reply = None })
        unanswered None f k same = λ i. Some (record { process = same i; reply = f i })
        unanswered (Some given) f k same = cc

pub running_own : (s : ScenarioValue) (a : Array) (dev n : ℕ) (p : Process) (after : Seat)
    → IsSound s a → IsOwn s dev n p → guest_at (seat_of a dev n).guests p.id ≡ None
    → Seats.seat_after_run p.id (seat_of a dev n) ≡ Some after
    → Seats.running_at (seat_of a dev n) p.id ≡ Some (record { process = p; reply = None })
running_own s a dev n p after sound own none e = go (seat_of a dev n).unit refl
  where
    go : (x : Option UnitState) → (seat_of a dev n).unit ≡ x
        → Seats.running_at (seat_of a dev n) p.id ≡ Some (record { process = p; reply = None })
    go (Some u) there = running_there s a dev n u p after sound own there none e
    go None there =
        let nothing : Seats.running_at (seat_of a dev n) p.id ≡ None =
        (λ i. if is_some (none i) then none i else running_if (current_of (there i)) p.id) in
        let bad : None ≡ Some after =
        (λ i. Seats.seat_after_run_of (seat_of a dev n) (is_some (sym none i)) (sym nothing i)) ∙ e in
        cc

-- An abort of one unit leaves the others.
pub elsewhere_abort : (s : ScenarioValue) (i dev n m : ℕ) (what : AbortKind) → is_of_one what ≡ true → (n == m) ≡ false
    → is_elsewhere s (events.Aborted i dev n what) dev m ≡ true
elsewhere_abort s i dev n m aborts.All one e = other_abort dev n m e
elsewhere_abort s i dev n m (aborts.Tag tag) one e = other_abort dev n m e
elsewhere_abort s i dev n m aborts.WholeQueue one e = other_abort dev n m e
elsewhere_abort s i dev n m aborts.Device one e = cc

pub seated_after : (hosts : List HostDef) (before one after : Seat) (time now : ℕ) (w : SeatedState)
    → Some one ≡ Some after → IsAtSeat hosts (settled_seat one) (seat_time before (settled_seat one) time now) w
    → IsAtSeat hosts (settled_seat after) (seat_time before (settled_seat after) time now) w
seated_after hosts before one after time now w e h =
    let same : one ≡ after = cc in
    subst (λ (q : Seat). IsAtSeat hosts (settled_seat q) (seat_time before (settled_seat q) time now) w) same h

pub by_after : (hosts : List HostDef) (before one after : Seat) (time now : ℕ) (w : LogicalUnit)
    → Some one ≡ Some after → IsUnitOf hosts (settled_seat one) (seat_time before (settled_seat one) time now) w
    → IsUnitOf hosts (settled_seat after) (seat_time before (settled_seat after) time now) w
by_after hosts before one after time now w e h =
    let same : one ≡ after = cc in
    subst (λ (q : Seat). IsUnitOf hosts (settled_seat q) (seat_time before (settled_seat q) time now) w) same h

-- ---- a unit that is looked at

pub unit_seen :
    (s : ScenarioValue) (a : Array) (times : List ℕ) (dev n : ℕ) (units inside : List LogicalUnit) (d : LogicalUnit)
    → n < 8 → AreUnitsOf s a times dev units → inside ≡ units
    → IsUnitOf s.hosts (seat_of a dev n) (since_of a.units times dev n) (get_or inside n d)
unit_seen s a times dev n units inside d lt h same = subst (λ (z : LogicalUnit). IsUnitOf s.hosts (seat_of a dev n)
    (since_of a.units times dev n) z) (place_is units inside n d (get_or inside n d) h.eight lt same refl) (h.each n lt)

-- Where the seat does not allow an arrival the array does not.
pub accept_none : (s : ScenarioValue) (a : Array) (p : Process) (dev n : ℕ) → HasSeats s → IsSound s a → IsOwn s dev n p
    → Seats.seat_after_accept p (seat_of a dev n) ≡ None → step s (events.Accept p.id) a ≡ None
accept_none s a p dev n seats sound own none =
    go (step s (events.Accept p.id) a)
    (laws.accept_law s a p seats sound own.is
    ∙ (λ i. settled_seat_if (Seats.seat_after_accept p (seat_of a (own.target_is i) (own.unit_is i))))
    ∙ (λ i. settled_seat_if (none i)))
  where
    go : (x : Option Array) → seat_if x p.target p.unit ≡ None → x ≡ None
    go None k = refl
    go (Some b) k = cc

-- ---- the blocks of a unit

held_at : (hosts : List HostDef) (a : Array) (dev n time : ℕ) (u : LogicalUnit)
    → IsUnitOf hosts (seat_of a dev n) time u → contents_in u ≡ state_contents (unit_state_at a.units dev n)
held_at hosts a dev n time (kinds.Absent v) h = λ i. state_contents (sym h.none i)
held_at hosts a dev n time (kinds.There v) h =
    (λ i. Some (sym h.2.kept.contents i)) ∙ (λ i. state_contents (sym h.2.kept.there i))

pub blocks_held : (s : ScenarioValue) (a : Array) (times : List ℕ) (dev n : ℕ) (units : List LogicalUnit)
    → AreUnitsOf s a times dev units → n < 8
    → contents_in (unit_in units n) ≡ state_contents (unit_state_at a.units dev n)
blocks_held s a times dev n units h lt =
    held_at s.hosts a dev n (since_of a.units times dev n) (unit_in units n) (h.each n lt)

-- A process that runs at a unit of a target.
use Rattle.std.proofs.Common.{ℕ, ◌≡◌, ◌<◌, ◌≤◌, ◌+◌, ◌∙◌, false, List, refl, sym, subst, arith, get_or, Some, None}
use Rattle.std.specs.Prelude.{is_some, if◌then◌else◌}
use Rattle.bus_base.specs.declared.Event.TheVariants as events
use Rattle.cdb_codec.specs.Cdb.{command_of}
use Rattle.scenario.specs.declared.value.HostDef.{HostDef}
use Rattle.scenario.specs.Lookups.{unit_of}
use Rattle.scenario.specs.Value.{ScenarioValue}
use Rattle.array_model.specs.ArrayHistory.{reply_in}
use Rattle.array_model.specs.Execution.{is_request_sense}
use Rattle.array_model.specs.Processes.{Process}
use Rattle.array_model.specs.Seats.{Seat, seat_of, contents_of, current_of, running_at}
use Rattle.array_model.specs.SoundArray.{IsOwn}
use Rattle.array_model.specs.Steps.{running_if}
use Rattle.array_model.specs.Units.{Array, RunningProcess, guest_at}
use Rattle.disk_unit.specs.Held.{cost_by, kind_of}
use Rattle.target_units.specs.declared.logical.LogicalUnit.{LogicalUnit}
use Rattle.target_units.specs.declared.logical.LogicalUnit.TheVariants as kinds
use Rattle.target_units.specs.Rooms.{blocks_left_at, HasRoomFor}
use Rattle.target_units.specs.Units.{IsUnitOf, AreUnitsOf, HaveRoom, IsStep, spare_of}
use Rattle.target_units.proofs.Rooms.{plain_id, has_room, among}
use Rattle.target_units.proofs.SeatSteps.{runs_plain}
use Rattle.target_units.proofs.UnitSteps.{later, place_is}
use Rattle.target_units.proofs.UnitTimes.{run_answered}

-- At a unit that is not there none does.
pub none_runs : (seat : Seat) (p q : Process) → seat.unit ≡ None → guest_at seat.guests p.id ≡ None
    → running_at seat p.id ≡ Some (record { process = q; reply = None }) → ⊥
none_runs seat p q absent none running =
    let r : RunningProcess = record { process = q; reply = None } in
    let bad : None ≡ Some r =
    (λ i. if is_some (sym none i) then sym none i else running_if (current_of (sym absent i)) p.id) ∙ running in
    cc

plain_at : (hosts : List HostDef) (seat : Seat) (time : ℕ) (u : LogicalUnit) (p : Process) → IsUnitOf hosts seat time u
    → guest_at seat.guests p.id ≡ None → running_at seat p.id ≡ Some (record { process = p; reply = None })
    → is_request_sense (command_of p.cdb) ≡ false
plain_at hosts seat time (kinds.There v) p h none running = runs_plain hosts seat time v p.id p h none running
plain_at hosts seat time (kinds.Absent v) p h none running = absurd (none_runs seat p p h.none none running)

-- It is a command of the scenario, and has no reply yet.
pub record RunsFirst (a : Array) (p : Process) : Type 0 where
  pub plain : p.id.sense ≡ false
  pub unanswered : reply_in a.replies p.id ≡ None

pub runs_first : (s : ScenarioValue) (a : Array) (dev n time : ℕ) (u : LogicalUnit) (p : Process)
    → IsOwn s dev n p → IsUnitOf s.hosts (seat_of a dev n) time u → guest_at (seat_of a dev n).guests p.id ≡ None
    → running_at (seat_of a dev n) p.id ≡ Some (record { process = p; reply = None }) → reply_in a.replies p.id ≡ None
    → RunsFirst a p
runs_first s a dev n time u p own at none running unanswered = record {
  plain = plain_id s p own.is (plain_at s.hosts (seat_of a dev n) time u p at none running);
  unanswered = unanswered;
}

pub room_seen :
    (s : ScenarioValue) (a : Array) (times : List ℕ) (dev n : ℕ) (units inside : List LogicalUnit) (d : LogicalUnit)
    → n < 8 → AreUnitsOf s a times dev units → inside ≡ units
    → blocks_left_at a.replies s (unit_of s dev n) ≤ spare_of (get_or inside n d)
room_seen s a times dev n units inside d lt h same = subst
    (λ (z : LogicalUnit). blocks_left_at a.replies s (unit_of s dev n) ≤ spare_of z)
    (place_is units inside n d (get_or inside n d) h.eight lt same refl) (h.room.left n lt)

pub room_for : (s : ScenarioValue) (a : Array) (dev n : ℕ) (units : List LogicalUnit) (u : LogicalUnit) (p : Process)
    → HaveRoom s a dev units → IsOwn s dev n p → RunsFirst a p
    → blocks_left_at a.replies s (unit_of s dev n) ≤ spare_of u → HasRoomFor (seat_of a dev n) p (spare_of u)
room_for s a dev n units u p room own first left =
    has_room s a dev n (spare_of u) p room.fits room.lines room.kinds room.target left own first.plain first.unanswered

-- Afterwards there is memory for the blocks of the others.
pub room_after :
    (s : ScenarioValue) (a b : Array) (dev n : ℕ) (units : List LogicalUnit) (u w : LogicalUnit) (p : Process)
    → IsStep s (events.Run p.id) a b → HaveRoom s a dev units → IsOwn s dev n p → RunsFirst a p
    → spare_of u ≤ spare_of w + cost_by (kind_of (contents_of (seat_of a dev n).unit)) p.cdb
    → blocks_left_at a.replies s (unit_of s dev n) ≤ spare_of u
    → blocks_left_at b.replies s (unit_of s dev n) ≤ spare_of w
room_after s a b dev n units u w p st room own first lowered left =
    let answered = run_answered s a b p.id st.step_is in
    let one = among s a dev n p b.replies answered.0 room.fits room.lines room.kinds own first.plain first.unanswered
    (later s (events.Run p.id) a b st).replies answered.1 in
    omega (arith, one, lowered, left)

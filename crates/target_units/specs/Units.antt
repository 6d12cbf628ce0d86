-- The eight logical units of a target, there or not, each at its seat of the plain disk array.
use Rattle.std.specs.Prelude.{◌≡◌, ℕ, ◌<◌, ◌≤◌, ◌+◌, ◌^◌, ◌==◌, ◌&&◌, ◌||◌, Bool, true, false, List, [], length, Option}
use Rattle.std.specs.Prelude.{Some, None, nat_lt, slice_index_or, if◌then◌else◌}
use Rattle.bus_base.specs.declared.AbortKind.{AbortKind}
use Rattle.bus_base.specs.declared.AbortKind.TheVariants as aborts
use Rattle.bus_base.specs.declared.Event.{Event}
use Rattle.scenario.specs.declared.value.HostDef.{HostDef}
use Rattle.scenario.specs.Lookups.{has_target, unit_of}
use Rattle.scenario.specs.Value.{ScenarioValue}
use Rattle.scsi_device.specs.Lines.{FitsBus}
use Rattle.array_model.specs.Processes.{Process}
use Rattle.array_model.specs.Seats.{Seat, context_of, seat_of}
use Rattle.array_model.specs.SoundArray.{HasSeats, IsSound}
use Rattle.array_model.specs.Steps.{step}
use Rattle.array_model.specs.Execution.{Reply, execution}
use Rattle.array_model.specs.Units.{Array, UnitState}
use Rattle.due_model.specs.dialogue_model.specs.declared.exchange.Room.{Room}
use Rattle.array_model.specs.Contents.{Contents}
use Rattle.disk_unit.specs.Books.{books_after_reset}
use Rattle.tape_unit.specs.declared.drive.Drive.{Drive}
use Rattle.tape_unit.specs.Drives.{drive_contents}
use Rattle.due_model.specs.Wants.{since_of}
use Rattle.due_model.specs.RunSteps.{current_times_after}
use Rattle.target_units.specs.declared.ready.Ready.{Ready}
use Rattle.target_units.specs.declared.logical.LogicalUnit.{LogicalUnit}
use Rattle.target_units.specs.declared.logical.LogicalUnit.TheVariants as kinds
use Rattle.target_units.specs.Absent.{IsAbsentAt, nothing_kept, absent_reply}
use Rattle.target_units.specs.Rooms.{AreOfKinds, AreOfLines, blocks_left_at}
use Rattle.target_units.specs.Seated.{SeatedState, IsAtSeat, current_id, settled, with_books, room_at, seated_context}
use Rattle.target_units.specs.Seated.{taken_in}

pub record UnitsState : Type 0 where
  pub dev : ℕ
  -- its seek time
  pub seek : ℕ
  -- by number, 0 to 7
  pub units : List LogicalUnit

-- ---- what they have of the array

abbrev pub IsUnitOf : List HostDef → Seat → ℕ → LogicalUnit → Type 0
IsUnitOf hosts seat time (kinds.There v) = IsAtSeat hosts seat time v
IsUnitOf hosts seat time (kinds.Absent v) = IsAbsentAt seat v

-- The unit of this number.
abbrev pub unit_in : List LogicalUnit → ℕ → LogicalUnit
unit_in units n = slice_index_or units n (kinds.Absent nothing_kept)

-- How many blocks may still be written for the first time.
abbrev pub spare_of : LogicalUnit → ℕ
spare_of (kinds.There v) = v.spare
spare_of (kinds.Absent v) = 0

-- There is memory for all blocks that the commands of the scenario may still write at these units of this target.
pub record HaveRoom (s : ScenarioValue) (a : Array) (dev : ℕ) (units : List LogicalUnit) : Type 0 where
  pub fits : FitsBus s
  pub target : has_target s dev ≡ true
  pub lines : AreOfLines s a
  pub kinds : AreOfKinds s a
  pub left : (n : ℕ) → n < 8 → blocks_left_at a.replies s (unit_of s dev n) ≤ spare_of (unit_in units n)

-- These are the units of this target, whose current processes are that since these times, which stand beside the units
-- of the array.
pub record AreUnitsOf (s : ScenarioValue) (a : Array) (times : List ℕ) (dev : ℕ) (units : List LogicalUnit) : Type
    0 where
  pub timed : length times ≡ length a.units
  pub eight : length units ≡ 8
  pub each : (n : ℕ) → n < 8 → IsUnitOf s.hosts (seat_of a dev n) (since_of a.units times dev n) (unit_in units n)
  pub room : HaveRoom s a dev units

-- The array before and after an event of the history, which is allowed.
pub record IsStep (s : ScenarioValue) (event : Event) (a b : Array) : Type 0 where
  pub seats : HasSeats s
  pub sound : IsSound s a
  pub step_is : step s event a ≡ Some b

-- The same after a step at this time.
abbrev pub AreUnitsAfter : ScenarioValue → Array → Array → List ℕ → ℕ → ℕ → List LogicalUnit → Type 0
AreUnitsAfter s a b times now dev units = AreUnitsOf s b (current_times_after a.units b.units times now) dev units

-- ---- what a call does to them

abbrev pub state_after_reset : ℕ → SeatedState → SeatedState
state_after_reset now v = settled (current_id v.books) now (with_books v (books_after_reset v.books))

abbrev pub unit_after_reset : ℕ → LogicalUnit → LogicalUnit
unit_after_reset now (kinds.There v) = kinds.There (state_after_reset now v)
unit_after_reset now (kinds.Absent v) = kinds.Absent nothing_kept

-- ---- of two ready units, the one that is ready first, and of these the lower

abbrev pub is_before : Ready → Ready → Bool
is_before a b = nat_lt a.time b.time || (a.time == b.time && nat_lt a.unit b.unit)

abbrev pub first_unit : Option Ready → Option Ready → Option Ready
first_unit None b = b
first_unit (Some a) None = Some a
first_unit (Some a) (Some b) = if is_before b a then Some b else Some a

-- ---- aborts of one unit

abbrev pub is_of_one : AbortKind → Bool
is_of_one aborts.All = true
is_of_one (aborts.Tag n) = true
is_of_one aborts.WholeQueue = true
is_of_one aborts.Device = false

-- ---- what they tell

abbrev pub room_if : Bool → Option UnitState → Option Room
room_if held None = None
room_if held (Some u) = Some (room_at held u)

-- What a command of an initiator would answer.
abbrev pub reply_at : LogicalUnit → ℕ → List ℕ → Reply
reply_at (kinds.There v) from cdb = (execution (seated_context v from) cdb []).reply
reply_at (kinds.Absent v) from cdb = absent_reply v from cdb

-- How many bytes it would take, here and at the unit of the array.
abbrev pub taken_by : LogicalUnit → ℕ → List ℕ → ℕ
taken_by (kinds.There v) from cdb = taken_in (seated_context v from) cdb
taken_by (kinds.Absent v) from cdb = 0

abbrev pub taken_of : Array → Process → ℕ
taken_of a p = taken_in (context_of (seat_of a p.target p.unit) p.initiator) p.cdb

-- No time of theirs is past the last one, with the seek time.
abbrev pub AreEarly : Array → List ℕ → ℕ → ℕ → Type 0
AreEarly a times dev seek = (n : ℕ) → n < 8 → since_of a.units times dev n + seek < 2 ^ 64

-- ---- what is handed out

abbrev pub no_unit : LogicalUnit
no_unit = kinds.Absent nothing_kept

-- What a unit holds that is there.
abbrev pub contents_in : LogicalUnit → Option Contents
contents_in (kinds.There v) = Some v.contents
contents_in (kinds.Absent v) = None

abbrev pub state_contents : Option UnitState → Option Contents
state_contents None = None
state_contents (Some u) = Some u.contents

abbrev pub contents_handed : Option Drive → Option Contents
contents_handed None = None
contents_handed (Some drive) = Some (drive_contents drive)

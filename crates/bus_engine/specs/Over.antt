-- The devices of a run that is over, while it is asked how its commands ended and what its disks hold.
use Rattle.std.specs.Prelude.{ℕ, ◌≡◌, ◌≤◌, ◌<◌, ◌==◌, true, false, List, Option, Some, None, slice_index_or}
use Rattle.bus_trace.specs.declared.Row.{Row}
use Rattle.scenario.specs.declared.value.CmdDef.{CmdDef}
use Rattle.scenario.specs.Value.{ScenarioValue}
use Rattle.array_model.specs.Processes.{command_at}
use Rattle.array_model.specs.Seats.{is_initiator}
use Rattle.due_model.specs.story_model.specs.Items.{sense_id, command_id}
use Rattle.due_model.specs.Defs.{target_def_of}
use Rattle.due_model.specs.RunState.{array_of}
use Rattle.due_model.specs.RunSteps.{run_state}
use Rattle.initiator.specs.initiator_books.specs.Books.{my_book}
use Rattle.initiator.specs.initiator_books.specs.Endings.{AreEndingsOf}
use Rattle.initiator.specs.Hosts.{HostValue}
use Rattle.initiator.specs.Received.{IsBufferOf, moved_of, room_of, buffer_at, undoes_no_byte}
use Rattle.delivery_laws.specs.target_units.specs.Units.{UnitsState, AreUnitsOf}
use Rattle.bus_engine.specs.declared.member.Member.{Member}
use Rattle.bus_engine.specs.declared.member.Member.TheVariants.{Initiator, Target}
use Rattle.bus_engine.specs.Members.{IsTarget}

-- What came to the command of this number, and to its automatic REQUEST SENSE, is still there.
pub record IsKept (s : ScenarioValue) (rows : List Row) (v : HostValue) (n : ℕ) (c : CmdDef) : Type 0 where
  pub bytes : IsBufferOf (moved_of (run_state s rows).story (command_id n)) (room_of s c false)
      (buffer_at v.received (command_id n))
  pub sense_bytes : IsBufferOf (moved_of (run_state s rows).story (sense_id n)) (room_of s c true)
      (buffer_at v.received (sense_id n))

-- This initiator was told of these rows, and then outcomes of commands below this number were taken.
pub record IsHostOver (s : ScenarioValue) (rows : List Row) (dev first : ℕ) (v : HostValue) : Type 0 where
  pub no_target : target_def_of s dev ≡ None
  pub named : v.def.dev ≡ dev
  pub endings_are : AreEndingsOf s rows dev v.endings
  pub book_is : v.intent.wish.book ≡ my_book s (run_state s rows).story.sent dev
  pub kept : undoes_no_byte s rows ≡ true → (n : ℕ) (c : CmdDef) → first ≤ n → command_at s.commands n ≡ Some c
      → (c.host == dev) ≡ true → IsKept s rows v n c

abbrev pub IsMemberOver : ScenarioValue → List Row → ℕ → ℕ → Member → Type 0
IsMemberOver s rows dev first (Initiator host) = IsHostOver s rows dev first host
IsMemberOver s rows dev first (Target target) = IsTarget s rows dev target

-- The scenario has no device of this ID.
pub record HasNone (s : ScenarioValue) (dev : ℕ) : Type 0 where
  pub no_host : is_initiator s.hosts dev ≡ false
  pub no_target : target_def_of s dev ≡ None

abbrev pub IsPlaceOver : ScenarioValue → List Row → ℕ → ℕ → Option Member → Type 0
IsPlaceOver s rows dev first None = HasNone s dev
IsPlaceOver s rows dev first (Some member) = IsMemberOver s rows dev first member

abbrev pub AreOver : ScenarioValue → List Row → ℕ → List (Option Member) → Type 0
AreOver s rows first places = (dev : ℕ) → dev < 8 → IsPlaceOver s rows dev first (slice_index_or places dev None)

-- The units of the target of this ID hold what the array holds; where there is none the scenario has none.
pub record AreUnitsAt (s : ScenarioValue) (rows : List Row) (dev : ℕ) (v : UnitsState) : Type 0 where
  pub named : v.dev ≡ dev
  pub units_are : AreUnitsOf s (array_of s (run_state s rows)) (run_state s rows).current_since dev v.units

abbrev pub AreUnitsIf : ScenarioValue → List Row → ℕ → Option UnitsState → Type 0
AreUnitsIf s rows dev None = target_def_of s dev ≡ None
AreUnitsIf s rows dev (Some v) = AreUnitsAt s rows dev v

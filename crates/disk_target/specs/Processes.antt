-- The units of a target, and where the process of its connection stands.
use Rattle.std.specs.Prelude.{◌≡◌, ◌<◌, ◌==◌, ℕ, true, false, List, [], ◌∷◌, Option, None}
use Rattle.bus_base.specs.declared.Event.{Event}
use Rattle.bus_base.specs.declared.Event.TheVariants as events
use Rattle.bus_base.specs.declared.ProcId.{ProcId}
use Rattle.cdb_codec.specs.declared.status.TheConstants.{GOOD}
use Rattle.scenario.specs.Value.{ScenarioValue}
use Rattle.array_model.specs.Processes.{Process}
use Rattle.array_model.specs.ArrayHistory.{reply_in}
use Rattle.array_model.specs.Seats.{seat_of, is_elsewhere}
use Rattle.array_model.specs.Units.{Array}
use Rattle.bus_trace.specs.declared.Row.{Row}
use Rattle.due_model.specs.RunState.{or_start, array_of}
use Rattle.due_model.specs.RunSteps.{current_times_after, run_state}
use Rattle.array_model.specs.SoundArray.{IsSound}
use Rattle.target_course.specs.target_units.specs.Seated.{HasSent}
use Rattle.target_course.specs.target_units.specs.Units.{UnitsState, AreUnitsOf, IsStep}
use Rattle.disk_target.specs.declared.standing.Standing.{Standing}
use Rattle.disk_target.specs.declared.standing.Standing.TheVariants as standings
use Rattle.target_course.specs.target_units.specs.declared.served.Served.{Served}
use Rattle.disk_target.specs.Standings.{IsStanding, HasBlock, is_guest}

pub record ProcessesState : Type 0 where
  pub units : UnitsState
  pub standing : Standing

-- The units are those of the array, in which this process stands so at its unit.
pub record AreProcessesAt (s : ScenarioValue) (a : Array) (times : List ℕ) (p : Process) (unit : ℕ)
    (v : ProcessesState) : Type 0 where
  pub units : AreUnitsOf s a times v.units.dev v.units.units
  pub standing : IsStanding (seat_of a v.units.dev unit) p v.standing

-- The same after a step at this time.
abbrev pub AreProcessesAfter : ScenarioValue → Array → Array → List ℕ → ℕ → Process → ℕ → ProcessesState → Type 0
AreProcessesAfter s a b times now p unit v = AreProcessesAt s b (current_times_after a.units b.units times now) p unit v

-- ---- an event of this process, which stands so at its unit before it: it arrives and runs once its command is known,
-- runs in the queue with the bytes that it sends and without a reply, and ends GOOD only where its command is known

pub record IsRunInside (a : Array) (dev unit : ℕ) (p : Process) (x : Served) : Type 0 where
  pub sent : HasSent (seat_of a dev unit) p x.sent.now
  pub unanswered : reply_in a.replies p.id ≡ None

abbrev pub IsOwnEvent : Array → ℕ → ℕ → Process → Served → Standing → Event → Type 0
IsOwnEvent a dev unit p x v (events.Accept id) = (id ≡ p.id) × (v ≡ standings.Nowhere) × HasBlock p x
IsOwnEvent a dev unit p x v (events.Refuse id) = (id ≡ p.id) × (v ≡ standings.Nowhere) × HasBlock p x
IsOwnEvent a dev unit p x v (events.Run id) =
    (id ≡ p.id) × HasBlock p x × (is_guest v ≡ false → IsRunInside a dev unit p x)
IsOwnEvent a dev unit p x v (events.Fail id code) = id ≡ p.id
IsOwnEvent a dev unit p x v (events.End id status) = (id ≡ p.id) × ((status == GOOD) ≡ true → HasBlock p x)
IsOwnEvent a dev unit p x v (events.Lost id) = id ≡ p.id
IsOwnEvent a dev unit p x v (events.Aborted by at what kind) = ⊥
IsOwnEvent a dev unit p x v (events.Reset by) = ⊥

-- These events of a row are of it, the newest first: none, one, or two of which the first is that its command arrives.
abbrev pub AreOwnEvents : ScenarioValue → Array → ℕ → ℕ → Process → Served → Standing → List Event → Type 0
AreOwnEvents s a dev unit p x v [] = Unit {0}
AreOwnEvents s a dev unit p x v (it ∷ []) = IsOwnEvent a dev unit p x v it
AreOwnEvents s a dev unit p x v (it ∷ first ∷ []) =
    (first ≡ events.Accept p.id) × (v ≡ standings.Nowhere) × HasBlock p x
    × ((b : Array) (w : Standing) → IsStep s first a b → IsOwnEvent b dev unit p x w it)
AreOwnEvents s a dev unit p x v (it ∷ first ∷ zeroth ∷ more) = ⊥

-- ---- after some rows

pub record AreSettledAt (s : ScenarioValue) (a : Array) (times : List ℕ) (p : Process) (unit : ℕ) (v : ProcessesState) :
    Type 0 where
  pub sound : IsSound s a
  pub at : AreProcessesAt s a times p unit v

-- The units are those that the rows tell of, and this process stands so at its unit.
abbrev pub AreProcessesOf : ScenarioValue → List Row → Process → ℕ → ProcessesState → Type 0
AreProcessesOf s rows p unit v =
    AreSettledAt s (array_of s (run_state s rows)) (run_state s rows).current_since p unit v

abbrev pub times_of_events : ScenarioValue → Option Array → List ℕ → List Event → Option Array → ℕ → List ℕ
times_of_events s before times [] after now = times
times_of_events s before times (event ∷ shown) after now =
    current_times_after (or_start s before).units (or_start s after).units times now

-- The units alone.
pub record AreKeptAt (s : ScenarioValue) (a : Array) (times : List ℕ) (v : UnitsState) : Type 0 where
  pub sound : IsSound s a
  pub units : AreUnitsOf s a times v.dev v.units

abbrev pub AreKeptOf : ScenarioValue → List Row → UnitsState → Type 0
AreKeptOf s rows v = AreKeptAt s (array_of s (run_state s rows)) (run_state s rows).current_since v

-- None of these events, the newest first, is of a unit of this target: none, one, or two of which the first is that a
-- command arrives.
abbrev pub IsOutside : ScenarioValue → ℕ → Event → Type 0
IsOutside s dev it = (n : ℕ) → n < 8 → is_elsewhere s it dev n ≡ true

abbrev pub AreOutside : ScenarioValue → ℕ → List Event → Type 0
AreOutside s dev [] = Unit {0}
AreOutside s dev (it ∷ []) = IsOutside s dev it
AreOutside s dev (it ∷ first ∷ []) =
    (id : ProcId) × (first ≡ events.Accept id) × IsOutside s dev first × IsOutside s dev it
AreOutside s dev (it ∷ first ∷ zeroth ∷ more) = ⊥

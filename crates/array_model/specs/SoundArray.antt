-- What holds of the array after every history.
use Rattle.std.specs.Prelude.{ℕ, ◌<◌, ◌≡◌, List, [], ◌∷◌, Option, Some, None}
use Rattle.bus_base.specs.declared.ProcId.{ProcId}
use Rattle.scenario.specs.Value.{ScenarioValue}
use Rattle.scenario.specs.Lookups.{units_of}
use Rattle.array_model.specs.Processes.{Process, process_of}
use Rattle.array_model.specs.Units.{RunningProcess, UnitState, Nexus, Array, unit_state_at, starting_units}
use Rattle.array_model.specs.Seats.{seat_of, settled_seat}

-- A process of the scenario that is of this unit.
pub record IsOwn (s : ScenarioValue) (target unit : ℕ) (p : Process) : Type 0 where
  pub is : process_of s p.id ≡ Some p
  pub target_is : p.target ≡ target
  pub unit_is : p.unit ≡ unit

abbrev pub AllOwn : ScenarioValue → ℕ → ℕ → List Process → Type 0
AllOwn s target unit [] = Unit {0}
AllOwn s target unit (p ∷ processes) = IsOwn s target unit p × AllOwn s target unit processes

abbrev pub IsOwnRunning : ScenarioValue → ℕ → ℕ → Option RunningProcess → Type 0
IsOwnRunning s target unit None = Unit {0}
IsOwnRunning s target unit (Some r) = IsOwn s target unit r.process

pub record IsOwnUnit (s : ScenarioValue) (u : UnitState) : Type 0 where
  pub waiting : AllOwn s u.target u.unit u.waiting
  pub current : IsOwnRunning s u.target u.unit u.current

abbrev pub AllOwnUnits : ScenarioValue → List UnitState → Type 0
AllOwnUnits s [] = Unit {0}
AllOwnUnits s (u ∷ units) = IsOwnUnit s u × AllOwnUnits s units

abbrev pub AllOwnGuests : ScenarioValue → List RunningProcess → Type 0
AllOwnGuests s [] = Unit {0}
AllOwnGuests s (g ∷ guests) = (process_of s g.process.id ≡ Some g.process) × AllOwnGuests s guests

abbrev pub AllOfEight : List Nexus → Type 0
AllOfEight [] = Unit {0}
AllOfEight (q ∷ nexuses) = (q.initiator < 8) × AllOfEight nexuses

-- No two units are of one target and number.
abbrev pub AreApart : List UnitState → Type 0
AreApart [] = Unit {0}
AreApart (u ∷ units) = (unit_state_at units u.target u.unit ≡ None) × AreApart units

-- The waiting and current processes are of their unit and of the scenario, and so are the guests; only initiators stand
-- in a hold; units stand once; and no unit still has to choose.
pub record IsSound (s : ScenarioValue) (a : Array) : Type 0 where
  pub units : AllOwnUnits s a.units
  pub guests : AllOwnGuests s a.guests
  pub holds : AllOfEight a.holds
  pub apart : AreApart a.units
  pub settled : (target unit : ℕ) → settled_seat (seat_of a target unit) ≡ seat_of a target unit

-- A scenario whose commands are of initiators 0 to 7, and whose units stand once.
pub record HasSeats (s : ScenarioValue) : Type 0 where
  pub initiators : (id : ProcId) (p : Process) → process_of s id ≡ Some p → p.initiator < 8
  pub apart : AreApart (starting_units s (units_of s))

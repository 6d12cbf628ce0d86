-- The process that runs is the one of the scenario, after any history (7.5).
use Rattle.right_laws.proofs
use proofs.Names.{ℕ, ◌≡◌, ◌∙◌, List, [], ◌∷◌, Option, Some, None, sym, ap, same_Some, ScenarioValue, Process}
use proofs.Names.{process_of, AllOwn, AllOwnGuests, AllOwnUnits, IsOwnRunning, IsSound, Array, RunningProcess}
use proofs.{Names.{UnitState, IsOf, running_id, OnGuests, OnUnits, Runs, Waits}, Ran.Open.{running_has}}
use Rattle.due_model.specs.array_model.specs.Steps

-- ---- the reply of one that runs

own_waits : (s : ScenarioValue) (t m : ℕ) (waiting : List Process) → AllOwn s t m waiting → Waits (IsOf s) waiting
own_waits s t m [] h = tt
own_waits s t m (c ∷ waiting) h = (h.0.is, own_waits s t m waiting h.1)

own_runs : (s : ScenarioValue) (t m : ℕ) (o : Option RunningProcess) → IsOwnRunning s t m o → Runs (IsOf s) o
own_runs s t m None h = tt
own_runs s t m (Some r) h = h.is

pub own_units : (s : ScenarioValue) (units : List UnitState) → AllOwnUnits s units → OnUnits (IsOf s) units
own_units s [] h = tt
own_units s (u ∷ units) h = (
  (own_waits s u.target u.unit u.waiting h.0.waiting, own_runs s u.target u.unit u.current h.0.current),
  own_units s units h.1,
)

pub own_guests : (s : ScenarioValue) (guests : List RunningProcess) → AllOwnGuests s guests → OnGuests (IsOf s) guests
own_guests s [] h = tt
own_guests s (g ∷ guests) h = (h.0, own_guests s guests h.1)

-- The process that runs is the one of the scenario.
pub own_running : (s : ScenarioValue) (a : Array) (c : Process) (r : RunningProcess) → IsSound s a
    → process_of s c.id ≡ Some c → Steps.running_process a c.id ≡ Some r → r.process ≡ c
own_running s a c r sound own e = same_Some r.process c (sym (running_has (IsOf s) a c.id r
    (record { units = own_units s a.units sound.units; guests = own_guests s a.guests sound.guests }) e)
    ∙ ap (process_of s) (running_id a c.id r e) ∙ own)

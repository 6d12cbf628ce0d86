-- What a run says of a prompt trace.
use Rattle.std.specs.Prelude.{ℕ, ◌<◌, ◌^◌, List, length}
use Rattle.std.specs.List.{AllByRecursion}
use Rattle.bus_trace.specs.declared.Row.{Row}
use Rattle.scenario.specs.Value.{ScenarioValue}
use Rattle.due_model.specs.dialogue_model.specs.Observer.{ObserverValue, IsObserverOf}
use Rattle.due_model.specs.Next.{IsPrompt}

-- All rows come before this time, in ns.
abbrev pub AreEarly : List Row → Type 0
AreEarly rows = AllByRecursion (λ (row : Row). row.time < 2 ^ 62) rows

-- Every prompt trace of the scenario has fewer rows than this.
abbrev pub AreFewer : ScenarioValue → ℕ → Type 0
AreFewer s most = (rows : List Row) → IsPrompt s rows → length rows < most

-- The observer has seen some such rows.
pub record HasSeenEarly (o : ObserverValue) : Type 0 where
  pub rows : List Row
  pub observed : IsObserverOf rows o
  pub early : AreEarly rows

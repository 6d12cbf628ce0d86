-- A device of which the scenario has no unit, neither a disk nor a tape.
use Rattle.std.specs.Prelude.{ℕ, ◌≡◌, ◌==◌, Bool, false, List}
use Rattle.std.specs.List.{list_any}
use Rattle.scenario.specs.declared.value.UnitDef.{UnitDef}
use Rattle.scenario.specs.Lookups.{units_of}
use Rattle.scenario.specs.Value.{ScenarioValue}

abbrev pub has_unit : List UnitDef → ℕ → Bool
has_unit units dev = list_any (λ (u : UnitDef). u.target == dev) units

abbrev pub HasNoUnit : ScenarioValue → ℕ → Type 0
HasNoUnit s dev = has_unit (units_of s) dev ≡ false

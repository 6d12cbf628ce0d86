use Rattle.std.proofs.Common.{ℕ, ◌≡◌, ◌<◌, ◌≤◌, List, None, length}
use Rattle.std.specs.Prelude.{slice_index_or}
use Rattle.bus_trace.specs.declared.Row.{Row}
use Rattle.scenario.specs.Value.{ScenarioValue}
use Rattle.bus_engine.specs.Over.{AreOver, AreUnitsIf}
use Rattle.bus_engine.proofs.finishing.units_by_target.Given as goal

abbrev pub invariant-loop-dev : goal.invariant-loop-dev
invariant-loop-dev l = record {
  count : length l.units.items ≡ l.dev;
  others : (d : ℕ) → l.dev ≤ d → slice_index_or l.places d None ≡ slice_index_or l.initial.places d None;
  units : (s : ScenarioValue) (rows : List Row) (first : ℕ) → AreOver s rows first l.initial.places
      → (d : ℕ) → d < l.dev → AreUnitsIf s rows d (slice_index_or l.units.items d None);
}

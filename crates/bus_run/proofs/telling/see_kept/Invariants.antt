use Rattle.std.proofs.Common.{◌≡◌, ◌∷◌, [], List, None}
use Rattle.bus_trace.specs.declared.Row.{Row}
use Rattle.scenario.specs.Value.{ScenarioValue}
use Rattle.bus_run.specs.Places.{AreKnownBut}
use Rattle.bus_run.specs.Seen.{AreSeen}
use Rattle.bus_run.specs.Shown.{events_shown}
use Rattle.bus_run.specs.Standing.{IsKept}
use Rattle.bus_run.proofs.telling.see_kept.Given as goal

abbrev pub invariant-loop-dev : goal.invariant-loop-dev
invariant-loop-dev g l =
    (s : ScenarioValue) (rows : List Row) → AreSeen s (l.row ∷ rows) l.observer → events_shown s rows l.row ≡ []
    → IsKept rows l.row l.ends → AreKnownBut g.D.Device.IsOf s rows l.row 0 None l.initial.places
    → AreKnownBut g.D.Device.IsOf s rows l.row l.dev None l.places

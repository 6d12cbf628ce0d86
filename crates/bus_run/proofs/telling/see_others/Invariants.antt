use Rattle.std.proofs.Common.{◌≡◌, ◌∷◌, List, Some}
use Rattle.bus_trace.specs.declared.Row.{Row}
use Rattle.bus_trace.specs.declared.connection.Connection.{Connection}
use Rattle.bus_trace.specs.Terms.{connection}
use Rattle.scenario.specs.Value.{ScenarioValue}
use Rattle.bus_run.specs.Label.{process_known}
use Rattle.bus_run.specs.Places.{AreKnownBut}
use Rattle.bus_run.specs.Seen.{AreSeen}
use Rattle.bus_run.specs.Shown.{events_shown}
use Rattle.bus_run.proofs.telling.see_others.Given as goal

abbrev pub invariant-loop-dev : goal.invariant-loop-dev
invariant-loop-dev g l =
    (s : ScenarioValue) (rows : List Row) → AreSeen s (l.news.row.now ∷ rows) l.observer
    → l.news.shown.now ≡ events_shown s rows l.news.row.now
    → ((n : Connection) → connection (l.news.row.now ∷ rows) ≡ Some n
    → l.news.label ≡ process_known s (l.news.row.now ∷ rows))
    → AreKnownBut g.D.Device.IsOf s rows l.news.row.now 0 l.one l.initial.places
    → AreKnownBut g.D.Device.IsOf s rows l.news.row.now l.dev l.one l.places

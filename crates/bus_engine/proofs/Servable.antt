-- What a target may rest on.
use Rattle.std.proofs.Common.{◌≡◌, true, List, arith}
use Rattle.bus_trace.specs.declared.Row.{Row}
use Rattle.scenario.specs.Value.{ScenarioValue}
use Rattle.disk_target.specs.Targets.{AreTied, AreInTime}
use Rattle.due_model.specs.dialogue_model.specs.Observer.{ObserverValue}
use Rattle.bus_run.specs.Seen.{AreSeen}
use Rattle.bus_run.specs.Seams.{seams}
use Rattle.bus_run.proofs.Seams as run

pub all_tied : (s : ScenarioValue) (rows : List Row) → seams s rows ≡ true → AreTied s rows
all_tied s rows e =
    let t = run.tied s rows e in
    record {
      faithful_are = t.faithful_are;
      telling_are = t.telling_are;
      allowed_are = t.allowed_are;
      heard_are = t.heard_are;
      written_are = t.written_are;
      attended_are = t.attended_are;
    }

pub in_time : (s : ScenarioValue) (rows : List Row) (o : ObserverValue) → AreSeen s rows o → AreInTime rows
in_time s rows o a = record { few = omega (arith, a.few); early = a.early }

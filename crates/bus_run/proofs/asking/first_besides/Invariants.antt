use Rattle.std.proofs.Common.{◌≡◌, ◌<◌, List}
use Rattle.std.specs.Prelude.{IfSome}
use Rattle.bus_trace.specs.declared.Row.{Row}
use Rattle.scenario.specs.Value.{ScenarioValue}
use Rattle.due_model.specs.Next.{due, least}
use Rattle.due_model.specs.RunSteps.{run_state}
use Rattle.bus_laws.specs.scsi_device.specs.Told.{first_fault}
use Rattle.bus_run.specs.Away.{due_besides}
use Rattle.bus_run.specs.Places.{AreIn}
use Rattle.bus_run.specs.Seen.{AreSeen}
use Rattle.bus_run.proofs.asking.first_besides.Given as goal

abbrev pub invariant-loop-dev : goal.invariant-loop-dev
invariant-loop-dev g l = record {
  first : (s : ScenarioValue) (rows : List Row) → AreSeen s rows l.observer → AreIn g.D.Device.IsOf s rows l.places
      → l.fault ≡ first_fault (run_state s rows).faults → l.first ≡ least (due_besides l.connection (due s rows)) l.dev;
  device : IfSome l.first (λ row. row.dev < 8);
}

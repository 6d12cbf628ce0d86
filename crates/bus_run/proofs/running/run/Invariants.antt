use Rattle.std.proofs.Common.{◌≡◌, ◌+◌, ◌*◌, [], length, reverse}
use Rattle.due_model.specs.dialogue_model.specs.Observer.{IsObserverOf}
use Rattle.due_model.specs.Plain.{AreOfDevices}
use Rattle.bus_run.specs.Places.{AreIn}
use Rattle.bus_run.specs.Runs.{AreEarly}
use Rattle.bus_run.specs.Seams.{SeamsHold}
use Rattle.bus_run.proofs.Going.{IsGoing}
use Rattle.bus_run.proofs.running.run.Given as goal

abbrev pub invariant-loop : goal.invariant-loop
invariant-loop g l = record {
  observed : IsObserverOf (reverse l.trace.rows) l.observer;
  devices : AreOfDevices (reverse l.trace.rows);
  early : AreEarly (reverse l.trace.rows);
  count : length l.trace.rows ≡ l.counter;
  steps : l.steps ≡ l.initial.steps + 8 * l.counter;
  going : SeamsHold l.scenario → AreIn g.D.Device.IsOf l.scenario [] l.initial.places
      → IsGoing g.D.Device.IsOf l.scenario (reverse l.trace.rows) l.places l.faults
      (reverse l.trace.history.items) l.away;
}

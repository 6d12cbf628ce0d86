-- The rows that all devices were told of.
use Rattle.std.specs.Prelude.{◌≡◌, ◌<◌, ◌^◌, true, List, length}
use Rattle.bus_trace.specs.declared.Row.{Row}
use Rattle.scenario.specs.Value.{ScenarioValue}
use Rattle.due_model.specs.dialogue_model.specs.Observer.{ObserverValue, IsObserverOf}
use Rattle.due_model.specs.Plain.{AreOfDevices}
use Rattle.bus_laws.specs.scsi_device.specs.Lines.{FitsBus}
use Rattle.bus_run.specs.Runs.{AreEarly}
use Rattle.bus_run.specs.Seams.{seams}

-- The observer has seen just these rows, which are of the eight devices, few and early, and they tie what the devices
-- of this scenario know to what the rows tell.
pub record AreSeen (s : ScenarioValue) (rows : List Row) (o : ObserverValue) : Type 0 where
  pub fits : FitsBus s
  pub observed : IsObserverOf rows o
  pub devices : AreOfDevices rows
  pub few : length rows < 2 ^ 32
  pub early : AreEarly rows
  pub tied : seams s rows ≡ true

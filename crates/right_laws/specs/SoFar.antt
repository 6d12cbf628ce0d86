-- What the faults of a scenario have struck after some rows: all that they strike of the samples but for the one that
-- comes next.
use Rattle.std.specs.Prelude.{◌≡◌, List, ◌++◌, reverse}
use Rattle.due_model.specs.bus_trace.specs.declared.Row.{Row}
use Rattle.due_model.specs.scenario.specs.Value.{ScenarioValue}
use Rattle.due_model.specs.story_model.specs.Samples.{Sample, samples, faults_in_order, row_strikes, strikes_by}
use Rattle.due_model.specs.RunSteps.{run_state}
use Rattle.right_laws.specs.Awaited.{awaited, listed}
use Rattle.right_laws.specs.InTurn.{faults_left}

pub record StrikesSoFar (s : ScenarioValue) (rows : List Row) : Type 0 where
  pub taken : List Sample
  pub samples_are : samples s rows ≡ taken ++ listed (awaited s rows)
  pub strikes_are : strikes_by (faults_in_order s.faults) taken ≡ row_strikes (reverse rows)
  pub faults_are : (run_state s rows).faults ≡ faults_left (faults_in_order s.faults) taken

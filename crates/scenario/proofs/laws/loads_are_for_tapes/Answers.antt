use Rattle.scenario.proofs.OnTapes.{no_loads}
use Rattle.scenario.proofs.laws.loads_are_for_tapes.Goals as goal

pub returns : goal.returns
returns c = no_loads

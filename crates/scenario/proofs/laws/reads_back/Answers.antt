use Rattle.scenario.proofs.Lawful.{read_back}
use Rattle.scenario.proofs.laws.reads_back.Goals as goal

pub returns : goal.returns
returns c = read_back

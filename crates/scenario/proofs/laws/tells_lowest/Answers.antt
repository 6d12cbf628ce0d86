use Rattle.scenario.proofs.Lowest.{lowest}
use Rattle.scenario.proofs.laws.tells_lowest.Goals as goal

pub returns : goal.returns
returns c = lowest

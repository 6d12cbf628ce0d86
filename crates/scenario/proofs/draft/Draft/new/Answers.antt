use Rattle.scenario.proofs.Insert.{none_loaded}
use Rattle.scenario.proofs.draft.Draft.new.Goals as goal

pub returns-clause-count : goal.returns-clause-count
returns-clause-count c = none_loaded c.new.result c.new.ensures

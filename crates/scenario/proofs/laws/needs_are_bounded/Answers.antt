use Rattle.scenario.proofs.Obeying.{each_need, all_needs}
use Rattle.scenario.proofs.laws.needs_are_bounded.Goals as goal

pub returns-clause-each : goal.returns-clause-each
returns-clause-each c = each_need

pub returns-clause-all : goal.returns-clause-all
returns-clause-all c = all_needs

use Rattle.bus_rules.proofs.First.{whole_lawful, whole_first}
use Rattle.bus_rules.proofs.laws.verdicts_are_first.Goals as goal

pub returns-clause-lawful : goal.returns-clause-lawful
returns-clause-lawful c = whole_lawful

pub returns-clause-broken : goal.returns-clause-broken
returns-clause-broken c = whole_first

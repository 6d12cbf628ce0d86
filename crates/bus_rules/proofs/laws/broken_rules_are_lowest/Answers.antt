use Rattle.bus_rules.proofs.First.{row_lowest, row_none, end_lowest, end_none}
use Rattle.bus_rules.proofs.laws.broken_rules_are_lowest.Goals as goal

pub returns-clause-row : goal.returns-clause-row
returns-clause-row c = row_lowest

pub returns-clause-none : goal.returns-clause-none
returns-clause-none c = row_none

pub returns-clause-end : goal.returns-clause-end
returns-clause-end c = end_lowest

pub returns-clause-none_at_end : goal.returns-clause-none_at_end
returns-clause-none_at_end c = end_none

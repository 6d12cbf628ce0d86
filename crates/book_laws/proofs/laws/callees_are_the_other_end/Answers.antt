use Rattle.book_laws.proofs.Items.Ready.{selects_for, reselects_for}
use Rattle.book_laws.proofs.laws.callees_are_the_other_end.Goals as goal

-- src/laws.rt
pub returns-clause-selects : goal.returns-clause-selects
returns-clause-selects c = λ s k n host called. selects_for s k n host called

-- src/laws.rt
pub returns-clause-reselects : goal.returns-clause-reselects
returns-clause-reselects c = λ s k n units sound host called. reselects_for s k n units sound host called

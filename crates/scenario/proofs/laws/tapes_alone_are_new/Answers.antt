use Rattle.std.proofs.Common.{refl}
use Rattle.scenario.proofs.TextsTwoThree.{obeys_as}
use Rattle.scenario.proofs.laws.tapes_alone_are_new.Goals as goal

pub returns-clause-text_3 : goal.returns-clause-text_3
returns-clause-text_3 c = obeys_as 2 3 refl refl refl

pub returns-clause-text_2 : goal.returns-clause-text_2
returns-clause-text_2 c = obeys_as 3 2 refl refl refl

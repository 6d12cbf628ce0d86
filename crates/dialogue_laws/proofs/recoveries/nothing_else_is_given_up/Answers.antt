use Rattle.dialogue_laws.proofs.Leavings.GiveUps.{fails_so, loses_so}
use Rattle.dialogue_laws.proofs.recoveries.nothing_else_is_given_up.Goals as goal

pub returns-clause-fails : goal.returns-clause-fails
returns-clause-fails c = λ s rows row n id code o prompt con has. fails_so s rows row n id code o prompt con has

pub returns-clause-lost : goal.returns-clause-lost
returns-clause-lost c = λ s rows row n p o prompt con own has. loses_so s rows row n p o prompt con own has

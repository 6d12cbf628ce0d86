use Rattle.target_units.proofs.UnitSteps.{all_stay}
use Rattle.target_units.proofs.laws.units_stay.Goals as goal

pub returns : goal.returns
returns c = λ s event a b times now dev units st h o. all_stay s event a b times now dev units st h o

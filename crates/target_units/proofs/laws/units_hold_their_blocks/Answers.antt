use Rattle.target_units.proofs.UnitSteps.{blocks_held}
use Rattle.target_units.proofs.laws.units_hold_their_blocks.Goals as goal

pub returns : goal.returns
returns c = λ s a times dev n units h lt. blocks_held s a times dev n units h lt

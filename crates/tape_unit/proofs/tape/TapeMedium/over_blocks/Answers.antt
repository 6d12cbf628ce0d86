use Rattle.tape_unit.proofs.Walks.{blocks_most, blocks_within}
use Rattle.tape_unit.proofs.tape.TapeMedium.over_blocks.Goals as goal

pub returns-clause-most : goal.returns-clause-most
returns-clause-most c = rw c.over_blocks.ensures (blocks_most _ _)

pub returns-clause-within : goal.returns-clause-within
returns-clause-within c = rw (c.over_blocks.ensures, c.side.ensures.seen) (blocks_within _ _)

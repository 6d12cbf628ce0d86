use Rattle.tape_unit.proofs.Walks.{filemarks_most, filemarks_within}
use Rattle.tape_unit.proofs.tape.TapeMedium.over_filemarks.Goals as goal

pub returns-clause-most : goal.returns-clause-most
returns-clause-most c = rw c.over_filemarks.ensures (filemarks_most _ _)

pub returns-clause-within : goal.returns-clause-within
returns-clause-within c = rw (c.over_filemarks.ensures, c.side.ensures.seen) (filemarks_within _ _)

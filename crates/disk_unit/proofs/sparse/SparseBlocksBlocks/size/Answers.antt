use Rattle.std.proofs.Common.{◌≡◌, length, subst}
use Rattle.array_model.specs.Contents.{block_at}
use Rattle.disk_unit.specs.Sparse.{Store}
use Rattle.disk_unit.proofs.Touched.{touched_whole}
use Rattle.disk_unit.proofs.sparse.SparseBlocksBlocks.size.Goals as goal

pub returns-clause-whole : goal.returns-clause-whole
returns-clause-whole c = λ lba. subst (λ (x : Store). length (block_at x.contents lba) ≡ x.contents.size) c.self.view_is
    (touched_whole c.self.inside.size c.self.inside.numbers.items c.self.inside.blocks.items lba c.self.invariant.sized)

use Rattle.std.proofs.Common.{◌≡◌, length, subst}
use Rattle.array_model.specs.Contents.{Contents, block_at}
use Rattle.disk_unit.proofs.AllBlocks.{dense_whole}
use Rattle.disk_unit.proofs.dense.DenseBlocksBlocks.size.Goals as goal

pub returns-clause-whole : goal.returns-clause-whole
returns-clause-whole c = λ lba. subst (λ (x : Contents). length (block_at x lba) ≡ x.size) c.self.view_is
    (dense_whole c.self.inside.size 0 c.self.inside.count lba c.self.inside.bytes.items c.self.invariant.0)

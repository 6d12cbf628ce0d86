use Rattle.std.proofs.Common.{◌∙◌, arith}
use Rattle.tape_unit.proofs.StoredObjects.{one_block_more}
use Rattle.tape_unit.proofs.stored.add_blocks.Goals as goal

pub loop-i-preserved : goal.loop-i-preserved
loop-i-preserved c = (
  omega arith,
  omega arith,
  rw c.push_reserved.ensures.items
      (one_block_more c.loop-i.objects.items c.args.before c.loop-i.i c.args.count (omega arith)
      ∙ c.loop-i.invariant.2),
)

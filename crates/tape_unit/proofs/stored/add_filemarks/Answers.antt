use Rattle.std.proofs.Common.{◌∙◌, arith}
use Rattle.tape_unit.proofs.StoredObjects.{one_filemark_more}
use Rattle.tape_unit.proofs.stored.add_filemarks.Goals as goal

pub loop-preserved : goal.loop-preserved
loop-preserved c = (
  omega arith,
  omega arith,
  rw c.push_reserved.ensures.items
      (one_filemark_more c.loop.objects.items c.args.before c.loop.counter c.args.count (omega arith)
      ∙ c.loop.invariant.2),
)

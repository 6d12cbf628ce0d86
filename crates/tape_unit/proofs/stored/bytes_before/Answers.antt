use Rattle.std.proofs.Common.{arith, w64}
use Rattle.std.proofs.Math.Facts.{Fits-le}
use Rattle.tape_unit.proofs.StoredObjects.{before_in, before_all}
use Rattle.tape_unit.proofs.stored.bytes_before.Goals as goal

pub overflow_mul-result : goal.overflow_mul-result
overflow_mul-result c = Fits-le {w = w64} (before_in c.args.objects.now c.args.place c.args.size c.args.all _
    c.requires.counted (omega arith) c.requires.whole).1 c.ranges.all

pub returns-then-place-objects : goal.returns-then-place-objects
returns-then-place-objects c = (before_in c.args.objects.now c.args.place c.args.size c.args.all _
    c.requires.counted (omega arith) c.requires.whole).0

pub returns-else-place-objects : goal.returns-else-place-objects
returns-else-place-objects c =
    before_all c.args.objects.now c.args.place c.args.size c.args.all (omega arith) c.requires.whole

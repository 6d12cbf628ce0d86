use Rattle.std.proofs.Common.{◌<◌, length, arith}
use Rattle.text_pages.proofs.Putting.{goes_on, ends}
use Rattle.trace_text.proofs.Reeled.{object_next}
use Rattle.trace_text.proofs.tapes_part.put_objects.Goals as goal

pub loop-n-preserved : goal.loop-n-preserved
loop-n-preserved g c =
    let objects = c.args.tape.now.tape.reel.objects in
    let below : c.loop-n.n < length objects = omega (arith, c.loop-n-test.true, c.len-count.ensures) in
    goes_on _ c.loop-n.invariant c.put_object.ensures
    (object_next c.args.target c.args.unit c.loop-n.n objects below)

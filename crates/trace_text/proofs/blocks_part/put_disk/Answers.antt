use Rattle.std.proofs.Common.{◌≤◌, arith}
use Rattle.text_pages.proofs.Putting.{goes_on, ends}
use Rattle.trace_text.proofs.TouchedBlocks.{over_is}
use Rattle.trace_text.proofs.blocks_part.put_disk.Goals as goal

pub loop-from-preserved : goal.loop-from-preserved
loop-from-preserved g c = goes_on _ c.loop-from.invariant c.put_next-from.ensures.text.1 c.put_next-from.ensures.text.2

pub returns : goal.returns
returns g c =
    let disk = c.args.disk.now.contents in
    let past : disk.count ≤ c.loop-from.from = omega (arith, c.count-count.ensures.exact, c.loop-from-test.false) in
    ends c.loop-from.invariant (over_is c.args.target c.args.unit disk.count c.loop-from.from disk.touched past)

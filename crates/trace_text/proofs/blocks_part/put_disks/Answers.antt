use Rattle.std.proofs.Common.{arith}
use Rattle.text_pages.proofs.Putting.{goes_on}
use Rattle.trace_text.proofs.Shown.{disk_next}
use Rattle.trace_text.proofs.blocks_part.put_disks.Goals as goal

pub loop-index-preserved : goal.loop-index-preserved
loop-index-preserved g c = goes_on _ c.loop-index.invariant c.put_disk.ensures
    (disk_next _ _ _ _ _ c.loop-index-test.true (omega arith) c.index-disks-index.is)

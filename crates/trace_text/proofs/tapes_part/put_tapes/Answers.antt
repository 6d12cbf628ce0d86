use Rattle.std.proofs.Common.{arith}
use Rattle.text_pages.proofs.Putting.{goes_on}
use Rattle.trace_text.proofs.Reeled.{tape_next}
use Rattle.trace_text.proofs.tapes_part.put_tapes.Goals as goal

pub loop-index-preserved : goal.loop-index-preserved
loop-index-preserved g c = goes_on _ c.loop-index.invariant c.put_tape.ensures
    (tape_next _ _ _ _ _ c.loop-index-test.true (omega arith) c.index-tapes-index.is)

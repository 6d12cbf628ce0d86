use Rattle.std.proofs.Common.{◌∙◌}
use Rattle.std.specs.Prelude.{slice_set}
use Rattle.initiator_books.specs.declared.mine.MyAbort.{MyAbort}
use Rattle.initiator_books.specs.Books.{done_at}
use Rattle.initiator_books.proofs.Loops.{writes_more}
use Rattle.initiator_books.proofs.marks.all_done.Goals as goal

pub loop-abort-preserved : goal.loop-abort-preserved
loop-abort-preserved c = (λ j. slice_set c.loop-abort.aborts c.loop-abort.abort-index (c.done_at.ensures j))
    ∙ writes_more (λ (m : MyAbort). done_at c.args.number m) c.args.aborts.now c.loop-abort.aborts
    c.loop-abort.abort-index _ c.loop-abort-test.true c.loop-abort.auto.aborts c.loop-abort.invariant

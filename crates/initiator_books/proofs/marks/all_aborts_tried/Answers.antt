use Rattle.std.proofs.Common.{◌∙◌}
use Rattle.std.specs.Prelude.{slice_set}
use Rattle.initiator_books.specs.declared.mine.MyAbort.{MyAbort}
use Rattle.initiator_books.specs.Books.{abort_tried_at}
use Rattle.initiator_books.proofs.Loops.{writes_more}
use Rattle.initiator_books.proofs.marks.all_aborts_tried.Goals as goal

pub loop-abort-preserved : goal.loop-abort-preserved
loop-abort-preserved c = (λ j. slice_set c.loop-abort.aborts c.loop-abort.abort-index (c.abort_tried_at.ensures j))
    ∙ writes_more (λ (m : MyAbort). abort_tried_at c.args.number m) c.args.aborts.now c.loop-abort.aborts
    c.loop-abort.abort-index _ c.loop-abort-test.true c.loop-abort.auto.aborts c.loop-abort.invariant

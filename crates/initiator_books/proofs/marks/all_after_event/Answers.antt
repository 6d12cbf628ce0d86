use Rattle.std.proofs.Common.{◌∙◌}
use Rattle.std.specs.Prelude.{slice_set}
use Rattle.initiator_books.specs.declared.mine.Mine.{Mine}
use Rattle.initiator_books.specs.Mines.{mine_after_event}
use Rattle.initiator_books.proofs.Loops.{writes_more}
use Rattle.initiator_books.proofs.marks.all_after_event.Goals as goal

pub loop-mine-preserved : goal.loop-mine-preserved
loop-mine-preserved c = (λ j. slice_set c.loop-mine.mines c.loop-mine.mine-index (c.after_event.ensures j))
    ∙ writes_more (λ (m : Mine). mine_after_event c.args.event.now m) c.args.mines.now c.loop-mine.mines
    c.loop-mine.mine-index _ c.loop-mine-test.true c.loop-mine.auto.mines c.loop-mine.invariant

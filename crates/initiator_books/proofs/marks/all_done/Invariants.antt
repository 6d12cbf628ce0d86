use Rattle.std.specs.Prelude.{◌≡◌, ◌++◌, map, take, drop}
use Rattle.initiator_books.specs.declared.mine.MyAbort.{MyAbort}
use Rattle.initiator_books.specs.Books.{done_at}
use Rattle.initiator_books.proofs.marks.all_done.Given as goal

abbrev pub invariant-loop-abort : goal.invariant-loop-abort
invariant-loop-abort l = l.aborts ≡ map (λ (m : MyAbort). done_at l.number m) (take l.abort-index l.initial.aborts)
    ++ drop l.abort-index l.initial.aborts

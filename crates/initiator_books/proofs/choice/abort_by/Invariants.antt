use Rattle.std.specs.Prelude.{◌≡◌, drop}
use Rattle.initiator_books.specs.Mines.{my_abort_by}
use Rattle.initiator_books.proofs.choice.abort_by.Given as goal

abbrev pub invariant-loop-abort : goal.invariant-loop-abort
invariant-loop-abort l = my_abort_by l.time (drop l.abort-index l.aborts) ≡ my_abort_by l.time l.aborts

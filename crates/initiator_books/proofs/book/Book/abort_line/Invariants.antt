use Rattle.std.specs.Prelude.{◌≡◌, drop}
use Rattle.initiator_books.specs.Openings.{my_abort_at}
use Rattle.initiator_books.proofs.book.Book.abort_line.Given as goal

abbrev pub invariant-loop-abort : goal.invariant-loop-abort
invariant-loop-abort l = my_abort_at (drop l.abort-index l.self.aborts) l.number ≡ my_abort_at l.self.aborts l.number

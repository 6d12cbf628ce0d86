use Rattle.std.specs.Prelude.{◌≡◌, drop}
use Rattle.initiator_books.specs.Wishes.{abort_target_in}
use Rattle.initiator_books.proofs.book.Book.abort_target.Given as goal

abbrev pub invariant-loop-abort : goal.invariant-loop-abort
invariant-loop-abort l =
    abort_target_in (drop l.abort-index l.self.aborts) l.number ≡ abort_target_in l.self.aborts l.number

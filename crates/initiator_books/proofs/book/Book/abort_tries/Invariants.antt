use Rattle.std.specs.Prelude.{◌≡◌, drop}
use Rattle.initiator_books.specs.Wishes.{abort_tries_in}
use Rattle.initiator_books.proofs.book.Book.abort_tries.Given as goal

abbrev pub invariant-loop-abort : goal.invariant-loop-abort
invariant-loop-abort l =
    abort_tries_in (drop l.abort-index l.self.aborts) l.number ≡ abort_tries_in l.self.aborts l.number

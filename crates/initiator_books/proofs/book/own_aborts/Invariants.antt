use Rattle.std.specs.Prelude.{◌≡◌, ◌+◌, ◌++◌, drop}
use Rattle.initiator_books.specs.Mines.{nothing_sent, my_aborts}
use Rattle.initiator_books.proofs.book.own_aborts.Given as goal

abbrev pub invariant-loop-def : goal.invariant-loop-def
invariant-loop-def l = (l.own.items ++ my_aborts nothing_sent l.dev l.number (drop l.def-index l.aborts)
    ≡ my_aborts nothing_sent l.dev 1 l.aborts) × (l.number ≡ l.def-index + 1)

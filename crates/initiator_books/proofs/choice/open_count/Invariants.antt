use Rattle.std.specs.Prelude.{◌≡◌, ◌+◌, ◌≤◌, drop, length}
use Rattle.initiator_books.specs.Mines.{open_mines}
use Rattle.initiator_books.proofs.choice.open_count.Given as goal

abbrev pub invariant-loop-mine : goal.invariant-loop-mine
invariant-loop-mine l =
    (l.count + length (open_mines (drop l.mine-index l.mines)) ≡ length (open_mines l.mines)) × (l.count ≤ l.mine-index)

use Rattle.std.specs.Prelude.{◌≡◌, drop}
use Rattle.initiator_books.specs.Mines.{open_mines, mines_since}
use Rattle.initiator_books.proofs.choice.mines_since.Given as goal

abbrev pub invariant-loop-mine : goal.invariant-loop-mine
invariant-loop-mine l = mines_since l.most (open_mines l.beside) (drop l.mine-index l.mines)
    ≡ mines_since l.most (open_mines l.beside) l.mines

use Rattle.std.specs.Prelude.{◌≡◌, drop}
use Rattle.initiator_books.specs.Mines.{open_mines, mine_by}
use Rattle.initiator_books.proofs.choice.mine_by.Given as goal

abbrev pub invariant-loop-mine : goal.invariant-loop-mine
invariant-loop-mine l = mine_by l.most l.time (open_mines l.beside) (drop l.mine-index l.mines)
    ≡ mine_by l.most l.time (open_mines l.beside) l.mines

use Rattle.std.specs.Prelude.{◌≡◌, drop}
use Rattle.initiator_books.specs.Endings.{ends_of_mines}
use Rattle.initiator_books.proofs.endings.Endings.end_all.Given as goal

abbrev pub invariant-loop-mine : goal.invariant-loop-mine
invariant-loop-mine l = ends_of_mines l.event l.ending (drop l.mine-index l.mines) l.self
    ≡ ends_of_mines l.event l.ending l.mines l.initial.self

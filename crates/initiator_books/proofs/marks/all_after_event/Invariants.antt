use Rattle.std.specs.Prelude.{◌≡◌, ◌++◌, map, take, drop}
use Rattle.initiator_books.specs.declared.mine.Mine.{Mine}
use Rattle.initiator_books.specs.Mines.{mine_after_event}
use Rattle.initiator_books.proofs.marks.all_after_event.Given as goal

abbrev pub invariant-loop-mine : goal.invariant-loop-mine
invariant-loop-mine l = l.mines ≡ map (λ (m : Mine). mine_after_event l.event m) (take l.mine-index l.initial.mines)
    ++ drop l.mine-index l.initial.mines

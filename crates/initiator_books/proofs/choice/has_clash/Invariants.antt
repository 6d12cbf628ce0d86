use Rattle.std.specs.Prelude.{◌≡◌, drop}
use Rattle.std.specs.List.{list_any}
use Rattle.initiator_books.specs.Mines.{open_mines, is_clash_of}
use Rattle.initiator_books.proofs.choice.has_clash.Given as goal

abbrev pub invariant-loop-other : goal.invariant-loop-other
invariant-loop-other l = list_any (λ d. is_clash_of l.mine d) (open_mines (drop l.other-index l.mines))
    ≡ list_any (λ d. is_clash_of l.mine d) (open_mines l.mines)

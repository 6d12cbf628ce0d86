use Rattle.std.specs.Prelude.{◌≡◌, ◌+◌, ◌++◌, map, drop, []}
use Rattle.due_model.specs.Wants.{own_commands}
use Rattle.initiator_books.specs.Mines.{nothing_sent, mine_of, mines_of}
use Rattle.initiator_books.proofs.commands.own_mines.Given as goal

abbrev pub invariant-loop-def : goal.invariant-loop-def
invariant-loop-def l =
    (l.mines.items ++ map (mine_of []) (own_commands nothing_sent l.dev l.number (drop l.def-index l.commands))
    ≡ mines_of nothing_sent l.dev l.commands) × (l.number ≡ l.def-index + 1)

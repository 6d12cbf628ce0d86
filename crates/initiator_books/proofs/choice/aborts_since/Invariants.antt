use Rattle.std.specs.Prelude.{◌≡◌, drop}
use Rattle.due_model.specs.reaction_model.specs.Reactions.{sooner_time}
use Rattle.initiator_books.specs.Mines.{my_aborts_since}
use Rattle.initiator_books.proofs.choice.aborts_since.Given as goal

abbrev pub invariant-loop-abort : goal.invariant-loop-abort
invariant-loop-abort l = sooner_time l.since (my_aborts_since (drop l.abort-index l.aborts)) ≡ my_aborts_since l.aborts

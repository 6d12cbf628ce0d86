use Rattle.std.specs.Prelude.{◌≡◌, length, take, true}
use Rattle.initiator_books.specs.Commands.{are_placed}
use Rattle.initiator_books.proofs.commands.places_of.Given as goal

abbrev pub invariant-loop-place : goal.invariant-loop-place
invariant-loop-place l = (are_placed l.places.items 0 (take l.place l.mines) ≡ true) × (length l.places.items ≡ l.limit)

use Rattle.std.specs.Prelude.{◌≡◌, drop}
use Rattle.initiator_books.specs.Books.{my_sense}
use Rattle.initiator_books.proofs.choice.first_sense.Given as goal

abbrev pub invariant-loop-number : goal.invariant-loop-number
invariant-loop-number l =
    my_sense l.commands.mines (drop l.number-index l.numbers) ≡ my_sense l.commands.mines l.numbers

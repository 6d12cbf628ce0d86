use Rattle.std.proofs.Common.{◌∙◌, ap, drop}
use Rattle.std.proofs.lemmas.List.{take_rest}
use Rattle.initiator_books.specs.Books.{BookValue, my_sense}
use Rattle.initiator_books.proofs.CheckQueues.{sense_of_rest}
use Rattle.initiator_books.proofs.book.Book.sense.Goals as goal

pub returns : goal.returns
returns c = c.first_sense.ensures
    ∙ (λ i. my_sense c.self.inside.commands.mines (take_rest c.numbers.result.now c.self.inside.settled i))
    ∙ (λ i. my_sense c.self.inside.commands.mines (drop c.self.inside.settled (c.numbers.ensures i))) ∙ sense_of_rest
    c.self.inside.commands.mines c.self.inside.checks.queue c.self.inside.settled c.self.invariant.settled
    ∙ ap (λ (v : BookValue). my_sense v.mines v.queue) c.self.view_is

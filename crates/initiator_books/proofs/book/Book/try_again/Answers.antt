use Rattle.initiator_books.specs.declared.mine.Mine.{Mine}
use Rattle.initiator_books.specs.Mines.{tried_at}
use Rattle.initiator_books.proofs.CheckQueues.{settled_kept, tried_keeps}
use Rattle.initiator_books.proofs.book.Book.try_again.Goals as goal

pub invariant_of-self : goal.invariant_of-self
invariant_of-self c = settled_kept (λ (m : Mine). tried_at c.args.number m)
    (tried_keeps c.args.number) c.self.inside.commands c.try_again.new.self c.self.inside.checks.queue
    c.self.inside.checks.room c.self.inside.settled c.try_again.ensures c.self.invariant

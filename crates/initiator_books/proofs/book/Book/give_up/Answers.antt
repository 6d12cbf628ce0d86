use Rattle.initiator_books.specs.declared.mine.Mine.{Mine}
use Rattle.initiator_books.specs.Mines.{over_at}
use Rattle.initiator_books.proofs.CheckQueues.{settled_kept, over_keeps}
use Rattle.initiator_books.proofs.book.Book.give_up.Goals as goal

pub invariant_of-self : goal.invariant_of-self
invariant_of-self c = settled_kept (λ (m : Mine). over_at c.args.id m)
    (over_keeps c.args.id) c.self.inside.commands c.give_up.new.self c.self.inside.checks.queue
    c.self.inside.checks.room c.self.inside.settled c.give_up.ensures c.self.invariant

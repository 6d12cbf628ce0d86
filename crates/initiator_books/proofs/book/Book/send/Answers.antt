use Rattle.initiator_books.specs.declared.mine.Mine.{Mine}
use Rattle.initiator_books.specs.Mines.{sent_at}
use Rattle.initiator_books.proofs.CheckQueues.{front_kept, sent_keeps}
use Rattle.initiator_books.proofs.book.Book.send.Goals as goal

pub settled_from-self-inside-requires-clause-settled : goal.settled_from-self-inside-requires-clause-settled
settled_from-self-inside-requires-clause-settled c = front_kept (λ (m : Mine). sent_at c.args.id m)
    (sent_keeps c.args.id) c.self.inside.commands c.send.new.self c.self.inside.checks.queue c.numbers.result.now
    c.self.inside.settled c.send.ensures c.numbers.ensures c.self.invariant.settled

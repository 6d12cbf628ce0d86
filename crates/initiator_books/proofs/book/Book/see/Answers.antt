use Rattle.initiator_books.specs.declared.mine.Mine.{Mine}
use Rattle.initiator_books.specs.Mines.{mine_after_event}
use Rattle.initiator_books.proofs.CheckQueues.{front_kept, event_keeps_senses}
use Rattle.initiator_books.proofs.book.Book.see.Goals as goal

pub settled_from-self-inside-requires-clause-settled : goal.settled_from-self-inside-requires-clause-settled
settled_from-self-inside-requires-clause-settled c = front_kept (λ (m : Mine). mine_after_event c.args.event.now m)
    (event_keeps_senses c.args.event.now) c.self.inside.commands c.see.new.self c.self.inside.checks.queue
    c.numbers.result.now c.self.inside.settled c.see.ensures c.numbers.ensures c.self.invariant.settled

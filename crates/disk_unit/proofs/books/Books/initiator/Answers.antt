use Rattle.disk_unit.proofs.BookLists.{bounded_from}
use Rattle.disk_unit.proofs.books.Books.initiator.Goals as goal

pub returns-clause-device : goal.returns-clause-device
returns-clause-device c = bounded_from c.self.inside.queue.keys c.self.inside.queue.arrived c.args.key
    c.entry.result.now c.self.invariant.1 c.entry.ensures

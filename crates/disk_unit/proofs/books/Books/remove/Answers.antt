use Rattle.std.proofs.Common.{◌≤◌, length, sym, subst}
use Rattle.tag_queue.specs.Queue.{QueueState}
use Rattle.disk_unit.specs.Books.{AreBounded}
use Rattle.disk_unit.proofs.BookLists.{bounded_from, bounded_without}
use Rattle.disk_unit.proofs.books.Books.remove.Goals as goal

pub invariant_of-self : goal.invariant_of-self
invariant_of-self c = subst (λ (q : QueueState). (q.keys ≤ length c.self.inside.blocks.items)
    × AreBounded q.keys q.arrived) (sym c.remove.ensures.exact) (
      c.self.invariant.0,
      bounded_without c.self.inside.queue.keys c.self.inside.queue.arrived c.args.key c.self.invariant.1,
    )

pub returns-clause-device : goal.returns-clause-device
returns-clause-device c = bounded_from c.self.inside.queue.keys c.self.inside.queue.arrived c.args.key c.remove.result
    c.self.invariant.1 c.remove.ensures.entry

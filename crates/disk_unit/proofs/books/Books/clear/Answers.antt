use Rattle.std.proofs.Common.{◌≤◌, length, sym, subst}
use Rattle.tag_queue.specs.Queue.{QueueState}
use Rattle.disk_unit.specs.Books.{AreBounded}
use Rattle.disk_unit.proofs.BookLists.{bounded_cleared}
use Rattle.disk_unit.proofs.books.Books.clear.Goals as goal

pub invariant_of-self : goal.invariant_of-self
invariant_of-self c = subst (λ (q : QueueState). (q.keys ≤ length c.self.inside.blocks.items)
    × AreBounded q.keys q.arrived) (sym c.clear.ensures.exact) (
      c.self.invariant.0,
      bounded_cleared c.self.inside.queue.keys c.args.who c.self.inside.queue.arrived c.self.invariant.1,
    )

use Rattle.std.proofs.Common.{◌∙◌, ap, List}
use Rattle.std.specs.Prelude.{is_some}
use Rattle.tag_queue.specs.declared.arrivals.Arrival.{Arrival}
use Rattle.tag_queue.specs.Queue.{QueueState, has_any}
use Rattle.tag_queue.specs.Stored.{queued_at, first_of}
use Rattle.tag_queue.proofs.Clearing.{any_first}
use Rattle.tag_queue.proofs.queue.Queue.has_any.Goals as goal

pub returns : goal.returns
returns c = c.is_some.ensures ∙ ap is_some (c.first_of.ensures
    ∙ ap (λ (xs : List Arrival). first_of (queued_at c.self.inside.entries xs) c.args.who) c.as_slice.ensures.value)
    ∙ any_first c.args.who (queued_at c.self.inside.entries c.self.inside.arrivals.items)
    ∙ ap (λ (q : QueueState). has_any c.args.who q.arrived) c.self.view_is

use Rattle.std.proofs.Common.{[], None, arith}
use Rattle.std.proofs.lemmas.Grind.{common_steps}
use Rattle.tag_queue.proofs.Sound.{length_queued}
use Rattle.tag_queue.proofs.queue.Queue.live_count.Goals as goal

pub returns : goal.returns
returns c =
    let l = length_queued c.self.inside.entries None c.self.inside.current
    c.self.inside.arrivals.items [] c.self.invariant.kept in
    rw (← c.self.view_is) grind (arith, common_steps)

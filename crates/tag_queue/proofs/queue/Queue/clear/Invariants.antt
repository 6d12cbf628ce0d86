use Rattle.std.proofs.Common.{◌≡◌, ◌≤◌, length}
use Rattle.tag_queue.specs.Queue.{queue_cleared_of}
use Rattle.tag_queue.proofs.queue.Queue.clear.Given as goal

abbrev pub invariant-loop-key : goal.invariant-loop-key
invariant-loop-key l = (queue_cleared_of l.self l.who ≡ queue_cleared_of l.initial.self l.who)
    × (length l.self.arrived ≤ length l.initial.self.arrived)

abbrev pub decreases-loop-key : goal.decreases-loop-key
decreases-loop-key l = length l.self.arrived

use Rattle.std.proofs.Common.{◌≡◌, ◌≤◌, List, None, [], length, drop}
use Rattle.array_model.specs.declared.entries.Entry.{Entry}
use Rattle.array_model.specs.Order.{runnable_after, has_ordered}
use Rattle.tag_queue.specs.Stored.{entries_at, AreKept}
use Rattle.tag_queue.proofs.Scans.{last_or}
use Rattle.tag_queue.proofs.arrivals.last_in_order.Given as goal

abbrev pub invariant-loop-arrival : goal.invariant-loop-arrival
invariant-loop-arrival l =
    (before : List Entry) × AreKept l.entries None l.current before (drop l.arrival-index l.arrivals)
    × (l.place ≡ length before) × (l.ordered ≡ has_ordered before) × (last_or l.found
    (runnable_after before l.place (entries_at l.entries l.current (drop l.arrival-index l.arrivals)))
    ≡ last_or None (runnable_after [] 0 (entries_at l.entries l.current l.arrivals)))
    × (l.place ≤ l.arrival-index)

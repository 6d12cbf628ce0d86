use Rattle.std.proofs.Common.{◌≡◌, ◌≤◌, List, None, drop}
use Rattle.array_model.specs.declared.entries.Entry.{Entry}
use Rattle.array_model.specs.Order.{last_head}
use Rattle.tag_queue.specs.Stored.{entries_at, AreKept}
use Rattle.tag_queue.proofs.arrivals.last_head.Given as goal

abbrev pub invariant-loop-arrival : goal.invariant-loop-arrival
invariant-loop-arrival l =
    (before : List Entry)
    × AreKept l.entries None l.current before (drop l.arrival-index l.arrivals)
    × (last_head (entries_at l.entries l.current (drop l.arrival-index l.arrivals)) l.place l.found
    ≡ last_head (entries_at l.entries l.current l.arrivals) 0 None)
    × (l.place ≤ l.arrival-index)

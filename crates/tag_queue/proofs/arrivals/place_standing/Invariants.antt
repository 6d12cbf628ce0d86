use Rattle.std.proofs.Common.{◌≡◌, ◌≤◌, ◌+◌, List, None, [], length, drop}
use Rattle.array_model.specs.declared.entries.Entry.{Entry}
use Rattle.array_model.specs.Order.{may_run_in_order, has_ordered}
use Rattle.tag_queue.specs.Queue.{place_of}
use Rattle.tag_queue.specs.Stored.{waiting_at, entries_at, AreKept}
use Rattle.tag_queue.proofs.arrivals.place_standing.Given as goal

abbrev pub invariant-loop-arrival : goal.invariant-loop-arrival
invariant-loop-arrival l =
    (before : List Entry) × AreKept l.entries None l.current before (drop l.arrival-index l.arrivals)
    × (l.place ≡ length before) × (l.ordered ≡ has_ordered before)
    × (l.place + place_of (waiting_at l.entries l.current (drop l.arrival-index l.arrivals)) l.key
    ≡ place_of (waiting_at l.entries l.current l.arrivals) l.key)
    × (may_run_in_order before (entries_at l.entries l.current (drop l.arrival-index l.arrivals))
    (place_of (waiting_at l.entries l.current (drop l.arrival-index l.arrivals)) l.key) ≡ may_run_in_order []
    (entries_at l.entries l.current l.arrivals) (place_of (waiting_at l.entries l.current l.arrivals) l.key))
    × (l.place ≤ l.arrival-index)

use Rattle.std.proofs.Common.{◌≡◌, ◌≤◌, ◌+◌, List, None, drop}
use Rattle.array_model.specs.declared.entries.Entry.{Entry}
use Rattle.tag_queue.specs.Stored.{entries_at, held_back_by, AreKept}
use Rattle.tag_queue.proofs.arrivals.earlier_conflicts.Given as goal

abbrev pub invariant-loop-arrival : goal.invariant-loop-arrival
invariant-loop-arrival l =
    (before : List Entry) × AreKept l.entries None l.current before (drop l.arrival-index l.arrivals)
    × (l.count + held_back_by (entries_at l.entries l.current (drop l.arrival-index l.arrivals)) l.entry
    ≡ held_back_by (entries_at l.entries l.current l.arrivals) l.entry)
    × (l.count ≤ l.arrival-index)

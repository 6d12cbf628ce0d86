use Rattle.std.proofs.Common.{◌≡◌, List, None, drop}
use Rattle.array_model.specs.declared.entries.Entry.{Entry}
use Rattle.tag_queue.specs.Queue.{key_at}
use Rattle.tag_queue.specs.Stored.{waiting_at, AreKept}
use Rattle.tag_queue.proofs.arrivals.key_at.Given as goal

abbrev pub invariant-loop-arrival : goal.invariant-loop-arrival
invariant-loop-arrival l =
    (before : List Entry) × AreKept l.entries None l.current before (drop l.arrival-index l.arrivals)
    × (key_at (waiting_at l.entries l.current (drop l.arrival-index l.arrivals)) l.before
    ≡ key_at (waiting_at l.entries l.current l.arrivals) l.place)

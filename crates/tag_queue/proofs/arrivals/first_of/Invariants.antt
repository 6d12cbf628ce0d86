use Rattle.std.proofs.Common.{◌≡◌, List, Option, None, ℕ, drop}
use Rattle.array_model.specs.declared.entries.Entry.{Entry}
use Rattle.tag_queue.specs.Stored.{queued_at, AreKept, first_of}
use Rattle.tag_queue.proofs.arrivals.first_of.Given as goal

abbrev pub invariant-loop-arrival : goal.invariant-loop-arrival
invariant-loop-arrival l = (current : Option ℕ) × (before : List Entry)
    × AreKept l.entries None current before (drop l.arrival-index l.arrivals)
    × (first_of (queued_at l.entries (drop l.arrival-index l.arrivals)) l.who
    ≡ first_of (queued_at l.entries l.arrivals) l.who)

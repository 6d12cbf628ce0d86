use Rattle.std.proofs.Common.{◌≡◌, List, Option, None, ℕ, drop}
use Rattle.array_model.specs.declared.entries.Entry.{Entry}
use Rattle.tag_queue.specs.Queue.{key_of_process}
use Rattle.tag_queue.specs.Stored.{queued_at, AreKept}
use Rattle.tag_queue.proofs.arrivals.key_of_process.Given as goal

abbrev pub invariant-loop-arrival : goal.invariant-loop-arrival
invariant-loop-arrival l = (current : Option ℕ) × (before : List Entry)
    × AreKept l.entries None current before (drop l.arrival-index l.arrivals)
    × (key_of_process (queued_at l.entries (drop l.arrival-index l.arrivals)) l.id
    ≡ key_of_process (queued_at l.entries l.arrivals) l.id)

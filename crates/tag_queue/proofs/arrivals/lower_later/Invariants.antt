use Rattle.std.proofs.Common.{◌≡◌, List, Option, None, ℕ, ◌++◌, drop, take}
use Rattle.std.proofs.Common.{false}
use Rattle.array_model.specs.declared.entries.Entry.{Entry}
use Rattle.tag_queue.specs.Stored.{AreKept, lowered}
use Rattle.tag_queue.proofs.arrivals.lower_later.Given as goal

abbrev pub invariant-loop-arrival : goal.invariant-loop-arrival
invariant-loop-arrival l =
    (current : Option ℕ) × (before : List Entry)
    × AreKept l.entries None current before (drop l.arrival-index l.arrivals)
    × (take l.arrival-index l.arrivals ++ lowered l.entries l.leaving l.key l.passed (drop l.arrival-index l.arrivals)
    ≡ lowered l.entries l.leaving l.key false l.initial.arrivals)

use Rattle.std.proofs.Common.{◌-◌, ◌≡◌, ◌≤◌, length}
use Rattle.array_model.specs.Reels.{over_filemarks}
use Rattle.tape_unit.specs.Stored.{seen}
use Rattle.tape_unit.proofs.Walks.{filemarks_left}
use Rattle.tape_unit.proofs.walk.over_filemarks.Given as goal

-- The walk from here on ends as the whole walk.
abbrev pub invariant-loop-moved : goal.invariant-loop-moved
invariant-loop-moved l = (l.moved ≤ l.passed) × (l.passed ≤ length l.objects)
    × (filemarks_left (seen l.forward l.objects) l.count l.moved l.passed
    ≡ over_filemarks (seen l.forward l.objects) l.count)

abbrev pub decreases-loop-moved : goal.decreases-loop-moved
decreases-loop-moved l = length l.objects - l.passed

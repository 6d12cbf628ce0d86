use Rattle.std.proofs.Common.{◌-◌, ◌≡◌, ◌≤◌, length}
use Rattle.array_model.specs.Reels.{over_blocks}
use Rattle.tape_unit.specs.Stored.{seen}
use Rattle.tape_unit.proofs.Walks.{blocks_left}
use Rattle.tape_unit.proofs.walk.over_blocks.Given as goal

-- The walk from here on ends as the whole walk.
abbrev pub invariant-loop-passed : goal.invariant-loop-passed
invariant-loop-passed l = (l.passed ≤ l.count) × (l.passed ≤ length l.objects)
    × (blocks_left (seen l.forward l.objects) l.count l.passed ≡ over_blocks (seen l.forward l.objects) l.count)

abbrev pub decreases-loop-passed : goal.decreases-loop-passed
decreases-loop-passed l = l.count - l.passed

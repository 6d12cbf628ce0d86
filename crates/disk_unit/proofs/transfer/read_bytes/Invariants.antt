use Rattle.std.proofs.Common.{length, ◌-◌, ◌≡◌, ◌≤◌, take, drop}
use Rattle.array_model.specs.Contents.{bytes_at}
use Rattle.disk_unit.proofs.transfer.read_bytes.Given as goal

abbrev pub invariant-loop-done : goal.invariant-loop-done
invariant-loop-done g l = record {
  in_range : l.done ≤ length l.into;
  read : take l.done l.into ≡ take l.done (drop l.at (bytes_at (g.B.Blocks.contents l.blocks) l.lba l.count));
}

abbrev pub decreases-loop-done : goal.decreases-loop-done
decreases-loop-done g l = length l.initial.into - l.done

use Rattle.std.proofs.Common.{◌≡◌, ◌+◌, ◌-◌, ◌*◌, ◌≤◌, drop}
use Rattle.array_model.specs.Contents.{with_bytes}
use Rattle.disk_unit.proofs.transfer.write_bytes.Given as goal

abbrev pub invariant-loop-i : goal.invariant-loop-i
invariant-loop-i g l = record {
  count : (g.B.Blocks.contents l.blocks).count ≡ (g.B.Blocks.contents l.initial.blocks).count;
  size : (g.B.Blocks.contents l.blocks).size ≡ (g.B.Blocks.contents l.initial.blocks).size;
  rest : with_bytes (g.B.Blocks.contents l.blocks) (l.lba + l.i) (l.count - l.i) (drop (l.i * l.size) l.sent)
      ≡ with_bytes (g.B.Blocks.contents l.initial.blocks) l.lba l.count l.sent;
  room : g.B.Blocks.spare_blocks l.initial.blocks ≤ g.B.Blocks.spare_blocks l.blocks + l.i;
}

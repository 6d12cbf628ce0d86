use Rattle.std.proofs.Common.{◌≡◌, ◌+◌, ◌≤◌, length, drop}
use Rattle.array_model.specs.Contents.{filled_contents}
use Rattle.target_units.specs.Fillings.{AreFilled, fill_count}
use Rattle.target_units.proofs.fillings.fill.Given as goal

abbrev pub invariant-loop-one : goal.invariant-loop-one
invariant-loop-one l = record {
  fits : AreFilled l.def (drop l.one-index l.fills);
  count : l.blocks.contents.count ≡ l.def.blocks;
  size : l.blocks.contents.size ≡ l.def.size;
  within : l.one-index ≤ length l.fills;
  room : fill_count l.def (drop l.one-index l.fills) ≤ l.blocks.spare;
  spare : l.initial.blocks.spare + fill_count l.def (drop l.one-index l.fills)
      ≤ l.blocks.spare + fill_count l.def l.fills;
  contents : filled_contents l.def (drop l.one-index l.fills) l.blocks.contents
      ≡ filled_contents l.def l.fills l.initial.blocks.contents;
}

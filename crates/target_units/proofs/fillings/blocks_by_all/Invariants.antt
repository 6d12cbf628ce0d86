use Rattle.std.proofs.Common.{◌≡◌, ◌+◌, ◌-◌, ◌^◌, ◌≤◌, drop, min}
use Rattle.disk_unit.specs.Held.{disk_of}
use Rattle.target_units.specs.Fillings.{blocks_by_all}
use Rattle.target_units.proofs.fillings.blocks_by_all.Given as goal

abbrev pub invariant-loop-command : goal.invariant-loop-command
invariant-loop-command l = record {
  sum : min (l.blocks + blocks_by_all (disk_of l.def.blocks) l.def (drop l.command-index l.commands)) (2 ^ 64 - 1)
      ≡ min (blocks_by_all (disk_of l.def.blocks) l.def l.commands) (2 ^ 64 - 1);
  bound : l.blocks ≤ 2 ^ 64 - 1;
}

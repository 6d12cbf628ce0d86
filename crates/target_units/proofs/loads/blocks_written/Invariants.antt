use Rattle.std.proofs.Common.{◌≡◌, ◌+◌, ◌-◌, ◌^◌, ◌≤◌, drop, min}
use Rattle.scenario.specs.Lookups.{tape_unit}
use Rattle.disk_unit.specs.Held.{a_tape}
use Rattle.target_units.specs.Fillings.{blocks_by_all}
use Rattle.target_units.proofs.loads.blocks_written.Given as goal

abbrev pub invariant-loop-command : goal.invariant-loop-command
invariant-loop-command l = record {
  sum : min (l.blocks + blocks_by_all a_tape (tape_unit l.def) (drop l.command-index l.commands)) (2 ^ 64 - 1)
      ≡ min (blocks_by_all a_tape (tape_unit l.def) l.commands) (2 ^ 64 - 1);
  bound : l.blocks ≤ 2 ^ 64 - 1;
}

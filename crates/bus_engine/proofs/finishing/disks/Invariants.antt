use Rattle.std.proofs.Common.{◌≡◌, List, length, drop, map, false}
use Rattle.std.specs.List.{AllByRecursion}
use Rattle.scenario.specs.declared.value.UnitDef.{UnitDef}
use Rattle.array_model.specs.Contents.{Contents}
use Rattle.run_record.specs.Value.{held_by}
use Rattle.bus_engine.specs.Disks.{AreParted, IsWithin}
use Rattle.bus_engine.proofs.Disks.{AreStored}
use Rattle.bus_engine.proofs.finishing.disks.Given as goal

abbrev pub invariant-loop-index : goal.invariant-loop-index
invariant-loop-index l = record {
  count : length l.disks.items ≡ l.index;
  lines : AllByRecursion IsWithin (drop l.index l.units);
  held : (contents there : List Contents) (others : List UnitDef)
      → AreParted false l.initial.of_target l.units contents others there
      → AreStored false l.of_target (drop l.index l.units) (map held_by l.disks.items) contents others there;
}

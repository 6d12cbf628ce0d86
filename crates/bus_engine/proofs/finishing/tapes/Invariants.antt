use Rattle.std.proofs.Common.{◌≡◌, List, [], length, drop, map, true}
use Rattle.std.specs.List.{AllByRecursion}
use Rattle.scenario.specs.Lookups.{tape_unit}
use Rattle.array_model.specs.Contents.{Contents}
use Rattle.run_record.specs.Value.{reeled_by}
use Rattle.bus_engine.specs.Disks.{AreParted, IsTapeWithin}
use Rattle.bus_engine.proofs.Disks.{AreStored}
use Rattle.bus_engine.proofs.finishing.tapes.Given as goal

abbrev pub invariant-loop-index : goal.invariant-loop-index
invariant-loop-index l = record {
  count : length l.tapes.items ≡ l.index;
  lines : AllByRecursion IsTapeWithin (drop l.index l.lines);
  held : (contents : List Contents) → AreParted true l.initial.of_target (map tape_unit l.lines) contents [] []
      → AreStored true l.of_target (map tape_unit (drop l.index l.lines)) (map reeled_by l.tapes.items) contents [] [];
}

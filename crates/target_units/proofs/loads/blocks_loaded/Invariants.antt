use Rattle.std.proofs.Common.{◌≡◌, ◌+◌, ◌≤◌, length, drop}
use Rattle.target_units.specs.Loads.{blocks_loaded}
use Rattle.target_units.proofs.loads.blocks_loaded.Given as goal

abbrev pub invariant-loop-one : goal.invariant-loop-one
invariant-loop-one l = record {
  within : l.one-index ≤ length l.loads;
  few : l.blocks ≤ l.one-index;
  counted : l.blocks + blocks_loaded l.def (drop l.one-index l.loads) ≡ blocks_loaded l.def l.loads;
}

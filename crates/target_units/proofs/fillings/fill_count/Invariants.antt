use Rattle.std.proofs.Common.{◌≡◌, ◌+◌, ◌≤◌, length, drop}
use Rattle.target_units.specs.Fillings.{fill_count}
use Rattle.target_units.proofs.fillings.fill_count.Given as goal

abbrev pub invariant-loop-one : goal.invariant-loop-one
invariant-loop-one l = record {
  within : l.one-index ≤ length l.fills;
  few : l.count ≤ l.one-index;
  counted : l.count + fill_count l.def (drop l.one-index l.fills) ≡ fill_count l.def l.fills;
}

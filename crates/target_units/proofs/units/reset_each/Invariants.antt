use Rattle.std.proofs.Common.{◌≡◌, ℕ, ◌<◌, ◌≤◌, length}
use Rattle.target_units.specs.Units.{unit_in, unit_after_reset}
use Rattle.target_units.proofs.units.reset_each.Given as goal

abbrev pub invariant-loop-n : goal.invariant-loop-n
invariant-loop-n l = record {
  long : length l.units ≡ 8;
  done : (k : ℕ) → k < l.n → unit_in l.units k ≡ unit_after_reset l.now (unit_in l.initial.units k);
  rest : (k : ℕ) → l.n ≤ k → unit_in l.units k ≡ unit_in l.initial.units k;
}

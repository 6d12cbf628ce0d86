use Rattle.std.proofs.Common.{◌≡◌, ◌&&◌, drop}
use Rattle.std.specs.List.{find}
use Rattle.std.specs.Prelude.{◌==◌}
use Rattle.scenario.proofs.lookup.unit_line.Given as goal

abbrev pub invariant-loop-def : goal.invariant-loop-def
invariant-loop-def l = find (λ u. u.target == l.target && u.unit == l.unit) (drop l.def-index l.units)
    ≡ find (λ u. u.target == l.target && u.unit == l.unit) l.units

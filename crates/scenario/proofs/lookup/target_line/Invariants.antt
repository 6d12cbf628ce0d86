use Rattle.std.specs.Prelude.{◌≡◌, ◌==◌, drop}
use Rattle.std.specs.List.{find}
use Rattle.scenario.specs.declared.value.TargetDef.{TargetDef}
use Rattle.scenario.proofs.lookup.target_line.Given as goal

abbrev pub invariant-loop-def : goal.invariant-loop-def
invariant-loop-def l = find (λ (t : TargetDef). t.dev == l.dev) (drop l.def-index l.targets)
    ≡ find (λ (t : TargetDef). t.dev == l.dev) l.targets

use Rattle.std.specs.Prelude.{◌≡◌, ◌&&◌, ◌==◌, drop}
use Rattle.std.specs.List.{find}
use Rattle.scenario.specs.declared.value.TapeDef.{TapeDef}
use Rattle.scenario.proofs.lookup.tape_line.Given as goal

abbrev pub invariant-loop-def : goal.invariant-loop-def
invariant-loop-def l = find (λ (t : TapeDef). t.target == l.target && t.unit == l.unit) (drop l.def-index l.tapes)
    ≡ find (λ (t : TapeDef). t.target == l.target && t.unit == l.unit) l.tapes

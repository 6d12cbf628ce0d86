use Rattle.std.specs.Prelude.{◌≡◌, ◌==◌, drop}
use Rattle.std.specs.List.{find}
use Rattle.scenario.specs.declared.value.HostDef.{HostDef}
use Rattle.scenario.proofs.lookup.host_line.Given as goal

abbrev pub invariant-loop-def : goal.invariant-loop-def
invariant-loop-def l =
    find (λ (h : HostDef). h.dev == l.dev) (drop l.def-index l.hosts) ≡ find (λ (h : HostDef). h.dev == l.dev) l.hosts

use Rattle.std.proofs.Common.{◌<◌, List}
use Rattle.std.specs.List.{AllByRecursion}
use Rattle.bus_trace.specs.declared.Row.{Row}
use Rattle.bus_lines.specs.BusView.{IsBusViewOf}
use Rattle.connect.specs.Ready.{time_limit}
use Rattle.part_tests.proofs.links.view_of.Given as goal

-- The view is that of some rows, all before the limit.
abbrev pub invariant-loop-time : goal.invariant-loop-time
invariant-loop-time l =
    (past : List Row) × IsBusViewOf past l.view × AllByRecursion (λ (row : Row). row.time < time_limit) past

use Rattle.std.proofs.Common.{◌<◌, ◌^◌, List}
use Rattle.std.specs.List.{AllByRecursion}
use Rattle.bus_trace.specs.declared.Row.{Row}
use Rattle.dialogue_model.specs.Observer.{IsObserverOf}
use Rattle.part_tests.proofs.targets.observer_of.Given as goal

-- The observer is that of some rows, all before the limit.
abbrev pub invariant-loop-mark : goal.invariant-loop-mark
invariant-loop-mark l =
    (past : List Row) × IsObserverOf past l.observer × AllByRecursion (λ (row : Row). row.time < 2 ^ 63) past

use Rattle.std.proofs.Common.{◌<◌, ◌^◌, List}
use Rattle.std.specs.List.{AllByRecursion}
use Rattle.bus_trace.specs.declared.Row.{Row}
use Rattle.dialogue_model.specs.Observer.{IsObserverOf}
use Rattle.bus_tests.proofs.hosts.observer_of.Given as goal

-- The observer is that of some rows, all before the limit.
abbrev pub invariant-loop-row : goal.invariant-loop-row
invariant-loop-row l =
    (past : List Row) × IsObserverOf past l.observer × AllByRecursion (λ (row : Row). row.time < 2 ^ 63) past

-- The rows so far were judged, and those that are left are of the eight devices.
use Rattle.std.proofs.Common.{◌≡◌, ◌<◌, ◌^◌, ◌+◌, ◌++◌, List, length, reverse}
use Rattle.std.specs.List.{AllByRecursion}
use Rattle.bus_trace.specs.OfTrace.{IsRow}
use Rattle.bus_trace.specs.declared.Row.{Row}
use Rattle.trace_checker.specs.Judging.{IsJudgeOf}
use Rattle.bus_cli.proofs.verdict.judged.Given as goal

abbrev pub invariant-loop-row : goal.invariant-loop-row
invariant-loop-row l =
    (goal.iterator-loop-row).can_next l.row-iterator × (goal.iterator-loop-row).is_finite l.row-iterator
    × ((judged : List Row) × IsJudgeOf judged l.judge × (reverse l.row-iterator ++ judged ≡ reverse l.fn.rows)
    × (length l.row-iterator + length judged < 2 ^ 63)) × AllByRecursion IsRow l.row-iterator

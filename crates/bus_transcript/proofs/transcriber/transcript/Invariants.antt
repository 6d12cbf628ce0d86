-- What was seen is that of the rows so far, and those that are left are of the eight devices.
use Rattle.std.proofs.Common.{◌≡◌, List, reverse, ◌++◌}
use Rattle.std.specs.List.{AllByRecursion}
use Rattle.bus_trace.specs.OfTrace.{IsOfDevice}
use Rattle.bus_trace.specs.declared.Row.{Row}
use Rattle.bus_transcript.specs.Rows.{transcribed}
use Rattle.bus_transcript.proofs.transcriber.transcript.Given as goal

abbrev pub invariant-loop-row : goal.invariant-loop-row
invariant-loop-row l =
    (goal.iterator-loop-row).can_next l.row-iterator
    × (goal.iterator-loop-row).is_finite l.row-iterator
    × ((seen : List Row) × (l.transcriber ≡ transcribed seen) × (reverse l.row-iterator ++ seen ≡ reverse l.fn.rows))
    × AllByRecursion IsOfDevice l.row-iterator

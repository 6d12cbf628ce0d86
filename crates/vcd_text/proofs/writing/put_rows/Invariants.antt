-- The rows so far are put, and those that are left are of the eight devices.
use Rattle.std.proofs.Common.{◌≡◌}
use Rattle.std.specs.List.{AllByRecursion}
use Rattle.bus_trace.specs.OfTrace.{IsRow}
use Rattle.vcd_text.specs.DumpText.{rows_text, time_written}
use Rattle.text_pages.specs.Pages.{place}
use Rattle.text_pages.proofs.Putting.{IsOn}
use Rattle.vcd_text.proofs.writing.put_rows.Given as goal

abbrev pub invariant-loop-row : goal.invariant-loop-row
invariant-loop-row g l =
    (goal.iterator-loop-row g).can_next l.row-iterator × (goal.iterator-loop-row g).is_finite l.row-iterator
    × IsOn (place (g.K.Sink.written l.initial.out) (g.K.Sink.faults l.initial.out) l.initial.page)
    (place (g.K.Sink.written l.out) (g.K.Sink.faults l.out) l.page)
    (rows_text 0 l.fn.rows) (rows_text l.last l.row-iterator)
    × (time_written l.last l.row-iterator ≡ time_written 0 l.fn.rows) × AllByRecursion IsRow l.row-iterator

-- The rows so far are put, and those that are left are of the eight devices.
use Rattle.std.specs.List.{AllByRecursion, flat_map}
use Rattle.bus_trace.specs.OfTrace.{IsOfDevice}
use Rattle.trace_text.specs.RowText.{row_text}
use Rattle.text_pages.specs.Pages.{place}
use Rattle.text_pages.proofs.Putting.{IsOn}
use Rattle.trace_text.proofs.trace_part.put_rows.Given as goal

abbrev pub invariant-loop-row : goal.invariant-loop-row
invariant-loop-row g l =
    (goal.iterator-loop-row g).can_next l.row-iterator × (goal.iterator-loop-row g).is_finite l.row-iterator
    × IsOn (place (g.K.Sink.written l.initial.out) (g.K.Sink.faults l.initial.out) l.initial.page)
    (place (g.K.Sink.written l.out) (g.K.Sink.faults l.out) l.page) (flat_map row_text l.fn.rows)
    (flat_map row_text l.row-iterator) × AllByRecursion IsOfDevice l.row-iterator

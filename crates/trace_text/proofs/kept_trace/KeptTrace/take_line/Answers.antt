use Rattle.std.proofs.Common.{List, ◌∙◌, ap, sym}
use Rattle.bus_trace.specs.declared.Row.{Row}
use Rattle.trace_text.specs.Bytes.{rows_next}
use Rattle.trace_text.proofs.kept_trace.KeptTrace.take_line.Goals as goal

pub returns-clause-kept : goal.returns-clause-kept
returns-clause-kept c = λ bytes h few. record {
  reader = c.take-told.ensures.kept bytes h.reader few;
  rows =
      c.in_ok-keep.ensures
      ∙ ap (λ (rows : List Row). rows_next c.take-told.result.0 rows) h.rows
      ∙ sym (c.take-told.ensures.rows bytes h.reader few);
}

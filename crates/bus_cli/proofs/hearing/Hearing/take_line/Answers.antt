use Rattle.std.proofs.Common.{arith}
use Rattle.trace_text.specs.Bytes.{rows_of}
use Rattle.bus_cli.proofs.Heard.{rows_short, hears_row}
use Rattle.bus_cli.proofs.hearing.Hearing.take_line.Goals as goal

pub returns-in-RowRead-clause-kept : goal.returns-in-RowRead-clause-kept
returns-in-RowRead-clause-kept c = λ bytes h few.
    let short = rows_short bytes in
    record {
      reader = c.take-told.ensures.kept bytes h.reader few;
      judge = hears_row (rows_of bytes) _ c.take-told.result.0 c.in-RowRead.row _
          (c.take-told.ensures.rows bytes h.reader few) c.in-RowRead.is
          (c.take.ensures (rows_of bytes) h.judge (omega arith));
    }

use Rattle.std.proofs.Common.{sym, subst, arith}
use Rattle.trace_text.specs.declared.stages.Told.TheVariants as tolds
use Rattle.trace_text.specs.Bytes.{IsReaderOf, IsRowTaken}
use Rattle.trace_text.proofs.Pieces.{line_len_some, line_len_within}
use Rattle.trace_text.proofs.Taken.{row_kept, row_said, rows_are}
use Rattle.trace_text.proofs.reader.TraceReader.take.Goals as goal

pub returns-in-Some-clause-kept : goal.returns-in-Some-clause-kept
returns-in-Some-clause-kept c =
    row_kept c.args.self.now c.take_row.new.self c.args.piece.now c.in-Some.row c.in-Some.len (c.in-Some.ensures.some)

pub returns-in-Some-clause-told : goal.returns-in-Some-clause-told
returns-in-Some-clause-told c =
    row_said c.args.self.now c.take_row.new.self c.args.piece.now c.in-Some.row c.in-Some.len (c.in-Some.ensures.some)

pub returns-in-Some-clause-rows : goal.returns-in-Some-clause-rows
returns-in-Some-clause-rows c = λ bytes h few.
    let taken : IsRowTaken c.args.self.now c.take_row.new.self c.args.piece.now c.in-Some.row c.in-Some.len =
    c.in-Some.ensures.some in
    rows_are c.args.piece.now bytes c.in-Some.len (tolds.RowRead c.in-Some.row) taken.starts.whole
    (row_said c.args.self.now c.take_row.new.self c.args.piece.now c.in-Some.row c.in-Some.len taken bytes h few)

pub returns-in-Some-clause-some : goal.returns-in-Some-clause-some
returns-in-Some-clause-some c = λ some.
    let taken : IsRowTaken c.args.self.now c.take_row.new.self c.args.piece.now c.in-Some.row c.in-Some.len =
    c.in-Some.ensures.some in
    let len = taken.starts.whole in
    omega (arith, line_len_some c.args.piece.now some)

pub returns-in-Some-clause-within : goal.returns-in-Some-clause-within
returns-in-Some-clause-within c =
    let taken : IsRowTaken c.args.self.now c.take_row.new.self c.args.piece.now c.in-Some.row c.in-Some.len =
    c.in-Some.ensures.some in
    let len = taken.starts.whole in
    omega (arith, line_len_within c.args.piece.now)

pub returns-in-None-clause-rows : goal.returns-in-None-clause-rows
returns-in-None-clause-rows c =
    λ bytes h few. rows_are c.args.piece.now bytes c.take_line.result.1 c.take_line.result.0 c.take_line.ensures.len
    (c.take_line.ensures.told bytes (subst (IsReaderOf bytes) (sym (c.take_row.ensures.none c.in-None.is)) h) few)

pub returns-in-None-clause-some : goal.returns-in-None-clause-some
returns-in-None-clause-some c = λ some. omega (arith, line_len_some c.args.piece.now some)

pub returns-in-None-clause-within : goal.returns-in-None-clause-within
returns-in-None-clause-within c = omega (arith, line_len_within c.args.piece.now)

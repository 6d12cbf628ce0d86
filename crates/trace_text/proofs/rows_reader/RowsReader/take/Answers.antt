use Rattle.std.proofs.Common.{◌+◌, ◌%◌, arith}
use Rattle.trace_text.proofs.Pieces.{line_len_some, line_len_within}
use Rattle.trace_text.proofs.Taken.{one_kept, one_told}
use Rattle.trace_text.proofs.rows_reader.RowsReader.take.Goals as goal

pub returns-clause-kept : goal.returns-clause-kept
returns-clause-kept c = one_kept _ _ c.args.piece.now c.in_ok-row.row c.in_ok-row.len c.in_ok-row.ensures.starts
    c.in_ok-row.ensures.device (λ few. omega arith)

pub returns-clause-rows : goal.returns-clause-rows
returns-clause-rows c = one_told c.args.self.now (record { count = (c.args.self.now.count + 1) % 4294967296 })
    c.args.piece.now c.in_ok-row.row c.in_ok-row.len c.in_ok-row.ensures.starts c.in_ok-row.ensures.device
    (λ few. omega arith)

pub returns-clause-some : goal.returns-clause-some
returns-clause-some c =
    let starts = c.in_ok-row.ensures.starts in
    let fed = starts.ended in
    let len = starts.whole in
    omega (arith, line_len_some c.args.piece.now (omega arith))

pub returns-clause-within : goal.returns-clause-within
returns-clause-within c = let len = c.in_ok-row.ensures.starts.whole in omega (arith, line_len_within c.args.piece.now)

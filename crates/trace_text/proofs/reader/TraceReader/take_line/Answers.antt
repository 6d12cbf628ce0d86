use Rattle.std.proofs.Common.{◌+◌, ◌<◌, ◌++◌, take, length, ap, ◌∙◌, arith}
use Rattle.std.specs.List.{prefix_len}
use Rattle.trace_text.specs.Lines.{stepped}
use Rattle.trace_text.specs.Pieces.{is_inner, text_of}
use Rattle.trace_text.proofs.Pieces.{line_len_fed, line_len_unfed}
use Rattle.trace_text.proofs.Taken.{EndsLine, fed_kept, fed_told, unfed_kept, unfed_told}
use Rattle.trace_text.proofs.reader.TraceReader.take_line.Goals as goal

-- ---- no line feed

pub returns-then-len-piece-clause-kept : goal.returns-then-len-piece-clause-kept
returns-then-len-piece-clause-kept c = λ bytes h few. unfed_kept c.args.self.now c.args.piece.now
    c.push_all.new.self c.text_len-len.result (omega arith) (omega arith) (c.push_all.ensures
    ∙ ap (λ n. take 28 (c.args.self.now.line ++ take n c.args.piece.now)) c.text_len-len.ensures.exact) bytes h

pub returns-then-len-piece-clause-told : goal.returns-then-len-piece-clause-told
returns-then-len-piece-clause-told c = λ bytes h few. unfed_told c.args.self.now c.args.piece.now c.quiet.result
    (omega arith) c.quiet.ensures.exact bytes h

pub returns-then-len-piece-clause-len : goal.returns-then-len-piece-clause-len
returns-then-len-piece-clause-len c = omega (arith, line_len_unfed c.args.piece.now (omega arith))

-- ---- a line feed

ends : (c : goal.After-state-1) → EndsLine c.args.self.now (text_of c.args.piece.now) c.stepped_by-state.result
ends c count = c.stepped_by-state.ensures.exact count
    ∙ ap (λ n. stepped c.args.self.now.state (take 28 (c.args.self.now.line ++ take n c.args.piece.now)))
    c.text_len-len.ensures.exact

pub returns-else-len-piece-clause-kept : goal.returns-else-len-piece-clause-kept
returns-else-len-piece-clause-kept c =
    let fed : prefix_len is_inner c.args.piece.now < length c.args.piece.now = omega arith in
    fed_kept c.args.self.now c.args.piece.now c.clear.new.self c.stepped_by-state.result (c.text_len-len.result + 1)
    (omega (arith, line_len_fed c.args.piece.now fed)) fed (ends c) c.clear.ensures

pub returns-else-len-piece-clause-told : goal.returns-else-len-piece-clause-told
returns-else-len-piece-clause-told c =
    fed_told c.args.self.now c.args.piece.now c.stepped_by-state.result (omega arith) (ends c)

pub returns-else-len-piece-clause-len : goal.returns-else-len-piece-clause-len
returns-else-len-piece-clause-len c = omega (arith, line_len_fed c.args.piece.now (omega arith))

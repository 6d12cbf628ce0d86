-- What the last read tells, how many bytes were taken, and that the rows of each piece are kept.
use Rattle.std.proofs.Common.{reverse, refl, arith}
use Rattle.std.proofs.lemmas.List.{length-reverse}
use Rattle.trace_text.specs.declared.limit.TheConstants.{LIMIT as TRACE_LIMIT}
use Rattle.bus_base.proofs.ReadSoFar.{taken_more, cut_taken}
use Rattle.bus_cli.proofs.KeptRead.{keeps_all, keeps_more, keeps_cut}
use Rattle.bus_cli.proofs.kept.read_kept.Goals as goal

pub returns-in_err-more-clause-whole : goal.returns-in_err-more-clause-whole
returns-in_err-more-clause-whole g c =
    let (bytes, read, len, kept) = c.loop-kept.invariant.read in
    keeps_cut _ _ _ bytes c.read_piece.new.buffer _ c.in_err-more.field-0.0 _ read c.in_err-more.ensures.piece
    (omega arith) c.from_residual.ensures

pub returns-in_err-more-clause-taken : goal.returns-in_err-more-clause-taken
returns-in_err-more-clause-taken g c =
    let (bytes, read, len, kept) = c.loop-kept.invariant.read in
    cut_taken _ _ _ bytes c.read_piece.new.buffer _ TRACE_LIMIT c.in_err-more.field-0.0 read c.in_err-more.ensures.piece
    (omega arith)

pub returns-then-more-eq0-clause-whole : goal.returns-then-more-eq0-clause-whole
returns-then-more-eq0-clause-whole g c =
    let (bytes, read, len, kept) = c.loop-kept.invariant.read in
    keeps_all _ _ _ bytes _ c.in_ok-more.more _ read c.in_ok-more.ensures.piece c.if-more-eq0.true
    (omega (arith, c.read_piece.array_long)) (omega arith)
    (c.finish.ensures.exact (reverse bytes) kept (omega (arith, length-reverse bytes)))

pub returns-then-more-eq0-clause-rows : goal.returns-then-more-eq0-clause-rows
returns-then-more-eq0-clause-rows g c =
    let (bytes, read, len, kept) = c.loop-kept.invariant.read in
    c.finish.ensures.rows (reverse bytes) kept

pub returns-then-more-eq0-clause-taken : goal.returns-then-more-eq0-clause-taken
returns-then-more-eq0-clause-taken g c =
    let (bytes, read, len, kept) = c.loop-kept.invariant.read in
    taken_more _ _ _ bytes _ c.in_ok-more.more _ read c.in_ok-more.ensures.piece (omega arith)

pub loop-kept-preserved : goal.loop-kept-preserved
loop-kept-preserved g c =
    let (bytes, read, len, kept) = c.loop-kept.invariant.read in
    record {
      within = omega (arith, c.in_ok-more.ensures.spare);
      never_falls = omega arith;
      read = keeps_more _ _ _ bytes _ _ c.in_ok-more.more c.loop-kept.count _ read c.in_ok-more.ensures.piece len refl
          (omega (arith, c.in_ok-more.ensures.within, c.read_piece.array_long))
          (omega (arith, c.in_ok-more.ensures.spare)) (c.in_ok-take_all.ensures (reverse bytes) kept);
    }

pub returns-in_err-take_all-clause-taken : goal.returns-in_err-take_all-clause-taken
returns-in_err-take_all-clause-taken g c =
    let (bytes, read, len, kept) = c.loop-kept.invariant.read in
    taken_more _ _ _ bytes _ c.in_ok-more.more _ read c.in_ok-more.ensures.piece
    (omega (arith, c.in_ok-more.ensures.spare))

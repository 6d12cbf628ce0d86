-- What the last read tells, how many bytes were taken, and that each piece is heard.
use Rattle.std.proofs.Common.{reverse, refl, arith}
use Rattle.std.proofs.lemmas.List.{length-reverse}
use Rattle.trace_text.specs.declared.limit.TheConstants.{LIMIT as TRACE_LIMIT}
use Rattle.bus_base.proofs.ReadSoFar.{taken_more, cut_taken}
use Rattle.bus_cli.proofs.Judged.{hears_all, hears_more, hears_cut}
use Rattle.bus_cli.proofs.judging.hear.Goals as goal

pub returns-in_err-count-clause-whole : goal.returns-in_err-count-clause-whole
returns-in_err-count-clause-whole g c =
    let (bytes, read, len, hearing) = c.loop-count.invariant.heard in
    hears_cut _ _ _ bytes c.read_piece.new.buffer _ c.in_err-count.field-0.0 _ read c.in_err-count.ensures.piece
    (omega arith) c.from_residual.ensures

pub returns-in_err-count-clause-taken : goal.returns-in_err-count-clause-taken
returns-in_err-count-clause-taken g c =
    let (bytes, read, len, hearing) = c.loop-count.invariant.heard in
    cut_taken _ _ _ bytes c.read_piece.new.buffer _ TRACE_LIMIT c.in_err-count.field-0.0 read
    c.in_err-count.ensures.piece (omega arith)

pub returns-then-count-eq0-clause-whole : goal.returns-then-count-eq0-clause-whole
returns-then-count-eq0-clause-whole g c =
    let (bytes, read, len, hearing) = c.loop-count.invariant.heard in
    hears_all _ _ _ bytes _ c.in_ok-count.count _ read c.in_ok-count.ensures.piece c.if-count-eq0.true
    (omega (arith, c.read_piece.array_long)) (omega arith)
    (c.finish.ensures (reverse bytes) hearing (omega (arith, length-reverse bytes)))

pub returns-then-count-eq0-clause-taken : goal.returns-then-count-eq0-clause-taken
returns-then-count-eq0-clause-taken g c =
    let (bytes, read, len, hearing) = c.loop-count.invariant.heard in
    taken_more _ _ _ bytes _ c.in_ok-count.count _ read c.in_ok-count.ensures.piece (omega arith)

pub loop-count-preserved : goal.loop-count-preserved
loop-count-preserved g c =
    let (bytes, read, len, hearing) = c.loop-count.invariant.heard in
    record {
      within = omega (arith, c.in_ok-count.ensures.spare);
      never_falls = omega arith;
      heard = hears_more _ _ _ bytes _ _ c.in_ok-count.count c.loop-count.heard _ read c.in_ok-count.ensures.piece
          len refl (omega (arith, c.in_ok-count.ensures.within, c.read_piece.array_long))
          (omega (arith, c.in_ok-count.ensures.spare)) (c.take_all.ensures (reverse bytes) hearing);
    }

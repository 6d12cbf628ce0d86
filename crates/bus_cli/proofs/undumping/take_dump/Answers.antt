-- What the last read tells, how many bytes were taken, and that each piece is read.
use Rattle.std.proofs.Common.{refl, arith}
use Rattle.vcd_text.specs.declared.limit.TheConstants.{LIMIT as DUMP_LIMIT}
use Rattle.bus_base.proofs.ReadSoFar.{taken_more, cut_taken}
use Rattle.bus_cli.proofs.Undumped.{takes_all, takes_more, takes_cut}
use Rattle.bus_cli.proofs.undumping.take_dump.Goals as goal

pub returns-in_err-more-clause-whole : goal.returns-in_err-more-clause-whole
returns-in_err-more-clause-whole g c =
    let (bytes, read, len, is) = c.loop-reader.invariant.read in
    takes_cut _ _ _ bytes c.read_piece.new.buffer _ c.in_err-more.field-0.0 _ read c.in_err-more.ensures.piece
    (omega arith) c.from_residual.ensures

pub returns-in_err-more-clause-taken : goal.returns-in_err-more-clause-taken
returns-in_err-more-clause-taken g c =
    let (bytes, read, len, is) = c.loop-reader.invariant.read in
    cut_taken _ _ _ bytes c.read_piece.new.buffer _ DUMP_LIMIT c.in_err-more.field-0.0 read c.in_err-more.ensures.piece
    (omega arith)

pub returns-then-more-eq0-clause-whole : goal.returns-then-more-eq0-clause-whole
returns-then-more-eq0-clause-whole g c =
    let (bytes, read, len, is) = c.loop-reader.invariant.read in
    takes_all _ _ _ bytes _ c.in_ok-more.more _ read c.in_ok-more.ensures.piece c.if-more-eq0.true
    (omega (arith, c.read_piece.array_long)) (omega arith) is

pub returns-then-more-eq0-clause-taken : goal.returns-then-more-eq0-clause-taken
returns-then-more-eq0-clause-taken g c =
    let (bytes, read, len, is) = c.loop-reader.invariant.read in
    taken_more _ _ _ bytes _ c.in_ok-more.more _ read c.in_ok-more.ensures.piece (omega arith)

pub loop-reader-preserved : goal.loop-reader-preserved
loop-reader-preserved g c =
    let (bytes, read, len, is) = c.loop-reader.invariant.read in
    record {
      within = omega (arith, c.in_ok-more.ensures.spare);
      never_falls = omega arith;
      read = takes_more _ _ _ bytes _ _ c.in_ok-more.more c.loop-reader.count _ _ read c.in_ok-more.ensures.piece len
          refl (omega (arith, c.in_ok-more.ensures.within, c.read_piece.array_long)) is c.in_ok-take_all.ensures.read;
    }

pub returns-in_err-take_all-clause-taken : goal.returns-in_err-take_all-clause-taken
returns-in_err-take_all-clause-taken g c =
    let (bytes, read, len, is) = c.loop-reader.invariant.read in
    taken_more _ _ _ bytes _ c.in_ok-more.more _ read c.in_ok-more.ensures.piece
    (omega (arith, c.in_ok-more.ensures.spare))

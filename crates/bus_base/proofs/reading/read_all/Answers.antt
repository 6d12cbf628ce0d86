-- What the last read tells, and how many bytes were taken.
use Rattle.std.proofs.Common.{arith}
use Rattle.bus_base.proofs.ReadSoFar.{taken_more, cut_whole, cut_taken}
use Rattle.bus_base.proofs.reading.read_all.Goals as goal

pub returns-in_err-count-clause-whole : goal.returns-in_err-count-clause-whole
returns-in_err-count-clause-whole g c = cut_whole _ _ _ c.loop-bytes.bytes.items c.read_piece.new.buffer
    _ _ c.in_err-count.field-0.0 _ c.loop-bytes.invariant.read c.in_err-count.ensures.piece
    (omega arith) c.from_residual.ensures

pub returns-in_err-count-clause-taken : goal.returns-in_err-count-clause-taken
returns-in_err-count-clause-taken g c = cut_taken _ _ _ c.loop-bytes.bytes.items c.read_piece.new.buffer _ _
    c.in_err-count.field-0.0 c.loop-bytes.invariant.read c.in_err-count.ensures.piece (omega arith)

pub returns-then-count-eq0-clause-taken : goal.returns-then-count-eq0-clause-taken
returns-then-count-eq0-clause-taken g c = taken_more _ _ _ c.loop-bytes.bytes.items _ c.in_ok-count.count _
    c.loop-bytes.invariant.read c.in_ok-count.ensures.piece (omega arith)

pub returns-in_err-extend_from_slice-clause-taken : goal.returns-in_err-extend_from_slice-clause-taken
returns-in_err-extend_from_slice-clause-taken g c = taken_more _ _ _ c.loop-bytes.bytes.items _ c.in_ok-count.count _
    c.loop-bytes.invariant.read c.in_ok-count.ensures.piece (omega (arith, c.in_ok-count.ensures.spare))

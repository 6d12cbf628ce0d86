use Rattle.std.proofs.Common.{refl, arith}
use Rattle.vcd_text.proofs.Pieces.{piece_inner, piece_ended}
use Rattle.vcd_text.proofs.ReadAlike.{reads_itself, reads_through}
use Rattle.vcd_text.proofs.reader.VcdReader.take.Goals as goal

pub returns-then-len-piece-clause-taken : goal.returns-then-len-piece-clause-taken
returns-then-len-piece-clause-taken c = reads_through c.grow.new.self _ _ c.in_ok-grow.ensures.read
    (piece_inner c.args.self.now c.args.piece.now c.inner_len-len.result c.requires.open c.inner_len-len.ensures.exact
    (omega (arith, c.if-len-piece.true)))

pub returns-clause-taken : goal.returns-clause-taken
returns-clause-taken c = reads_itself c.space.new.self _
    (piece_ended c.args.self.now c.end_token.new.self c.space.new.self c.args.piece.now c.inner_len-len.result _ 0
    c.requires.open c.inner_len-len.ensures.exact (omega (arith, c.inner_len-len.ensures.within, c.if-len-piece.false))
    refl c.in_ok-end_token.ensures c.space.ensures)

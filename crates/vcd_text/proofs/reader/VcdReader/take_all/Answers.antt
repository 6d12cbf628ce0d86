use Rattle.std.proofs.Common.{sym, ap, take, arith}
use Rattle.std.proofs.lemmas.List.{length-drop}
use Rattle.vcd_text.specs.Reading.{taken}
use Rattle.vcd_text.proofs.Pieces.{rest_whole}
use Rattle.vcd_text.proofs.ReadAlike.{reads_more, reads_bad, reads_through}
use Rattle.vcd_text.proofs.reader.VcdReader.take_all.Goals as goal

pub returns-then-is_bad-clause-read : goal.returns-then-is_bad-clause-read
returns-then-is_bad-clause-read c = reads_bad c.args.self.now c.loop-at.self c.args.piece.now c.loop-at.at
    c.loop-at.invariant.read (sym c.if-is_bad.ensures)

pub loop-at-preserved : goal.loop-at-preserved
loop-at-preserved c = record {
  within =
      omega (arith, length-drop c.loop-at.at c.args.piece.now, c.in_ok-at.ensures.within, c.loop-at.invariant.within);
  read = reads_more c.args.self.now c.loop-at.self c.take.new.self c.args.piece.now c.loop-at.at
      c.in_ok-at.field-0 c.loop-at.invariant.read (reads_through c.take.new.self _ _ c.in_ok-at.ensures.taken
      (ap (λ xs. taken c.loop-at.self (take c.in_ok-at.field-0 xs)) (rest_whole c.args.piece.now c.loop-at.at)));
  short = λ h. c.in_ok-at.ensures.short (c.loop-at.invariant.short h);
}

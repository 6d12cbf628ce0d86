-- Each write adds the next bytes of the piece.
use Rattle.std.proofs.Common.{◌-◌, length, length-drop, drop, ap, arith}
use Rattle.std.proofs.lemmas.List.{take_all}
use Rattle.bus_base.proofs.WrittenSoFar.{written_more}
use Rattle.bus_base.proofs.writing.write_all.Goals as goal

pub loop-done-preserved : goal.loop-done-preserved
loop-done-preserved g c =
    let piece = c.args.piece.now in
    let done = c.loop-done.done in
    let rest = take_all (length piece - done) (drop done piece) (omega (arith, length-drop done piece)) in
    record {
      within = omega (arith, c.in_ok-done.ensures.within, length-drop done piece, ap length rest);
      never_falls = omega arith;
      written = written_more _ _ _ piece _ done _ c.loop-done.invariant.written rest c.in_ok-done.ensures.added;
    }

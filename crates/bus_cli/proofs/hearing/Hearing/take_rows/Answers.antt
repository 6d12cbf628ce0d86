use Rattle.std.proofs.Common.{ℕ, List, ◌++◌, reverse, take, subst, arith}
use Rattle.trace_text.specs.Bytes.{rows_of, reader_of}
use Rattle.trace_text.proofs.PiecesLeft.{left, left-len, onward, room}
use Rattle.bus_cli.specs.Hearing.{IsHearingOf}
use Rattle.bus_cli.proofs.Heard.{rows_short, hearing, hears_more}
use Rattle.bus_cli.proofs.hearing.Hearing.take_rows.Goals as goal

pub loop-row-preserved : goal.loop-row-preserved
loop-row-preserved c =
    let piece = c.args.piece.now in
    let at = c.loop-row.at in
    let row = c.in-Some-take.row in
    let len = c.in-Some-take.len in
    record {
      within = let few = c.in-Some-take.ensures.within in omega (arith, c.loop-row.invariant.within, left-len piece at);
      heard = λ bytes h few.
          let read : List ℕ = reverse (take at piece) ++ bytes in
          let so_far = c.loop-row.invariant.heard bytes h few in
          let fits = room piece bytes at c.loop-row.invariant.within few in
          let short = rows_short read in
          subst (λ (l : List ℕ). IsHearingOf l (hearing (reader_of c.take.new.self) c.take-in-Some-take.new.self))
          (onward piece bytes at len) (hears_more read (reverse (take len (left piece at)) ++ read) row
          (reader_of c.take.new.self) c.take-in-Some-take.new.self
          (c.in-Some-take.ensures.rows read so_far.reader fits) (c.in-Some-take.ensures.kept read so_far.reader fits)
          (c.take-in-Some-take.ensures (rows_of read) so_far.judge (omega arith)));
    }

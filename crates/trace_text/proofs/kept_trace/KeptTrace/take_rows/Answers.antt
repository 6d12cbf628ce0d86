use Rattle.std.proofs.Common.{ℕ, List, ◌++◌, reverse, take, subst, arith}
use Rattle.trace_text.specs.Bytes.{reader_of}
use Rattle.trace_text.specs.Whole.{IsKeptOf}
use Rattle.trace_text.proofs.PiecesLeft.{left, left-len, onward, room}
use Rattle.trace_text.proofs.KeptRows.{kept, kept_more}
use Rattle.trace_text.proofs.kept_trace.KeptTrace.take_rows.Goals as goal

pub loop-row-preserved : goal.loop-row-preserved
loop-row-preserved c =
    let piece = c.args.piece.now in
    let at = c.loop-row.at in
    let row = c.in-Some-take.row in
    let len = c.in-Some-take.len in
    record {
      within = let few = c.in-Some-take.ensures.within in omega (arith, c.loop-row.invariant.within, left-len piece at);
      kept = λ bytes h few.
          let read : List ℕ = reverse (take at piece) ++ bytes in
          let so_far = c.loop-row.invariant.kept bytes h few in
          let fits = room piece bytes at c.loop-row.invariant.within few in
          subst (λ (l : List ℕ). IsKeptOf l (kept (reader_of c.take.new.self) c.push.new.self))
          (onward piece bytes at len) (kept_more read (reverse (take len (left piece at)) ++ read) row
          c.loop-row.self.rows c.push.new.self (reader_of c.take.new.self) c.in_ok-push.ensures.added so_far.rows
          (c.in-Some-take.ensures.rows read so_far.reader fits) (c.in-Some-take.ensures.kept read so_far.reader fits));
    }

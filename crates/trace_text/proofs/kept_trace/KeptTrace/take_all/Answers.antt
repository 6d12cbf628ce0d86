use Rattle.std.proofs.Common.{◌++◌, List, ℕ, reverse, take, take_all, subst, arith}
use Rattle.trace_text.specs.Whole.{IsKeptOf}
use Rattle.trace_text.proofs.PiecesLeft.{left-len, onward, room}
use Rattle.trace_text.proofs.kept_trace.KeptTrace.take_all.Goals as goal

pub loop-at-preserved : goal.loop-at-preserved
loop-at-preserved c = record {
  within =
      let few = c.in_ok-at.ensures.within in
      omega (arith, left-len c.args.piece.now c.loop-at.at, c.loop-at.invariant.within);
  kept = λ bytes h few. subst (λ (l : List ℕ). IsKeptOf l c.take.new.self)
      (onward c.args.piece.now bytes c.loop-at.at c.in_ok-at.field-0)
      (c.in_ok-at.ensures.kept (reverse (take c.loop-at.at c.args.piece.now) ++ bytes)
      (c.loop-at.invariant.kept bytes h few) (room c.args.piece.now bytes c.loop-at.at c.loop-at.invariant.within few));
}

pub returns : goal.returns
returns c = λ bytes h few. subst (λ (l : List ℕ). IsKeptOf (reverse l ++ bytes) c.loop-at.self)
    (take_all c.loop-at.at c.args.piece.now c.loop-at-test.false) (c.loop-at.invariant.kept bytes h few)

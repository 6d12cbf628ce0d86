use Rattle.std.proofs.Common.{◌++◌, List, ℕ, reverse, take, take_all, subst, arith}
use Rattle.bus_cli.specs.Hearing.{IsHearingOf}
use Rattle.trace_text.proofs.PiecesLeft.{left-len, onward, room}
use Rattle.bus_cli.proofs.hearing.Hearing.take_all.Goals as goal

pub loop-at-preserved : goal.loop-at-preserved
loop-at-preserved c = record {
  within =
      let some = c.loop-at-test.true in
      let few = c.take-at.ensures.within in
      omega (arith, left-len c.args.piece.now c.loop-at.at);
  heard = λ bytes h few. subst (λ (l : List ℕ). IsHearingOf l c.take-at.new.self)
      (onward c.args.piece.now bytes c.loop-at.at c.take-at.result) (c.take-at.ensures.kept
      (reverse (take c.loop-at.at c.args.piece.now) ++ bytes) (c.loop-at.invariant.heard bytes h few)
      (room c.args.piece.now bytes c.loop-at.at c.loop-at.invariant.within few));
}

pub returns : goal.returns
returns c = λ bytes h few. subst (λ (l : List ℕ). IsHearingOf (reverse l ++ bytes) c.loop-at.self)
    (take_all c.loop-at.at c.args.piece.now c.loop-at-test.false) (c.loop-at.invariant.heard bytes h few)

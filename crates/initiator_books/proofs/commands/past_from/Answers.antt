use Rattle.std.proofs.Common.{◌∙◌, sym, arith}
use Rattle.initiator_books.proofs.KeptCommands.{past_more}
use Rattle.initiator_books.proofs.commands.past_from.Goals as goal

pub loop-place-preserved : goal.loop-place-preserved
loop-place-preserved c = (
  past_more c.loop-place.place c.args.mines.now _ (omega (arith, c.requires.within, c.loop-place-test.true))
      c.loop-place.invariant.0 (sym c.is_past.ensures ∙ c.if-is_past.true),
  omega (arith, c.loop-place-test.true),
)

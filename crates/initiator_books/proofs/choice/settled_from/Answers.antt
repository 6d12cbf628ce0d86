use Rattle.std.proofs.Common.{◌∙◌, arith, sym}
use Rattle.initiator_books.proofs.CheckQueues.{settled_more}
use Rattle.initiator_books.proofs.choice.settled_from.Goals as goal

pub loop-count-preserved : goal.loop-count-preserved
loop-count-preserved c = (
  settled_more c.args.commands.now.mines c.args.numbers.now c.loop-count.count c.loop-count-test.true
      c.loop-count.invariant.0 (sym c.is_sense_due.ensures ∙ c.if-not-is_sense_due.true),
  omega arith,
)

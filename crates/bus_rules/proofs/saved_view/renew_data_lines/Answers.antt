use Rattle.std.proofs.Common.{arith}
use Rattle.std.proofs.lemmas.Grind.{common_steps}
use Rattle.bus_trace.proofs.Ages.{newest_is}
use Rattle.bus_rules.proofs.saved_view.renew_data_lines.Goals as goal

pub loop-k-preserved : goal.loop-k-preserved
loop-k-preserved c =
    let new = newest_is _ _ _ _ _ _ _ c.differs.ensures c.newest.ensures in
    record {
      done = λ k f h. grind (arith, common_steps, new, c.loop-k.invariant.done k f, c.loop-k.invariant.left k);
      left = λ k h. grind (arith, common_steps, c.loop-k.invariant.left k);
    }

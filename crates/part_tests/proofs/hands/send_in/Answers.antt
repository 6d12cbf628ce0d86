use Rattle.std.proofs.Common.{◌^◌, arith}
use Rattle.part_tests.proofs.hands.send_in.Goals as goal

pub step-requires-clause-timely : goal.step-requires-clause-timely
step-requires-clause-timely c =
    let early = c.requires.early in
    c.views_are_timely.ensures (2 ^ 63) (omega arith) early.rows c.args.view.now early.view early.before

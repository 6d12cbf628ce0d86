use Rattle.std.proofs.Common.{◌<◌, arith}
use Rattle.connect.specs.Ready.{time_limit}
use Rattle.part_tests.proofs.links.view_of.Goals as goal

pub returns : goal.returns
returns c =
    let seen = c.loop-time.invariant in
    let some : 0 < time_limit = omega arith in
    c.views_are_timely.ensures time_limit some seen.0 c.loop-time.view seen.1 seen.2

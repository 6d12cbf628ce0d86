use Rattle.std.proofs.Common.{◌^◌, ◌<◌, arith}
use Rattle.part_tests.proofs.targets.observer_of.Goals as goal

pub returns-then-mark-ge8 : goal.returns-then-mark-ge8
returns-then-mark-ge8 c =
    let told = c.loop-mark.invariant in
    let some : 0 < 2 ^ 63 = omega arith in
    c.views_are_timely.ensures (2 ^ 63) some told.0 c.loop-mark.observer.view told.1.view_is told.2

pub returns-then-mark-ge-LIMIT : goal.returns-then-mark-ge-LIMIT
returns-then-mark-ge-LIMIT c =
    let told = c.loop-mark.invariant in
    let some : 0 < 2 ^ 63 = omega arith in
    c.views_are_timely.ensures (2 ^ 63) some told.0 c.loop-mark.observer.view told.1.view_is told.2

pub returns : goal.returns
returns c =
    let told = c.loop-mark.invariant in
    let some : 0 < 2 ^ 63 = omega arith in
    c.views_are_timely.ensures (2 ^ 63) some told.0 c.loop-mark.observer.view told.1.view_is told.2

use Rattle.std.proofs.Common.{◌^◌, ◌<◌, arith}
use Rattle.bus_tests.proofs.hosts.observer_of.Goals as goal

pub returns-then-row-ge8 : goal.returns-then-row-ge8
returns-then-row-ge8 c =
    let told = c.loop-row.invariant in
    let some : 0 < 2 ^ 63 = omega arith in
    c.views_are_timely.ensures (2 ^ 63) some told.0 c.loop-row.observer.view told.1.view_is told.2

pub returns-then-row-ge-LIMIT : goal.returns-then-row-ge-LIMIT
returns-then-row-ge-LIMIT c =
    let told = c.loop-row.invariant in
    let some : 0 < 2 ^ 63 = omega arith in
    c.views_are_timely.ensures (2 ^ 63) some told.0 c.loop-row.observer.view told.1.view_is told.2

pub returns : goal.returns
returns c =
    let told = c.loop-row.invariant in
    let some : 0 < 2 ^ 63 = omega arith in
    c.views_are_timely.ensures (2 ^ 63) some told.0 c.loop-row.observer.view told.1.view_is told.2

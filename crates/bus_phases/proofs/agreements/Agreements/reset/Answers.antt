use Rattle.std.proofs.Common.{arith}
use Rattle.std.specs.Prelude.{◌==◌, ◌&&◌, nat_lt, if◌then◌else◌}
use Rattle.bus_phases.specs.Dialogue.{asynchronous}
use Rattle.bus_phases.proofs.Agreeing.{one_more, all_eight}
use Rattle.bus_phases.proofs.agreements.Agreements.reset.Goals as goal

pub loop-initiator-preserved : goal.loop-initiator-preserved
loop-initiator-preserved c = λ agreed h.
    let n = c.loop-initiator.initiator in
    one_more agreed c.args.target n c.new.result c.asynchronous.result _ c.new.ensures c.asynchronous.ensures
    (c.set.ensures (λ i t. if t == c.args.target && nat_lt i n then asynchronous else agreed i t)
    (c.loop-initiator.invariant agreed h))

pub returns : goal.returns
returns c = λ agreed h. all_eight agreed _ c.args.target c.loop-initiator.initiator
    (let past = c.loop-initiator-test.false in omega arith) (c.loop-initiator.invariant agreed h)

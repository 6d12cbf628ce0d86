use Rattle.std.proofs.Common.{[], arith}
use Rattle.bus_run.specs.Places.{IsIn}
use Rattle.bus_engine.specs.Members.{IsMember}
use Rattle.bus_engine.proofs.Added.{each_and_one}
use Rattle.bus_engine.proofs.places.member_places.Goals as goal

pub loop-dev-preserved : goal.loop-dev-preserved
loop-dev-preserved c =
    let s = c.args.scenario.now in
    let i = c.loop-dev.invariant in
    record {
      count = omega (arith, c.in_ok-push.ensures.len, i.count);
      devices = each_and_one (λ d place. IsIn IsMember s [] d place) c.loop-dev.places.items c.push.new.self.items
          c.in_ok-place_of.field-0 c.loop-dev.dev c.in_ok-push.ensures.items i.count i.devices c.in_ok-place_of.ensures;
    }

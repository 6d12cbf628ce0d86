use Rattle.std.proofs.Common.{◌≡◌, ◌<◌, ◌∙◌, Option, length, sym, subst, arith}
use Rattle.bus_run.proofs.OnePlace.{other_at}
use Rattle.bus_engine.specs.declared.member.Member.{Member}
use Rattle.bus_engine.specs.Over.{IsPlaceOver, AreUnitsIf}
use Rattle.bus_engine.proofs.Added.{each_and_one}
use Rattle.bus_engine.proofs.EndedPlaces.{place_at}
use Rattle.bus_engine.proofs.finishing.units_by_target.Goals as goal

pub loop-dev-preserved : goal.loop-dev-preserved
loop-dev-preserved c =
    let i = c.loop-dev.invariant in
    let n = c.loop-dev.dev in
    let xs = c.loop-dev.places in
    let inside : c.loop-dev.dev < length c.loop-dev.places = omega
    (arith, c.requires.eight, c.loop-dev.auto.places, c.loop-dev-test.true) in
    record {
      count = omega (arith, c.in_ok-push.ensures.len, i.count);
      others = λ d le. other_at c.loop-dev.places n d c.units_in.new.place (λ (e : n ≡ d). omega (arith, e, le))
          ∙ i.others d (omega (arith, le));
      units = λ s rows first h.
          let here = subst (λ (p : Option Member). IsPlaceOver s rows c.loop-dev.dev first p)
          (sym (i.others n (omega arith))) (h n c.loop-dev-test.true) in
          each_and_one (λ d units. AreUnitsIf s rows d units) c.loop-dev.units.items c.push.new.self.items
          c.units_in.result n c.in_ok-push.ensures.items i.count (i.units s rows first h)
          (c.units_in.ensures s rows n first (place_at s rows n first xs c.index-places-dev.result inside here));
    }

pub returns-clause-units : goal.returns-clause-units
returns-clause-units c = λ s rows first h dev lt.
    c.loop-dev.invariant.units s rows first h dev (omega (arith, lt, c.loop-dev-test.false))

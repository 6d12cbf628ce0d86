use Rattle.std.proofs.Common.{◌≤◌, ◌+◌, List, [], drop, length, map, sym, ap, subst, arith, true}
use Rattle.std.proofs.lemmas.List.{drop_all}
use Rattle.scenario.specs.declared.value.TapeDef.{TapeDef}
use Rattle.scenario.specs.Lookups.{tape_unit}
use Rattle.tape_unit.specs.Stored.{Store}
use Rattle.run_record.specs.Value.{reeled_by}
use Rattle.bus_engine.specs.Disks.{IsTapeWithin}
use Rattle.bus_engine.proofs.Items.{all_drop}
use Rattle.bus_engine.proofs.Disks.{AreStored, stored_first, stored_next, stored_all, tape_dropped}
use Rattle.bus_engine.proofs.finishing.tapes.Goals as goal

pub loop-index-init : goal.loop-index-init
loop-index-init c = record {
  count = cc;
  lines = c.requires.lines;
  held = λ contents parted. subst (λ (done : List Store). AreStored true c.args.of_target.now
      (map tape_unit c.args.lines.now) (map reeled_by done) contents [] []) (sym c.new-tapes.ensures.items)
      (stored_first true c.args.of_target.now (map tape_unit c.args.lines.now) contents [] [] parted);
}

pub loop-index-preserved : goal.loop-index-preserved
loop-index-preserved c =
    let i = c.loop-index.invariant in
    let n = c.loop-index.index in
    let lines = c.args.lines.now in
    record {
      count = omega (arith, c.in_ok-push.ensures.len, i.count);
      lines = all_drop IsTapeWithin lines (c.loop-index.index + 1) c.requires.lines;
      held = λ contents parted. stored_next reeled_by true c.loop-index.of_target c.tape_at.new.of_target
          (map tape_unit (drop n lines)) (map tape_unit (drop (c.loop-index.index + 1) lines)) _
          c.loop-index.tapes.items c.push.new.self.items c.in_ok-tape_at.field-0 contents [] []
          (tape_dropped n lines _ c.loop-index-test.true) c.in_ok-push.ensures.items c.in_ok-tape_at.ensures.held
          c.tape_at.ensures.others (i.held contents parted);
    }

pub returns-clause-held : goal.returns-clause-held
returns-clause-held c = λ contents parted.
    let past : length c.args.lines.now ≤ c.loop-index.index = omega (arith, c.loop-index-test.false) in
    (stored_all true c.loop-index.of_target _ _ contents [] []
    (ap (λ (l : List TapeDef). map tape_unit l) (drop_all c.loop-index.index c.args.lines.now past))
    (c.loop-index.invariant.held contents parted)).0

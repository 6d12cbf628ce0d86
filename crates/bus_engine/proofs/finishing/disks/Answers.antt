use Rattle.std.proofs.Common.{◌≤◌, ◌+◌, List, drop, length, map, sym, subst, arith, false}
use Rattle.std.proofs.lemmas.List.{drop_all}
use Rattle.disk_unit.specs.Sparse.{Store}
use Rattle.run_record.specs.Value.{held_by}
use Rattle.bus_engine.specs.Disks.{IsWithin}
use Rattle.bus_engine.proofs.Items.{all_drop}
use Rattle.bus_engine.proofs.Disks.{AreStored, stored_first, stored_next, stored_all}
use Rattle.bus_engine.proofs.finishing.disks.Goals as goal
use Rattle.bus_base.proofs.Tests.{dropped}

pub loop-index-init : goal.loop-index-init
loop-index-init c = record {
  count = cc;
  lines = c.requires.lines;
  held = λ contents there others parted. subst (λ (done : List Store). AreStored false c.args.of_target.now
      c.args.units.now (map held_by done) contents others there) (sym c.new-disks.ensures.items)
      (stored_first false c.args.of_target.now c.args.units.now contents others there parted);
}

pub loop-index-preserved : goal.loop-index-preserved
loop-index-preserved c =
    let i = c.loop-index.invariant in
    let n = c.loop-index.index in
    let units = c.args.units.now in
    record {
      count = omega (arith, c.in_ok-push.ensures.len, i.count);
      lines = all_drop IsWithin units (c.loop-index.index + 1) c.requires.lines;
      held = λ contents there others parted. stored_next held_by false c.loop-index.of_target c.blocks_at.new.of_target
          (drop n units) (drop (c.loop-index.index + 1) units) _ c.loop-index.disks.items c.push.new.self.items
          c.in_ok-blocks_at.field-0 contents others there (dropped n units _ c.loop-index-test.true)
          c.in_ok-push.ensures.items c.in_ok-blocks_at.ensures.held c.blocks_at.ensures.others
          (i.held contents there others parted);
    }

pub returns-clause-held : goal.returns-clause-held
returns-clause-held c = λ contents there others parted.
    let past : length c.args.units.now ≤ c.loop-index.index = omega (arith, c.loop-index-test.false) in
    stored_all false c.loop-index.of_target _ _ contents others there
    (drop_all c.loop-index.index c.args.units.now past) (c.loop-index.invariant.held contents there others parted)

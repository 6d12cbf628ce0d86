use Rattle.std.proofs.Common.{refl}
use Rattle.std.proofs.lemmas.List.{at_drop_all}
use Rattle.bus_base.proofs.Tests.{item_next}
use Rattle.target_units.proofs.Loading.{one_fits, loading_more, loaded_all, spent_all}
use Rattle.target_units.proofs.loads.load.Goals as goal

pub loop-one-init : goal.loop-one-init
loop-one-init c = record {
  whole = c.requires.whole;
  room = c.requires.room;
  spare = c.requires.spare;
  tape = refl;
  spent = refl;
}

pub load_one-requires : goal.load_one-requires
load_one-requires c =
    let fits = one_fits _ _ _ _ _ _ _ (item_next _ _ _ c.loop-one-test.true c.one-item.is) c.loop-one.invariant in
    record { whole = fits.whole; room = fits.room; spare = fits.spare }

pub loop-one-preserved : goal.loop-one-preserved
loop-one-preserved c = loading_more _ _ _ _ _ _ _ _ (item_next _ _ _ c.loop-one-test.true c.one-item.is)
    c.load_one.ensures.tape c.load_one.ensures.spare c.loop-one.invariant

pub returns-clause-tape : goal.returns-clause-tape
returns-clause-tape c = loaded_all _ _ _ _ _
    (at_drop_all (λ l. l) c.args.loads.now c.loop-one.one-index c.loop-one-test.false) c.loop-one.invariant

pub returns-clause-spare : goal.returns-clause-spare
returns-clause-spare c = spent_all _ _ _ _ _
    (at_drop_all (λ l. l) c.args.loads.now c.loop-one.one-index c.loop-one-test.false) c.loop-one.invariant

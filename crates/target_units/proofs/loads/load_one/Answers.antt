use Rattle.std.proofs.Common.{◌∙◌, List, ap, length, sym, subst, arith}
use Rattle.array_model.specs.Reels.{AreWhole, Object}
use Rattle.tape_unit.specs.Tape.{with_objects}
use Rattle.target_units.proofs.Loading.{is_loaded, not_loaded, own_blocks, no_blocks}
use Rattle.target_units.proofs.loads.load_one.Goals as goal

pub load_object-requires : goal.load_object-requires
load_object-requires c =
    let own = is_loaded c.args.def.now c.args.load.now (sym c.if-is_of.ensures) in
    let long = ap (λ (objects : List Object). length objects) own in
    let blocks = own_blocks c.args.def.now c.args.load.now (sym c.if-is_of.ensures) in
    record {
      whole = (subst (λ (objects : List Object). AreWhole c.args.tape.now.tape.size objects) own c.requires.whole).0;
      room = omega (arith, long, c.requires.room);
      spare = omega (arith, blocks, c.requires.spare);
    }

pub returns-then-is_of-clause-tape : goal.returns-then-is_of-clause-tape
returns-then-is_of-clause-tape c =
    c.load_object.ensures.tape
    ∙ (λ i. with_objects c.args.tape.now.tape
    (sym (is_loaded c.args.def.now c.args.load.now (sym c.if-is_of.ensures)) i))

pub returns-then-is_of-clause-spare : goal.returns-then-is_of-clause-spare
returns-then-is_of-clause-spare c =
    let blocks = own_blocks c.args.def.now c.args.load.now (sym c.if-is_of.ensures) in
    omega (arith, blocks, c.load_object.ensures.spare)

pub returns-else-is_of-clause-tape : goal.returns-else-is_of-clause-tape
returns-else-is_of-clause-tape c =
    not_loaded c.args.def.now c.args.load.now c.args.tape.now.tape (sym c.if-is_of.ensures)

pub returns-else-is_of-clause-spare : goal.returns-else-is_of-clause-spare
returns-else-is_of-clause-spare c =
    let blocks = no_blocks c.args.def.now c.args.load.now (sym c.if-is_of.ensures) in
    omega (arith, blocks)

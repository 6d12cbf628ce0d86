use Rattle.std.proofs.Common.{length}
use Rattle.tape_unit.proofs.StoredObjects.{filemark_there, block_fits, block_here}
use Rattle.tape_unit.proofs.StoredTapes.{stands_there}
use Rattle.tape_unit.proofs.tape.TapeMedium.object.Goals as goal

pub bounds-objects-place : goal.bounds-objects-place
bounds-objects-place c =
    rw c.as_slice-objects.ensures.value (stands_there c.self.invariant c.self.view_is c.args.n c.requires)

pub bounds-objects-place-2 : goal.bounds-objects-place-2
bounds-objects-place-2 c =
    rw c.as_slice-objects.ensures.value (stands_there c.self.invariant c.self.view_is c.args.n c.requires)

pub returns-then-objects-place : goal.returns-then-objects-place
returns-then-objects-place c =
    rw (← c.self.view_is) (filemark_there c.self.inside.size c.args.n c.self.inside.objects.items
    c.self.inside.bytes.items _ (stands_there c.self.invariant c.self.view_is c.args.n c.requires)
    (rw c.as_slice-objects.ensures.value at c.if-objects-place.true))

pub part-requires : goal.part-requires
part-requires c = rw (c.as_slice-objects.ensures.value, c.as_slice.ensures.value)
    (block_fits c.self.inside.objects.items c.args.n c.self.inside.size (length c.self.inside.bytes.items) _
    c.self.invariant.counted (stands_there c.self.invariant c.self.view_is c.args.n c.requires) c.self.invariant.whole
    (rw (← c.as_slice-objects.ensures.value) c.if-objects-place.false))

pub returns : goal.returns
returns c = rw (← c.self.view_is, c.part.ensures, c.as_slice-objects.ensures.value, c.as_slice.ensures.value)
    (block_here c.self.inside.objects.items c.args.n c.self.inside.size c.self.inside.bytes.items _
    c.self.invariant.counted (stands_there c.self.invariant c.self.view_is c.args.n c.requires) c.self.invariant.whole
    (rw (← c.as_slice-objects.ensures.value) c.if-objects-place.false))

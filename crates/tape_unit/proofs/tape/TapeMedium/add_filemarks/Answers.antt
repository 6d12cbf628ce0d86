use Rattle.std.proofs.Common.{arith}
use Rattle.std.specs.Prelude.{◌/◌}
use Rattle.tape_unit.proofs.StoredObjects.{with_more_filemarks}
use Rattle.tape_unit.proofs.StoredTapes.{count_is, blocks_most, same_store, with_filemarks, has_room}
use Rattle.tape_unit.proofs.tape.TapeMedium.add_filemarks.Goals as goal

pub overflow_cast-before : goal.overflow_cast-before
overflow_cast-before c = omega (
  arith,
  blocks_most c.self.invariant,
  count_is c.self.invariant c.len.result (omega (arith, c.len.ensures, c.self.inside.bytes.ok)),
)

pub add_filemarks-requires : goal.add_filemarks-requires
add_filemarks-requires c = record {
  room = omega (
    arith,
    c.self.invariant.objects_fit,
    c.self.inside.objects.ok,
    has_room c.self.invariant c.self.view_is c.args.count c.requires,
  );
}

pub invariant_of-self : goal.invariant_of-self
invariant_of-self c = rw c.add_filemarks.ensures.items (with_filemarks c.self.invariant
    (c.len.result / c.self.inside.size) c.args.count
    (count_is c.self.invariant c.len.result (omega (arith, c.len.ensures, c.self.inside.bytes.ok)))
    (has_room c.self.invariant c.self.view_is c.args.count c.requires) _
    (omega (arith, c.add_filemarks.ensures.capacity)))

pub returns : goal.returns
returns c = rw (← c.self.view_is, c.add_filemarks.ensures.items)
    (same_store c.self.inside.capacity c.self.inside.size c.self.inside.position c.self.inside.spare
    (with_more_filemarks c.self.inside.size (c.len.result / c.self.inside.size) c.args.count c.self.inside.objects.items
    c.self.inside.bytes.items))

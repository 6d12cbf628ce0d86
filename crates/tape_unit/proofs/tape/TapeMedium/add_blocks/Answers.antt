use Rattle.std.proofs.Common.{◌-◌, length, arith}
use Rattle.std.specs.Prelude.{◌/◌}
use Rattle.tape_unit.proofs.StoredObjects.{with_more_blocks}
use Rattle.tape_unit.proofs.StoredTapes.{count_is, blocks_most, bytes_have_room, same_store, with_blocks, has_room}
use Rattle.tape_unit.proofs.StoredTapes.{of_size, is_spare}
use Rattle.tape_unit.proofs.tape.TapeMedium.add_blocks.Goals as goal

pub overflow_cast-before : goal.overflow_cast-before
overflow_cast-before c = omega (
  arith,
  blocks_most c.self.invariant,
  count_is c.self.invariant c.len.result (omega (arith, c.len.ensures, c.self.inside.bytes.ok)),
)

pub add_blocks-requires-clause-room : goal.add_blocks-requires-clause-room
add_blocks-requires-clause-room c = omega (
  arith,
  has_room c.self.invariant c.self.view_is c.args.count c.requires.room,
  c.self.invariant.objects_fit,
  c.self.inside.objects.ok,
)

pub add_blocks-requires-clause-few : goal.add_blocks-requires-clause-few
add_blocks-requires-clause-few c = omega (
  arith,
  blocks_most c.self.invariant,
  count_is c.self.invariant c.len.result (omega (arith, c.len.ensures, c.self.inside.bytes.ok)),
  has_room c.self.invariant c.self.view_is c.args.count c.requires.room,
  c.self.invariant.most,
)

pub add_bytes-requires : goal.add_bytes-requires
add_bytes-requires c = record {
  room = omega (
    arith,
    c.self.inside.bytes.ok,
    bytes_have_room c.self.invariant c.args.count c.args.bytes.now
        (of_size c.self.invariant c.self.view_is c.args.count (length c.args.bytes.now) c.requires.whole)
        (has_room c.self.invariant c.self.view_is c.args.count c.requires.room)
        (is_spare c.self.invariant c.self.view_is c.args.count c.requires.spare),
  );
}

pub invariant_of-self : goal.invariant_of-self
invariant_of-self c = rw (c.add_blocks.ensures.items, c.add_bytes.ensures.items) (with_blocks c.self.invariant
    (c.len.result / c.self.inside.size) c.args.count c.args.bytes.now
    (count_is c.self.invariant c.len.result (omega (arith, c.len.ensures, c.self.inside.bytes.ok)))
    (of_size c.self.invariant c.self.view_is c.args.count (length c.args.bytes.now) c.requires.whole)
    (has_room c.self.invariant c.self.view_is c.args.count c.requires.room)
    (is_spare c.self.invariant c.self.view_is c.args.count c.requires.spare) _ _
    (omega (arith, c.add_blocks.ensures.capacity)) c.add_bytes.ensures.capacity)

pub returns : goal.returns
returns c = rw (← c.self.view_is, c.add_blocks.ensures.items, c.add_bytes.ensures.items)
    (same_store c.self.inside.capacity c.self.inside.size c.self.inside.position (c.self.inside.spare - c.args.count)
    (with_more_blocks c.self.inside.size (c.len.result / c.self.inside.size) c.args.count c.self.inside.objects.items
    c.self.inside.bytes.items c.args.bytes.now c.self.invariant.whole))

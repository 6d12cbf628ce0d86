use Rattle.std.proofs.Common.{◌≡◌, length, arith}
use Rattle.tape_unit.specs.Stored.{objects_of}
use Rattle.tape_unit.proofs.StoredObjects.{cut_objects, length_objects}
use Rattle.tape_unit.proofs.StoredTapes.{cut_off, same_store}
use Rattle.tape_unit.proofs.tape.TapeMedium.cut.Goals as goal

pub invariant_of-self : goal.invariant_of-self
invariant_of-self c = rw (
  c.truncate.ensures.items,
  c.truncate-2.ensures.items,
  c.truncate.ensures.capacity,
  c.truncate-2.ensures.capacity,
  c.bytes_before-first.ensures,
  c.as_slice.ensures.value,
) (cut_off c.self.invariant)

pub returns-clause-exact : goal.returns-clause-exact
returns-clause-exact c = rw (← c.self.view_is) (rw (
  c.truncate.ensures.items,
  c.truncate-2.ensures.items,
  c.bytes_before-first.ensures,
  c.as_slice.ensures.value,
)
    (same_store c.self.inside.capacity c.self.inside.size c.self.inside.position c.self.inside.spare
    (cut_objects c.self.inside.size c.self.inside.position c.self.inside.objects.items c.self.inside.bytes.items)))

pub returns-clause-within : goal.returns-clause-within
returns-clause-within c = rw (← c.self.view_is)
    (let all : length (objects_of c.self.inside.size c.self.inside.objects.items c.self.inside.bytes.items)
    ≡ length c.self.inside.objects.items
    = length_objects c.self.inside.size c.self.inside.objects.items c.self.inside.bytes.items in
    omega (arith, all, c.self.invariant.within))

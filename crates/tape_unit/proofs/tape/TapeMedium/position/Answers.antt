use Rattle.std.proofs.Common.{◌≡◌, length, arith}
use Rattle.tape_unit.specs.Stored.{objects_of}
use Rattle.tape_unit.proofs.StoredObjects.{length_objects}
use Rattle.tape_unit.proofs.StoredTapes.{kept_length}
use Rattle.tape_unit.proofs.tape.TapeMedium.position.Goals as goal

pub returns-clause-within : goal.returns-clause-within
returns-clause-within c = rw (← c.self.view_is)
    (let all : length (objects_of c.self.inside.size c.self.inside.objects.items c.self.inside.bytes.items)
    ≡ length c.self.inside.objects.items
    = length_objects c.self.inside.size c.self.inside.objects.items c.self.inside.bytes.items in
    omega (arith, all, c.self.invariant.within))

pub returns-clause-few : goal.returns-clause-few
returns-clause-few c =
    omega (arith, kept_length c.self.invariant c.self.view_is, c.self.invariant.fits, c.self.invariant.most)

use Rattle.std.proofs.Common.{◌≡◌, length, arith}
use Rattle.tape_unit.specs.Stored.{objects_of}
use Rattle.tape_unit.proofs.StoredObjects.{length_objects}
use Rattle.tape_unit.proofs.tape.TapeMedium.len.Goals as goal

pub returns : goal.returns
returns c = rw (← c.self.view_is)
    (let all : length (objects_of c.self.inside.size c.self.inside.objects.items c.self.inside.bytes.items)
    ≡ length c.self.inside.objects.items = length_objects c.self.inside.size c.self.inside.objects.items
    c.self.inside.bytes.items in omega (arith, all, c.len.ensures, c.self.inside.objects.ok))

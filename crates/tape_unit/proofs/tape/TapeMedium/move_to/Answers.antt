use Rattle.std.proofs.Common.{◌≡◌, length, arith}
use Rattle.tape_unit.proofs.StoredObjects.{length_objects}
use Rattle.tape_unit.proofs.StoredTapes.{moved}
use Rattle.tape_unit.proofs.tape.TapeMedium.move_to.Goals as goal

pub invariant_of-self : goal.invariant_of-self
invariant_of-self c =
    let all : length c.args.self.now.tape.reel.objects ≡ length c.self.inside.objects.items
    = rw (← c.self.view_is) (length_objects c.self.inside.size c.self.inside.objects.items c.self.inside.bytes.items) in
    moved c.self.invariant c.args.position (omega (arith, all, c.requires))

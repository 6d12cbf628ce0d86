use Rattle.std.proofs.Common.{arith}
use Rattle.tape_unit.proofs.StoredObjects.{are_whole}
use Rattle.tape_unit.proofs.StoredTapes.{kept_length}
use Rattle.tape_unit.proofs.tape.TapeMedium.size.Goals as goal

pub returns-clause-whole : goal.returns-clause-whole
returns-clause-whole c = rw (← c.self.view_is)
    (are_whole c.self.inside.size c.self.inside.objects.items c.self.inside.bytes.items c.self.invariant.whole)

pub returns-clause-few : goal.returns-clause-few
returns-clause-few c =
    omega (arith, kept_length c.self.invariant c.self.view_is, c.self.invariant.fits, c.self.invariant.most)

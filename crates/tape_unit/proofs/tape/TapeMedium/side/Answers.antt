use Rattle.std.proofs.Common.{◌∙◌, true, ap}
use Rattle.std.proofs.lemmas.List.{take_rest}
use Rattle.tape_unit.specs.Stored.{seen}
use Rattle.tape_unit.proofs.StoredObjects.{seen_ahead, seen_behind}
use Rattle.tape_unit.proofs.tape.TapeMedium.side.Goals as goal

pub returns-then-forward-clause-seen : goal.returns-then-forward-clause-seen
returns-then-forward-clause-seen c = rw (c.if-forward.true, ← c.self.view_is, c.as_slice.ensures.value)
    (ap (seen true) (take_rest c.self.inside.objects.items c.self.inside.position)
    ∙ seen_ahead c.self.inside.size c.self.inside.position c.self.inside.objects.items c.self.inside.bytes.items)

pub returns-else-forward-clause-seen : goal.returns-else-forward-clause-seen
returns-else-forward-clause-seen c = rw (c.if-forward.false, ← c.self.view_is, c.as_slice-else-forward.ensures.value)
    (seen_behind c.self.inside.size c.self.inside.position c.self.inside.objects.items c.self.inside.bytes.items)

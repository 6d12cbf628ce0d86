use Rattle.std.proofs.Common.{◌∙◌}
use Rattle.target_course.specs.Gathered.{gathering_with}
use Rattle.target_course.proofs.GatheredRows.{kept_byte}
use Rattle.target_course.proofs.gathered.Gathering.put.Goals as goal

pub returns-then-place-self : goal.returns-then-place-self
returns-then-place-self c = kept_byte c.self.inside.owner c.self.inside.bytes.items
    c.self.inside.count c.args.place c.args.byte c.if-place-self.true c.self.invariant
    ∙ (λ i. gathering_with (c.self.view_is i) c.args.place c.args.byte)

use Rattle.trace_text.proofs.Kept.{grows, stays}
use Rattle.trace_text.proofs.line_front.LineFront.push.Goals as goal

pub returns-then-self-lt28 : goal.returns-then-self-lt28
returns-then-self-lt28 c =
    rw (← c.self.view_is) (grows c.self.inside.bytes c.self.inside.len c.args.byte c.self.told c.if-self-lt28.true)

pub returns-else-self-lt28 : goal.returns-else-self-lt28
returns-else-self-lt28 c =
    rw (← c.self.view_is) (stays c.self.inside.bytes c.self.inside.len c.args.byte c.self.told c.if-self-lt28.false)

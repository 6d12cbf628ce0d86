use Rattle.std.proofs.Common.{◌∙◌}
use Rattle.initiator.specs.Received.{buffer_with}
use Rattle.initiator.proofs.ReceivedRows.{kept_byte}
use Rattle.initiator.proofs.received.Buffer.put.Goals as goal

pub returns-then-place-self : goal.returns-then-place-self
returns-then-place-self c = kept_byte c.self.inside.bytes.items c.self.inside.count c.args.place c.args.byte
    c.if-place-self.true c.self.invariant ∙ (λ i. buffer_with (c.self.view_is i) c.args.place c.args.byte)

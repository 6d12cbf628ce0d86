use Rattle.std.proofs.Common.{◌∙◌}
use Rattle.initiator.proofs.received.Received.bytes.Goals as goal

pub returns-clause-trace : goal.returns-clause-trace
returns-clause-trace c = λ s rows dev k h e o. c.held.ensures ∙ (h.buffers c.args.id k e o).bytes_are

use Rattle.std.proofs.Common.{◌^◌}
use Rattle.handshake.proofs.due.hand_due.Goals as goal

pub invariant_of-at : goal.invariant_of-at
invariant_of-at c = (
  (c.sight_of-seen.ensures.timely (2 ^ 63) c.requires.timely, c.handshakes.ensures.timely (2 ^ 63) c.requires.timely),
  (c.requires.ready, c.requires.steady),
)

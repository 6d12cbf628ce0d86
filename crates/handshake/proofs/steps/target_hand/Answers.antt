use Rattle.std.proofs.Common.{◌^◌}
use Rattle.handshake.proofs.steps.target_hand.Goals as goal

pub target_next-due-requires-clause-seen : goal.target_next-due-requires-clause-seen
target_next-due-requires-clause-seen c = c.sight_of-seen.ensures.timely (2 ^ 63) c.requires.timely

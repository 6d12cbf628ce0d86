use Rattle.std.proofs.Common.{◌^◌}
use Rattle.handshake.proofs.steps.initiator_hand.Goals as goal

pub initiator_next-due-requires-clause-seen : goal.initiator_next-due-requires-clause-seen
initiator_next-due-requires-clause-seen c = c.sight_of-seen.ensures.timely (2 ^ 63) c.requires.timely

use Rattle.std.proofs.Common.{◌∙◌}
use Rattle.initiator.specs.Outcomes.{told_outcome_if}
use Rattle.initiator.proofs.OutcomeReplies.{outcome_told}
use Rattle.initiator.proofs.outcome.command_outcome.Goals as goal

pub returns-clause-trace : goal.returns-clause-trace
returns-clause-trace c = λ s b n h replies.
    (λ i. told_outcome_if (c.outcome_after.ensures i))
    ∙ outcome_told s b n c.args.end c.args.sense_over c.args.bytes c.args.sense.now h replies

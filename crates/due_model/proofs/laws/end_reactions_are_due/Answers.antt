use Rattle.due_model.proofs.Reactions.{target_is_due, initiator_is_due}
use Rattle.due_model.proofs.laws.end_reactions_are_due.Goals as goal

pub returns-clause-target : goal.returns-clause-target
returns-clause-target c = λ s rows dev latency n h g i t. target_is_due s rows dev latency n h g i t

pub returns-clause-initiator : goal.returns-clause-initiator
returns-clause-initiator c = λ s rows dev latency n h g i. initiator_is_due s rows dev latency n h g i

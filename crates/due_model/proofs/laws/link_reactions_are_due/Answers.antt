use Rattle.due_model.proofs.Reactions.{linking_is_due}
use Rattle.due_model.proofs.laws.link_reactions_are_due.Goals as goal

pub returns : goal.returns
returns c = λ s rows dev latency h n. linking_is_due s rows dev latency h n

use Rattle.due_model.proofs.Traces.{one_trace, same_length}
use Rattle.due_model.proofs.laws.traces_are_determined.Goals as goal

pub returns-clause-length : goal.returns-clause-length
returns-clause-length c = λ s rows others p q e. same_length s rows others p q e

pub returns-clause-ended : goal.returns-clause-ended
returns-clause-ended c = λ s rows others p e q f. one_trace s rows others p e q f

use Rattle.due_model.proofs.Plains.{run_state_plain}
use Rattle.due_model.proofs.Hearings.{hearing_plain}
use Rattle.due_model.proofs.laws.hearings_are_plain.Goals as goal

pub returns-clause-begun : goal.returns-clause-begun
returns-clause-begun c = λ s rows h. (run_state_plain s rows h).begun

pub returns-clause-hearing : goal.returns-clause-hearing
returns-clause-hearing c = λ s rows row h lt. hearing_plain s rows row h lt

use Rattle.due_model.proofs.Plains.{run_state_plain, prompt_plain}
use Rattle.due_model.proofs.laws.kept_is_plain.Goals as goal

pub returns-clause-rows : goal.returns-clause-rows
returns-clause-rows c = λ s rows h. run_state_plain s rows h

pub returns-clause-prompt : goal.returns-clause-prompt
returns-clause-prompt c = λ s rows h. prompt_plain s rows h

use Rattle.due_model.proofs.Runs.{run_is}
use Rattle.due_model.proofs.laws.runs_are_prompt.Goals as goal

pub returns-clause-prompt : goal.returns-clause-prompt
returns-clause-prompt c = λ s fuel. (run_is s fuel).prompt

pub returns-clause-ended : goal.returns-clause-ended
returns-clause-ended c = λ s fuel e. (run_is s fuel).ended e

pub returns-clause-kept : goal.returns-clause-kept
returns-clause-kept c = λ s fuel. (run_is s fuel).kept

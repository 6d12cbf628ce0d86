use Rattle.trace_laws.proofs.Whole.{whole}
use Rattle.trace_laws.proofs.laws.connections_are_of_the_scenario.Goals as goal

pub returns-clause-ends : goal.returns-clause-ends
returns-clause-ends c = λ s rows o prompt. (whole s rows o prompt).ends

pub returns-clause-left : goal.returns-clause-left
returns-clause-left c = λ s rows o prompt. (whole s rows o prompt).left

use Rattle.right_laws.proofs.Samples.Facts.{strikes_at_end, strikes_so_far}
use Rattle.right_laws.proofs.fault_rows.fault_rows_are_of_the_scenario.Goals as goal

pub returns-clause-struck : goal.returns-clause-struck
returns-clause-struck c = λ s rows o prompt ended. strikes_at_end s rows (record { obeys = o; prompt = prompt }) ended

pub returns-clause-so_far : goal.returns-clause-so_far
returns-clause-so_far c = λ s rows o prompt. strikes_so_far s rows (record { obeys = o; prompt = prompt })

use Rattle.measure_laws.proofs
use proofs.Budget.{Finish.{few_rows, runs_end, stays_within, within}, Small.{small_start}, Start.{starts}}
use proofs.FallsWhole.{falls}
use Rattle.measure_laws.proofs.laws.runs_stay_within_budget.Goals as goal

pub returns-clause-starts : goal.returns-clause-starts
returns-clause-starts c = λ s o. starts s o

pub returns-clause-falls : goal.returns-clause-falls
returns-clause-falls c = λ s rows row o p. falls s rows row o p

pub returns-clause-few : goal.returns-clause-few
returns-clause-few c = λ s rows o p. within falls s rows o p

pub returns-clause-small : goal.returns-clause-small
returns-clause-small c = λ s rows o p. few_rows falls s rows o p (small_start s o)

pub returns-clause-within : goal.returns-clause-within
returns-clause-within c = λ s rows o p. stays_within falls s rows o p

pub returns-clause-ends : goal.returns-clause-ends
returns-clause-ends c = λ s o. runs_end falls c.runs_are_prompt.ensures.prompt c.runs_are_prompt.ensures.ended s o

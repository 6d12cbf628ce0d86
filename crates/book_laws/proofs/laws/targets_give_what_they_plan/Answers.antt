use Rattle.book_laws.proofs
use proofs.{Names.{run_state}, Given.{Messages.{gives_first}, Rows.{gives_on}}}
use Rattle.book_laws.proofs.laws.targets_give_what_they_plan.Goals as goal

-- src/laws.rt
pub returns-clause-first : goal.returns-clause-first
returns-clause-first c = λ s rows row n begins named. gives_first s (run_state s rows) row n begins named

-- src/laws.rt
pub returns-clause-next : goal.returns-clause-next
returns-clause-next c = λ s rows row n change h gives k. gives_on s (run_state s rows) row n change h gives k

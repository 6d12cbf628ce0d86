use Rattle.book_laws.proofs
use proofs.{Names.{run_state}, Known.{First.{knows_first}, Rows.{knows_on}}}
use Rattle.book_laws.proofs.laws.initiators_know_the_process.Goals as goal

-- src/laws.rt
pub returns-clause-first : goal.returns-clause-first
returns-clause-first c = λ s rows row n begins. knows_first s (run_state s rows) row n begins

-- src/laws.rt
pub returns-clause-next : goal.returns-clause-next
returns-clause-next c =
    λ s rows row n change h given gives names k. knows_on s (run_state s rows) row n change h given gives names k

use Rattle.book_laws.proofs
use proofs.{Names.{run_state}, Items.Facts.{aims_are}, Said.{First.{speaks_first}, Rows.{speaks_on}}}
use Rattle.book_laws.proofs.laws.initiators_say_what_is_asked.Goals as goal

-- src/laws.rt
pub returns-clause-first : goal.returns-clause-first
returns-clause-first c =
    λ s rows row n units begins aimed. speaks_first s (run_state s rows) row n units (aims_are s rows) begins aimed

-- src/laws.rt
pub returns-clause-next : goal.returns-clause-next
returns-clause-next c = λ s rows row n change h says k. speaks_on s (run_state s rows) row n change h says k

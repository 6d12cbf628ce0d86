use Rattle.book_laws.proofs
use proofs.{Names.{run_state}, Items.Facts.{aims_are}, RowTies.{row_of}, Traces.{books_on, books_are, trace_faithful}}
use Rattle.book_laws.proofs.laws.books_hold_after_all_rows.Goals as goal

-- src/laws.rt
pub returns-clause-rows : goal.returns-clause-rows
returns-clause-rows c = λ s rows units h. books_are s rows units h

-- src/laws.rt
pub returns-clause-next : goal.returns-clause-next
returns-clause-next c = λ s rows row units of books. books_on s (run_state s rows) row units (aims_are s rows) of books

-- src/laws.rt
pub returns-clause-faithful : goal.returns-clause-faithful
returns-clause-faithful c = λ s rows units h. trace_faithful s rows units h

-- src/laws.rt
pub returns-clause-tested : goal.returns-clause-tested
returns-clause-tested c = λ s k row e. row_of s k row e

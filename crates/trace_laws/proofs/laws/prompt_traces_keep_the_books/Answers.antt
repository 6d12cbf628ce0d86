use Rattle.trace_laws.proofs
use proofs.{Names.{obeys_fits, seats_are, units_are, trace_faithful, byte_values}, Whole.{whole}}
use Rattle.trace_laws.proofs.laws.prompt_traces_keep_the_books.Goals as goal

pub returns-clause-rows : goal.returns-clause-rows
returns-clause-rows c = λ s rows o prompt. (whole s rows o prompt).rows_are

pub returns-clause-books : goal.returns-clause-books
returns-clause-books c = λ s rows o prompt. (whole s rows o prompt).stood.books

pub returns-clause-faithful : goal.returns-clause-faithful
returns-clause-faithful c =
    λ s rows o prompt. trace_faithful s rows (units_are s (obeys_fits s o)) (whole s rows o prompt).rows_are

pub returns-clause-bytes : goal.returns-clause-bytes
returns-clause-bytes c = λ s rows n o dv. byte_values s rows n o (seats_are s (obeys_fits s o)) dv

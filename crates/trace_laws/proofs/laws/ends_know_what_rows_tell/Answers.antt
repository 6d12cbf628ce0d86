use Rattle.trace_laws.proofs.Whole.{row_attendance, whole}
use Rattle.trace_laws.proofs.laws.ends_know_what_rows_tell.Goals as goal

pub returns-clause-telling : goal.returns-clause-telling
returns-clause-telling c = λ s rows o prompt. (whole s rows o prompt).told

pub returns-clause-allowed : goal.returns-clause-allowed
returns-clause-allowed c = λ s rows o prompt. (whole s rows o prompt).permitted

pub returns-clause-heard : goal.returns-clause-heard
returns-clause-heard c = λ s rows o prompt. (whole s rows o prompt).hears

pub returns-clause-written : goal.returns-clause-written
returns-clause-written c = λ s rows o prompt. (whole s rows o prompt).wrote

pub returns-clause-attended : goal.returns-clause-attended
returns-clause-attended c = λ s rows row o prompt. row_attendance s rows row o prompt

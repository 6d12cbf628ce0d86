use Rattle.delivery_laws.proofs.Resets.Facts.{begin_by_lines, end_in_time, lines_have_rows}
use Rattle.delivery_laws.proofs.laws.resets_are_by_lines.Goals as goal

pub returns-clause-begins : goal.returns-clause-begins
returns-clause-begins c = λ s rows o prompt. begin_by_lines s rows o prompt

pub returns-clause-ends : goal.returns-clause-ends
returns-clause-ends c = λ s rows o prompt. end_in_time s rows o prompt

pub returns-clause-lines : goal.returns-clause-lines
returns-clause-lines c = λ s rows o prompt end. lines_have_rows s rows o prompt end

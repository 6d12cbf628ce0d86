use Rattle.right_laws.proofs.Given.Rows.{all_move}
use Rattle.right_laws.proofs.Ran.Right.{all_joined, carried_rows, history_permitted, right_rows}
use Rattle.right_laws.proofs.laws.prompt_traces_are_right.Goals as goal

pub returns-clause-permitted : goal.returns-clause-permitted
returns-clause-permitted c = λ s rows o prompt. history_permitted s rows o prompt

pub returns-clause-carried : goal.returns-clause-carried
returns-clause-carried c =
    λ s rows o prompt. carried_rows s rows o prompt (all_joined s rows o prompt) (all_move s rows o prompt)

pub returns-clause-right : goal.returns-clause-right
returns-clause-right c =
    λ s rows o prompt. right_rows s rows o prompt (all_joined s rows o prompt) (all_move s rows o prompt)

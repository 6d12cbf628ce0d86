use Rattle.array_model.proofs.ArrayReplies as replies
use Rattle.array_model.proofs.seats.replies_are_of_those_that_run.Goals as goal

pub returns-clause-start : goal.returns-clause-start
returns-clause-start c = λ s. replies.starts s

pub returns-clause-goes_on : goal.returns-clause-goes_on
returns-clause-goes_on c = λ s a b event f sound once st h. replies.goes_on s a b event f sound once st h

use Rattle.due_model.proofs.Stills.{keeps_wishes, keeps_wants, keeps_aims, keeps_callee, keeps_leaving, keeps_bytes}
use Rattle.due_model.proofs.laws.still_rows_keep_wishes.Goals as goal

pub returns-clause-all : goal.returns-clause-all
returns-clause-all c = λ s rows row h. keeps_wishes s rows row h

pub returns-clause-wants : goal.returns-clause-wants
returns-clause-wants c = λ s rows row h dev. keeps_wants s rows row h dev

pub returns-clause-aims : goal.returns-clause-aims
returns-clause-aims c = λ s rows row h e. keeps_aims s rows row h e

pub returns-clause-callees : goal.returns-clause-callees
returns-clause-callees c = λ s rows row h dev e. keeps_callee s rows row h dev e

pub returns-clause-leaving : goal.returns-clause-leaving
returns-clause-leaving c = λ s rows row h e dev phase. keeps_leaving s rows row h e dev phase

pub returns-clause-bytes : goal.returns-clause-bytes
returns-clause-bytes c =
    λ s rows row h dev phase messages more place. keeps_bytes s rows row h dev phase messages more place

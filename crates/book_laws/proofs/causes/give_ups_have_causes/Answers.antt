use Rattle.book_laws.proofs.Failures.Counts.{struck_is, counted}
use Rattle.book_laws.proofs.Failures.GiveUps.{failure_is, loss_is}
use Rattle.book_laws.proofs.causes.give_ups_have_causes.Goals as goal

pub returns-clause-struck : goal.returns-clause-struck
returns-clause-struck c = λ s rows h. struck_is s rows h

pub returns-clause-counted : goal.returns-clause-counted
returns-clause-counted c = λ s rows id. counted s rows id

pub returns-clause-failure : goal.returns-clause-failure
returns-clause-failure c = λ s rows row n id code z told has. failure_is s rows row n id code z told has

pub returns-clause-loss : goal.returns-clause-loss
returns-clause-loss c = λ s rows row n p z told own free has. loss_is s rows row n p z told own free has

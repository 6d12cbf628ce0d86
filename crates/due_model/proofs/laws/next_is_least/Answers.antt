use Rattle.due_model.specs.Next.{due}
use Rattle.due_model.proofs.Leasts.{least_some, least_none}
use Rattle.due_model.proofs.laws.next_is_least.Goals as goal

pub returns-clause-least : goal.returns-clause-least
returns-clause-least c = λ s rows row e. least_some (due s rows) 8 row e

pub returns-clause-none : goal.returns-clause-none
returns-clause-none c = λ s rows e dev lt. least_none (due s rows) 8 e dev lt

use Rattle.due_model.proofs.Items.{items_are, wants_are}
use Rattle.due_model.proofs.laws.wants_are_items.Goals as goal

pub returns-clause-items : goal.returns-clause-items
returns-clause-items c = λ s sent dev time. items_are s sent dev time

pub returns-clause-wants : goal.returns-clause-wants
returns-clause-wants c = λ s sent dev time. wants_are s sent dev time

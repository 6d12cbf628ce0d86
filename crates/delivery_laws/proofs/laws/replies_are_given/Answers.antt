use Rattle.delivery_laws.proofs.Replies.Given.{all_given}
use Rattle.delivery_laws.proofs.laws.replies_are_given.Goals as goal

pub returns : goal.returns
returns c = λ s h a id r o e z. all_given s h a o e id r z

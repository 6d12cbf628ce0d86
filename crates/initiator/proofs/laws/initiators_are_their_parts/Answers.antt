use Rattle.initiator.proofs.Parts.{parts_are}
use Rattle.initiator.proofs.laws.initiators_are_their_parts.Goals as goal

pub returns : goal.returns
returns c = λ s rows h v w speech sending d lt x y i j p q. parts_are s rows h v w speech sending d lt x y i j p q

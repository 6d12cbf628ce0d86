use Rattle.std.proofs.Common.{◌∙◌, sym}
use Rattle.initiator.proofs.due.initiator_next.Goals as goal

pub returns-clause-due : goal.returns-clause-due
returns-clause-due c =
    λ s rows o g d t r e. c.next_by.ensures rows o ∙ sym (c.dues_are_of_initiators.ensures s rows _ _ _ g d t r e)

use Rattle.initiator.proofs.Dues.{dues_are}
use Rattle.initiator.proofs.laws.dues_are_of_initiators.Goals as goal

pub returns : goal.returns
returns c = λ s rows h i f g d t r e. dues_are c.end_reactions_are_due.ensures.initiator
    c.devices_know_enough.ensures.faults c.devices_know_enough.ensures.others s rows h i f g d
    (c.kept_is_plain.ensures.rows s rows d) t r e

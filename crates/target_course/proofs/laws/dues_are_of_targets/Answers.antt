use Rattle.target_course.proofs.Dues.{dues_are}
use Rattle.target_course.proofs.laws.dues_are_of_targets.Goals as goal

pub returns : goal.returns
returns c = λ s rows d i f g q t r e. dues_are c.end_reactions_are_due.ensures.target
    c.devices_know_enough.ensures.faults c.devices_know_enough.ensures.others s rows d i f g q
    (c.kept_is_plain.ensures.rows s rows q) t r e

use Rattle.bus_engine.proofs.Overs.{initiator_over, target_over, units_at}
use Rattle.bus_engine.proofs.member.Member.into_units.Goals as goal

pub returns-in-Initiator : goal.returns-in-Initiator
returns-in-Initiator c = λ s rows dev first h.
    (initiator_over s rows dev first c.args.self c.in-Initiator.field-0 c.in-Initiator.is h).no_target

pub returns : goal.returns
returns c = λ s rows dev first h.
    let target = target_over s rows dev first c.args.self c.in-Target.target c.in-Target.is h in
    units_at s rows dev c.in-Target.target _ target c.into_units.ensures.value
    (c.into_units.ensures.array s rows target.after)

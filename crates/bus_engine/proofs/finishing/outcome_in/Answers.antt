use Rattle.bus_engine.proofs.EndedPlaces.{member_in}
use Rattle.bus_engine.proofs.finishing.outcome_in.Goals as goal

pub returns-in-Some-clause-over : goal.returns-in-Some-clause-over
returns-in-Some-clause-over c = λ s rows dev first le h. c.take_outcome.ensures.over s rows dev first le
    (member_in s rows dev first c.args.place.now c.in-Some.member c.in-Some.is h)

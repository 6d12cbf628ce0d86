use Rattle.std.proofs.Common.{◌∙◌, sym}
use Rattle.bus_engine.proofs.EndedPlaces.{member_in}
use Rattle.bus_engine.proofs.finishing.units_in.Goals as goal

pub returns-in-Some : goal.returns-in-Some
returns-in-Some c = λ s rows dev first h. c.into_units.ensures s rows dev first
    (member_in s rows dev first c.args.place.now c.in-Some.member (sym c.take.ensures.value ∙ c.in-Some.is) h)

use Rattle.target_units.proofs.Rooms.{room_start}
use Rattle.target_units.proofs.Starts.{units_start}
use Rattle.target_units.proofs.units.Units.new.Goals as goal

pub returns-clause-start : goal.returns-clause-start
returns-clause-start c = λ s fits target h spare.
    units_start s c.args.dev c.args.units c.are_eight.ensures h (room_start s c.args.dev c.args.units fits target spare)

use Rattle.std.proofs.Common.{◌∙◌}
use Rattle.target_units.proofs.Tellings.{room_seen}
use Rattle.target_units.proofs.seated.SeatedUnit.room.Goals as goal

pub returns-clause-seat : goal.returns-clause-seat
returns-clause-seat c =
    λ hosts seat time u h there. c.room_now.ensures ∙ room_seen hosts seat time c.args.self.now u h there

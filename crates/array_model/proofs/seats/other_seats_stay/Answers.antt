use Rattle.array_model.proofs.SeatLaws.{other_law}
use Rattle.array_model.proofs.seats.other_seats_stay.Goals as goal

pub returns : goal.returns
returns c = record { stay = other_law }

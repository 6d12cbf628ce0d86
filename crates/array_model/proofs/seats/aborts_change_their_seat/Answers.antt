use Rattle.array_model.proofs.SeatLaws.{abort_law, device_law, reset_law}
use Rattle.array_model.proofs.seats.aborts_change_their_seat.Goals as goal

pub returns : goal.returns
returns c = record { abort = abort_law; device = device_law; reset = reset_law }

use Rattle.array_model.proofs.SeatLaws.{accept_law, refuse_law, run_law, fail_law, end_law, loss_law}
use Rattle.array_model.proofs.seats.processes_change_their_seat.Goals as goal

pub returns : goal.returns
returns c = record {
  accept = accept_law;
  refuse = refuse_law;
  run = run_law;
  failure = fail_law;
  end = end_law;
  loss = loss_law;
}

use Rattle.std.proofs.Common.{◌∙◌}
use Rattle.array_model.specs.Seats.{seat_after_reset}
use Rattle.target_units.specs.Seated.{settled}
use Rattle.target_units.proofs.SeatSteps.{by_state, resets}
use Rattle.target_units.proofs.seated.SeatedUnit.reset.Goals as goal

pub returns-clause-seat : goal.returns-clause-seat
returns-clause-seat c = λ hosts seat time h.
    by_state hosts seat (seat_after_reset hosts seat) time c.args.now _ _
    (c.settle.ensures ∙ (λ i. settled (c.current_process-before.ensures i) c.args.now (c.clear.ensures i)))
    (resets hosts seat time c.args.now c.args.self.now h)

use Rattle.std.proofs.Common.{◌∙◌}
use Rattle.array_model.specs.Seats.{seat_after_aborted}
use Rattle.target_units.specs.Seated.{settled}
use Rattle.target_units.proofs.SeatSteps.{by_state, aborts_at}
use Rattle.target_units.proofs.seated.SeatedUnit.abort.Goals as goal

pub returns-clause-seat : goal.returns-clause-seat
returns-clause-seat c = λ hosts seat time h. by_state hosts seat
    (seat_after_aborted hosts c.args.by c.args.kind seat) time c.args.now _ _
    (c.settle.ensures ∙ (λ i. settled (c.current_process-before.ensures i) c.args.now (c.cut.new.self))) (aborts_at
    hosts seat time c.args.now c.args.self.now c.cut.new.self c.args.kind c.args.by c.requires.device c.cut.ensures h)

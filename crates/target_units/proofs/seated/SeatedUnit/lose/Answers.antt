use Rattle.std.proofs.Common.{◌∙◌}
use Rattle.target_units.specs.Seated.{settled}
use Rattle.target_units.proofs.SeatSteps.{by_state, loses}
use Rattle.target_units.proofs.seated.SeatedUnit.lose.Goals as goal

pub returns-clause-seat : goal.returns-clause-seat
returns-clause-seat c = λ hosts seat after time over h e.
    by_state hosts seat after time c.args.now _ _
    (c.settle.ensures ∙ (λ i. settled (c.current_process-before.ensures i) c.args.now (c.lose_live.ensures i)))
    (loses hosts seat after time c.args.now c.args.self.now c.args.id over h e)

use Rattle.std.proofs.Common.{◌∙◌}
use Rattle.target_units.specs.Seated.{settled}
use Rattle.target_units.proofs.SeatSteps.{by_state, fails}
use Rattle.target_units.proofs.seated.SeatedUnit.fail.Goals as goal

pub returns-clause-seat : goal.returns-clause-seat
returns-clause-seat c = λ hosts seat after time over p h same e.
    by_state hosts seat after time c.args.now _ _
    (c.settle.ensures ∙ (λ i. settled (c.current_process-before.ensures i) c.args.now (c.fail_current.ensures i)))
    (fails hosts seat after time c.args.now c.args.self.now c.args.id c.args.code over p h same e)

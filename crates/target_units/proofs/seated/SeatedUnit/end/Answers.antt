use Rattle.std.proofs.Common.{◌∙◌}
use Rattle.target_units.specs.Seated.{settled}
use Rattle.target_units.proofs.SeatSteps.{by_state, ends}
use Rattle.target_units.proofs.seated.SeatedUnit.end.Goals as goal

pub returns-clause-seat : goal.returns-clause-seat
returns-clause-seat c = λ hosts seat after time status h g e.
    by_state hosts seat after time c.args.now _ _
    (c.settle.ensures ∙ (λ i. settled (c.current_process-before.ensures i) c.args.now (c.end_live.ensures i)))
    (ends hosts seat after time c.args.now c.args.self.now c.args.id status h g e)

use Rattle.std.proofs.Common.{subst, sym, ◌∙◌}
use Rattle.target_units.specs.declared.logical.LogicalUnit.{LogicalUnit}
use Rattle.target_units.specs.Units.{IsUnitOf, spare_of}
use Rattle.tag_queue.specs.Queue.{key_of_process}
use Rattle.target_units.proofs.SeatSteps.{loss_spare}
use Rattle.target_units.proofs.logical.LogicalUnit.lose.Goals as goal

pub returns-in-There-clause-seat : goal.returns-in-There-clause-seat
returns-in-There-clause-seat c = λ hosts seat after time over h e. c.lose.ensures.seat hosts seat after time over
    (subst (λ (u : LogicalUnit). IsUnitOf hosts seat time u) c.in-There.is h) e

pub returns-in-There-clause-spare : goal.returns-in-There-clause-spare
returns-in-There-clause-spare c = (λ i. (c.lose.ensures.exact i).spare)
    ∙ loss_spare c.in-There.seated (key_of_process c.in-There.seated.books.queue.arrived c.args.id)
    ∙ (λ i. spare_of (sym c.in-There.is i))

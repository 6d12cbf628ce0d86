use Rattle.std.proofs.Common.{Some, subst, sym, ◌∙◌}
use Rattle.array_model.specs.Execution.{queue_full}
use Rattle.array_model.specs.Seats.{seat_with_guest}
use Rattle.target_units.specs.declared.logical.LogicalUnit.{LogicalUnit}
use Rattle.target_units.specs.Seated.{IsAtSeat}
use Rattle.target_units.specs.Units.{IsUnitOf, spare_of}
use Rattle.target_units.proofs.UnitSteps.{seated_after}
use Rattle.target_units.proofs.logical.LogicalUnit.accept.Goals as goal

pub returns-in-There-clause-accepts : goal.returns-in-There-clause-accepts
returns-in-There-clause-accepts c = λ hosts seat after time p h words kind new e. c.accept.ensures.accepts
    hosts seat after time p (subst (λ (u : LogicalUnit). IsUnitOf hosts seat time u) c.in-There.is h) words kind new e

pub returns-in-There-clause-refuses : goal.returns-in-There-clause-refuses
returns-in-There-clause-refuses c = λ hosts seat after time p h words new e.
    let k : IsAtSeat hosts seat time c.in-There.seated = subst
    (λ (u : LogicalUnit). IsUnitOf hosts seat time u) c.in-There.is h in
    let x = c.accept.ensures.refuses hosts seat time p k words new
    (c.accept.ensures.refused hosts seat after time p k words e) in
    seated_after hosts seat (seat_with_guest seat p (Some queue_full)) after time c.args.now c.accept.new.self
    (sym x.1 ∙ e) x.2

pub returns-in-There-clause-full : goal.returns-in-There-clause-full
returns-in-There-clause-full c = λ hosts seat time p h words new full. (c.accept.ensures.refuses hosts seat time p
    (subst (λ (u : LogicalUnit). IsUnitOf hosts seat time u) c.in-There.is h) words new full).0

pub returns-in-There-clause-refused : goal.returns-in-There-clause-refused
returns-in-There-clause-refused c = λ hosts seat after time p h words e. c.accept.ensures.refused hosts seat after time
    p (subst (λ (u : LogicalUnit). IsUnitOf hosts seat time u) c.in-There.is h) words e

pub returns-in-There-clause-spare : goal.returns-in-There-clause-spare
returns-in-There-clause-spare c = c.accept.ensures.spare ∙ (λ i. spare_of (sym c.in-There.is i))

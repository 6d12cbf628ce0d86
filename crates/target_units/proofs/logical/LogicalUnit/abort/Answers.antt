use Rattle.std.proofs.Common.{subst, sym, ◌∙◌}
use Rattle.target_units.specs.declared.logical.LogicalUnit.{LogicalUnit}
use Rattle.target_units.specs.Units.{IsUnitOf, spare_of}
use Rattle.target_units.proofs.logical.LogicalUnit.abort.Goals as goal

pub returns-in-There-clause-seat : goal.returns-in-There-clause-seat
returns-in-There-clause-seat c = λ hosts seat time h.
    c.abort.ensures.seat hosts seat time (subst (λ (u : LogicalUnit). IsUnitOf hosts seat time u) c.in-There.is h)

pub returns-in-There-clause-spare : goal.returns-in-There-clause-spare
returns-in-There-clause-spare c = (λ i. (c.abort.ensures.exact.2 i).spare)
    ∙ (λ i. (c.abort.ensures.exact.1.others i).spare) ∙ (λ i. spare_of (sym c.in-There.is i))

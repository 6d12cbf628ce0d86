use Rattle.std.proofs.Common.{subst, sym, ◌∙◌}
use Rattle.target_units.specs.declared.logical.LogicalUnit.{LogicalUnit}
use Rattle.target_units.specs.Units.{IsUnitOf, spare_of}
use Rattle.target_units.proofs.logical.LogicalUnit.end_guest.Goals as goal

pub returns-in-There-clause-seat : goal.returns-in-There-clause-seat
returns-in-There-clause-seat c =
    λ hosts seat after time status id p given h g same told sense e. c.end_guest.ensures.seat hosts seat after time
    status id p given (subst (λ (u : LogicalUnit). IsUnitOf hosts seat time u) c.in-There.is h) g same told sense e

pub returns-in-There-clause-spare : goal.returns-in-There-clause-spare
returns-in-There-clause-spare c = (λ i. (c.end_guest.ensures.exact i).spare) ∙ (λ i. spare_of (sym c.in-There.is i))

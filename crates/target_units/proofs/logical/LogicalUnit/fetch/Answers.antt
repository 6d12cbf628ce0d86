use Rattle.std.proofs.Common.{subst}
use Rattle.target_units.specs.declared.logical.LogicalUnit.{LogicalUnit}
use Rattle.target_units.specs.Units.{IsUnitOf}
use Rattle.target_units.proofs.logical.LogicalUnit.fetch.Goals as goal

pub returns-in-There : goal.returns-in-There
returns-in-There c = λ hosts seat time sent h host. c.fetch.ensures.seat hosts seat time sent
    (subst (λ (u : LogicalUnit). IsUnitOf hosts seat time u) c.in-There.is h) host

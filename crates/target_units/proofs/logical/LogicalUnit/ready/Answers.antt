use Rattle.std.proofs.Common.{subst}
use Rattle.target_units.specs.declared.logical.LogicalUnit.{LogicalUnit}
use Rattle.target_units.specs.Units.{IsUnitOf}
use Rattle.target_units.proofs.logical.LogicalUnit.ready.Goals as goal

pub returns-in-There : goal.returns-in-There
returns-in-There c = λ hosts seat time h lt own. c.ready.ensures.seat hosts seat time
    (subst (λ (u : LogicalUnit). IsUnitOf hosts seat time u) c.in-There.is h) lt own

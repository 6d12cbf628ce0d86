use Rattle.std.proofs.Common.{subst}
use Rattle.target_units.specs.declared.logical.LogicalUnit.{LogicalUnit}
use Rattle.target_units.specs.Units.{IsUnitOf}
use Rattle.target_units.proofs.logical.LogicalUnit.block_size.Goals as goal

pub returns-in-There : goal.returns-in-There
returns-in-There c = λ hosts seat time h.
    c.block_size.ensures.seat hosts seat time (subst (λ (u : LogicalUnit). IsUnitOf hosts seat time u) c.in-There.is h)

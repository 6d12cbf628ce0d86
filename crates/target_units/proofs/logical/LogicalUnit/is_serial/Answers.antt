use Rattle.std.proofs.Common.{subst, sym}
use Rattle.array_model.specs.Contents.{is_reeled}
use Rattle.array_model.specs.Seats.{contents_of}
use Rattle.target_units.specs.Absent.{IsAbsentAt}
use Rattle.target_units.specs.declared.logical.LogicalUnit.{LogicalUnit}
use Rattle.target_units.specs.Units.{IsUnitOf}
use Rattle.target_units.proofs.logical.LogicalUnit.is_serial.Goals as goal

pub returns-in-There : goal.returns-in-There
returns-in-There c = λ hosts seat time h.
    c.is_serial.ensures.seat hosts seat time (subst (λ (u : LogicalUnit). IsUnitOf hosts seat time u) c.in-There.is h)

pub returns-in-Absent : goal.returns-in-Absent
returns-in-Absent c = λ hosts seat time h.
    let absent : IsAbsentAt seat c.in-Absent.field-0 = subst
    (λ (u : LogicalUnit). IsUnitOf hosts seat time u) c.in-Absent.is h in
    λ i. is_reeled (contents_of (sym absent.none i))

use Rattle.std.proofs.Common.{Some, subst, sym, ◌∙◌}
use Rattle.array_model.specs.Seats.{is_any_held}
use Rattle.target_units.specs.declared.logical.LogicalUnit.{LogicalUnit}
use Rattle.target_units.specs.Seated.{IsAtSeat}
use Rattle.target_units.specs.Units.{IsUnitOf, room_if}
use Rattle.target_units.proofs.logical.LogicalUnit.room.Goals as goal

pub returns-in-There : goal.returns-in-There
returns-in-There c = λ hosts seat time h.
    let k : IsAtSeat hosts seat time c.in-There.seated = subst
    (λ (u : LogicalUnit). IsUnitOf hosts seat time u) c.in-There.is h in
    (λ i. Some (c.room.ensures.seat hosts seat time k.1 k k.2.kept.there i))
    ∙ (λ i. room_if (is_any_held seat.hold) (sym k.2.kept.there i))

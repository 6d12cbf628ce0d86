use Rattle.std.proofs.Common.{ℕ, ◌∙◌, ◌≤◌, ◌+◌, subst, sym}
use Rattle.array_model.specs.Seats.{contents_of, running_at}
use Rattle.array_model.specs.Units.{guest_at}
use Rattle.disk_unit.specs.Held.{cost_by, kind_of}
use Rattle.target_units.specs.Rooms.{HasRoomFor}
use Rattle.std.specs.Prelude.{is_some}
use Rattle.target_units.specs.declared.logical.LogicalUnit.{LogicalUnit}
use Rattle.target_units.specs.Seated.{IsAtSeat}
use Rattle.target_units.specs.Units.{IsUnitOf, spare_of}
use Rattle.target_units.proofs.UnitRuns.{none_runs}
use Rattle.target_units.proofs.logical.LogicalUnit.run.Goals as goal

pub returns-in-There-clause-seat : goal.returns-in-There-clause-seat
returns-in-There-clause-seat c = λ hosts seat after time p h same none running sending room e.
    let x = c.run.ensures.seat hosts seat after time p
    (subst (λ (u : LogicalUnit). IsUnitOf hosts seat time u) c.in-There.is h) same none running sending
    (subst (λ (u : LogicalUnit). HasRoomFor seat p (spare_of u)) c.in-There.is room) e in (
      x.0,
      x.1,
      subst (λ (n : ℕ). n ≤ c.run.new.self.spare + cost_by (kind_of (contents_of seat.unit)) p.cdb)
          (λ i. spare_of (sym c.in-There.is i)) x.2,
    )

pub returns-in-There-clause-guest : goal.returns-in-There-clause-guest
returns-in-There-clause-guest c = λ hosts seat after time r h g sense e.
    let k : IsAtSeat hosts seat time c.in-There.seated = subst
    (λ (u : LogicalUnit). IsUnitOf hosts seat time u) c.in-There.is h in
    let x = c.run.ensures.guest hosts seat after time r k g (sense (λ i. is_some (k.2.kept.there i))) e in (
      x.0,
      x.1 ∙ (λ i. spare_of (sym c.in-There.is i)),
    )

pub returns-in-Absent-clause-seat : goal.returns-in-Absent-clause-seat
returns-in-Absent-clause-seat c = λ hosts seat after time p h same none running sending room e. absurd
    (none_runs seat p p (subst (λ (u : LogicalUnit). IsUnitOf hosts seat time u) c.in-Absent.is h).none
    ((λ i. guest_at seat.guests (same i)) ∙ none) ((λ i. running_at seat (same i)) ∙ running))

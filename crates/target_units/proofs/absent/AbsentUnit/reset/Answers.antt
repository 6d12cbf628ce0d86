use Rattle.std.proofs.Common.{sym, subst}
use Rattle.array_model.specs.Seats.{settled_seat, seat_after_reset}
use Rattle.target_units.specs.Absent.{AbsentState, IsAbsentAt}
use Rattle.target_units.proofs.AbsentSteps.{resets}
use Rattle.target_units.proofs.absent.AbsentUnit.reset.Goals as goal

pub returns-clause-seat : goal.returns-clause-seat
returns-clause-seat c = λ hosts seat h.
    subst (λ (v : AbsentState). IsAbsentAt (settled_seat (seat_after_reset hosts seat)) v) (sym c.clear.ensures)
    (resets hosts seat c.args.self.now h)

use Rattle.std.proofs.Common.{sym, subst}
use Rattle.array_model.specs.Seats.{settled_seat, seat_after_aborted}
use Rattle.target_units.specs.Absent.{AbsentState, IsAbsentAt}
use Rattle.target_units.proofs.AbsentSteps.{aborted}
use Rattle.target_units.proofs.absent.AbsentUnit.abort.Goals as goal

pub returns-clause-seat : goal.returns-clause-seat
returns-clause-seat c = λ hosts seat h. subst
    (λ (v : AbsentState). IsAbsentAt (settled_seat (seat_after_aborted hosts c.args.by c.args.kind seat)) v)
    (sym c.cut.ensures) (aborted hosts seat c.args.self.now c.args.kind c.args.by c.requires.device h)

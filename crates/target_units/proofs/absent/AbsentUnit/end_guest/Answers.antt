use Rattle.std.proofs.Common.{sym, subst}
use Rattle.array_model.specs.Seats.{settled_seat}
use Rattle.target_units.specs.Absent.{AbsentState, IsAbsentAt}
use Rattle.target_units.proofs.AbsentSteps.{guest_ends}
use Rattle.target_units.proofs.absent.AbsentUnit.end_guest.Goals as goal

pub returns-clause-seat : goal.returns-clause-seat
returns-clause-seat c = λ seat after status id p given h g same told sense e. subst
    (λ (v : AbsentState). IsAbsentAt (settled_seat after) v) (sym c.keep_guest.ensures)
    (guest_ends seat after c.args.self.now status id p given c.args.from c.args.reply.now c.args.senses
    c.requires.device h g same told sense e)

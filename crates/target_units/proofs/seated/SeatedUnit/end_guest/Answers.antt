use Rattle.std.proofs.Common.{◌∙◌}
use Rattle.target_units.specs.Seated.{settled}
use Rattle.target_units.proofs.SeatSteps.{by_state, guest_ends}
use Rattle.target_units.proofs.seated.SeatedUnit.end_guest.Goals as goal

pub returns-clause-seat : goal.returns-clause-seat
returns-clause-seat c = λ hosts seat after time status id p given h g from told sense e. by_state
    hosts seat after time c.args.now _ _
    (c.settle.ensures ∙ (λ i. settled (c.current_process-before.ensures i) c.args.now (c.keep_guest.ensures i)))
    (guest_ends hosts seat after time c.args.now c.args.self.now c.args.from c.args.reply.now c.args.senses status id p
    given c.requires.device h g from told sense e)

use Rattle.std.proofs.Common.{◌∙◌}
use Rattle.array_model.specs.Execution.{queue_full}
use Rattle.array_model.specs.Seats.{seat_with_guest}
use Rattle.std.specs.Prelude.{Some}
use Rattle.target_units.specs.Seated.{settled}
use Rattle.target_units.proofs.SeatSteps.{by_state, accepts, refuses, refused_full, arrival_spare}
use Rattle.target_units.proofs.seated.SeatedUnit.accept.Goals as goal

pub returns-clause-accepts : goal.returns-clause-accepts
returns-clause-accepts c = λ hosts seat after time p h words kind new e.
    let x = c.args.served.now in
    by_state hosts seat after time c.args.now _ _
    (c.settle.ensures ∙ (λ i. settled (c.current_process-before.ensures i) c.args.now c.arrive-accepted.new.self))
    (accepts hosts seat after time c.args.now c.args.self.now c.arrive-accepted.new.self p x.id x.from x.tag x.class
    x.cdb.now c.arrive-accepted.result c.requires.device c.arrive-accepted.ensures h words kind new e)

pub returns-clause-refuses : goal.returns-clause-refuses
returns-clause-refuses c = λ hosts seat time p h words new full.
    let y = c.args.served.now in
    let x = refuses hosts seat time c.args.now c.args.self.now c.arrive-accepted.new.self _ p y.id y.from y.tag y.class
    y.cdb.now c.arrive-accepted.result c.arrive-accepted.ensures h words new full in (
      x.0,
      x.1,
      by_state hosts seat (seat_with_guest seat p (Some queue_full)) time c.args.now _ _ (c.settle.ensures
          ∙ (λ i. settled (c.current_process-before.ensures i) c.args.now c.arrive-accepted.new.self)) x.2,
    )

pub returns-clause-refused : goal.returns-clause-refused
returns-clause-refused c = λ hosts seat after time p h words e.
    let x = c.args.served.now in
    refused_full hosts seat after time c.args.self.now c.arrive-accepted.new.self _ p x.id x.from x.tag x.class
    x.cdb.now c.arrive-accepted.result c.arrive-accepted.ensures h words e

pub returns-clause-spare : goal.returns-clause-spare
returns-clause-spare c = (λ i. (c.settle.ensures i).spare) ∙ arrival_spare c.args.self.now c.arrive-accepted.new.self _
    c.args.served.now.cdb.now c.arrive-accepted.result c.arrive-accepted.ensures

use Rattle.std.proofs.Common.{ℕ, ◌∙◌, ◌≤◌, ◌+◌, subst, sym}
use Rattle.array_model.specs.Seats.{contents_of}
use Rattle.disk_unit.specs.Held.{cost_by, kind_of}
use Rattle.target_units.specs.Seated.{settled}
use Rattle.target_units.proofs.SeatSteps.{by_state, runs, guest_runs}
use Rattle.target_units.proofs.seated.SeatedUnit.run.Goals as goal

pub returns-clause-seat : goal.returns-clause-seat
returns-clause-seat c = λ hosts seat after time p h same none running sending room e.
    let x = runs hosts seat after time c.args.now c.args.self.now c.run_live-reply.new.self c.args.id p c.args.sent.now
    c.run_live-reply.result c.run_live-reply.ensures h same none running sending room e in (
      by_state hosts seat after time c.args.now _ _ (c.settle.ensures
          ∙ (λ i. settled (c.current_process-before.ensures i) c.args.now c.run_live-reply.new.self)) x.0,
      x.1,
      subst (λ (n : ℕ). c.args.self.now.spare ≤ n + cost_by (kind_of (contents_of seat.unit)) p.cdb)
          (λ i. (sym c.settle.ensures i).spare) x.2,
    )

pub returns-clause-guest : goal.returns-clause-guest
returns-clause-guest c = λ hosts seat after time r h g sense e.
    let x = guest_runs hosts seat after time c.args.now c.args.self.now c.run_live-reply.new.self c.args.id r
    c.args.sent.now c.run_live-reply.result c.run_live-reply.ensures h g sense e in (
      by_state hosts seat after time c.args.now _ _ (c.settle.ensures
          ∙ (λ i. settled (c.current_process-before.ensures i) c.args.now c.run_live-reply.new.self)) x.0,
      (λ i. (c.settle.ensures i).spare) ∙ x.1,
    )

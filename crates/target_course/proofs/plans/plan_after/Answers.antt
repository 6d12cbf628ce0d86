use Rattle.std.proofs.Common.{sym, subst}
use Rattle.due_model.specs.dialogue_model.specs.declared.exchange.Plan.{Plan}
use Rattle.target_course.specs.Fits.{AreFit}
use Rattle.target_course.proofs.Fits.{plan_fits}
use Rattle.target_course.proofs.plans.plan_after.Goals as goal

pub returns-clause-fits : goal.returns-clause-fits
returns-clause-fits c = λ x y. subst (λ (p : Plan). AreFit p.messages) (sym c.plan_by.ensures)
    (plan_fits c.args.hearing.now c.args.leaving.now c.args.plan.now x y)

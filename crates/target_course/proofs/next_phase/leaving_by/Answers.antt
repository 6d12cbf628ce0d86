use Rattle.std.proofs.Common.{[], sym, subst}
use Rattle.due_model.specs.dialogue_model.specs.declared.exchange.Leaving.{Leaving}
use Rattle.target_course.specs.Fits.{AreFit}
use Rattle.target_course.specs.Servings.{serving_with}
use Rattle.target_course.proofs.Fits.{leaving_fits}
use Rattle.target_course.proofs.next_phase.leaving_by.Goals as goal

pub returns-clause-fits : goal.returns-clause-fits
returns-clause-fits c = λ x. subst (λ (l : Leaving). AreFit l.messages) (sym (c.leaving_if.ensures []))
    (leaving_fits (serving_with c.args.serving.now []) c.args.begun c.args.bus x)

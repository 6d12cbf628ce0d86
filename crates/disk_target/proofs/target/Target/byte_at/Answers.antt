use Rattle.std.proofs.Common.{◌∙◌, sym, subst}
use Rattle.std.specs.Prelude.{slice_index_or}
use Rattle.due_model.specs.Tasks.{reply_now}
use Rattle.target_course.specs.Servings.{byte_if}
use Rattle.target_course.specs.target_units.specs.Units.{UnitsState, AreUnitsOf}
use Rattle.disk_target.specs.Targets.{TargetValue}
use Rattle.disk_target.proofs.Telling.{one_at}
use Rattle.disk_target.proofs.target.Target.byte_at.Goals as goal

pub returns-in-Some : goal.returns-in-Some
returns-in-Some c = λ s a times p units host target unit from cdb count. (λ i. slice_index_or
    (c.fetch.ensures s a times p (subst (λ (x : UnitsState). AreUnitsOf s a times x.dev x.units) (sym c.units.ensures)
    (subst (λ (v : TargetValue). AreUnitsOf s a times v.units.dev v.units.units) (sym c.self.view_is) units)) host
    (target ∙ (λ j. (sym c.self.view_is j).units.dev) ∙ (λ j. (sym c.units.ensures j).dev)) unit from cdb i) 0 0)
    ∙ one_at (reply_now a p).bytes c.in-Some.place ∙ (λ i. byte_if (reply_now a p).bytes (sym c.in-Some.is i))

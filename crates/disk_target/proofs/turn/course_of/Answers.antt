use Rattle.std.proofs.Common.{List, ℕ, sym, subst}
use Rattle.target_course.specs.Courses.{IsReadyProcess}
use Rattle.disk_target.proofs.turn.course_of.Goals as goal

pub returns : goal.returns
returns c = λ s rows row n dev devices x y r f e ready. c.reselected.ensures.trace s rows row n dev devices x y r f e
    (λ q z. subst (λ (b : List ℕ). IsReadyProcess s q c.args.entry.now.id (record {
      unit = c.args.unit;
      tag = c.args.entry.now.tag;
      class = c.args.entry.now.class;
    }) b) (sym c.first_ten.ensures.value) (ready q z))

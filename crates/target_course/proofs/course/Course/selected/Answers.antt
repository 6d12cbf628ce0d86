use Rattle.std.proofs.Common.{◌∷◌, sym, subst}
use Rattle.target_course.specs.Courses.{CourseState, IsCourseOf}
use Rattle.target_course.proofs.CourseRows.{course_selected_heard}
use Rattle.target_course.proofs.course.Course.selected.Goals as goal

pub returns-clause-trace : goal.returns-clause-trace
returns-clause-trace c = λ s rows row n dev d x y r f e label z. subst
    (λ (u : CourseState). IsCourseOf s (row ∷ rows) dev u) (sym c.of_selection.ensures)
    (course_selected_heard s rows row n dev c.args.id c.args.negotiates (c.kept_is_plain.ensures.rows s rows d.1)
    (c.kept_is_plain.ensures.rows s (row ∷ rows) d) x y r f e label z)

use Rattle.std.proofs.Common.{◌∷◌, ◌∙◌, sym, subst}
use Rattle.target_course.specs.Courses.{CourseState, course_after, IsCourseOf}
use Rattle.target_course.proofs.CourseRows.{course_seen}
use Rattle.target_course.proofs.course.Course.see.Goals as goal

pub returns-clause-trace : goal.returns-clause-trace
returns-clause-trace c = λ s rows row m d f devices h o line e told left old. subst (λ (z : CourseState). IsCourseOf s
    (row ∷ rows) d.dev z) (sym (c.go_on.ensures ∙ (λ i. course_after (h i) c.args.leaving.now c.args.self.now)))
    (course_seen s rows row m d f c.args.leaving.now c.args.self.now
    (c.kept_is_plain.ensures.rows s rows devices.1) (c.kept_is_plain.ensures.rows s (row ∷ rows) devices)
    (c.hearings_are_plain.ensures.hearing s rows row devices.1 devices.0) o line e told left old)

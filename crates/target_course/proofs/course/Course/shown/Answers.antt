use Rattle.std.proofs.Common.{◌∷◌, ◌∙◌}
use Rattle.due_model.specs.RunSteps.{run_state}
use Rattle.due_model.specs.Tasks.{given_of}
use Rattle.target_course.specs.Courses.{course_events}
use Rattle.target_course.proofs.CourseRows.{course_shows}
use Rattle.target_course.proofs.course.Course.shown.Goals as goal

pub returns-clause-trace : goal.returns-clause-trace
returns-clause-trace c = λ s rows row d f devices h after own line e before calm told served course.
    c.shown_by.ensures (given_of s (run_state s rows))
    ∙ (λ i. course_events c.args.self.now (served i) c.args.connection.now (h i) (after i))
    ∙ course_shows s rows row c.args.connection.now d f c.args.self.now
    (c.kept_is_plain.ensures.rows s rows devices.1) (c.kept_is_plain.ensures.rows s (row ∷ rows) devices)
    (c.hearings_are_plain.ensures.hearing s rows row devices.1 devices.0) own line e before calm told course

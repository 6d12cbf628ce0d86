use Rattle.std.proofs.Common.{sym, subst}
use Rattle.due_model.specs.dialogue_model.specs.NextPhase as next_phase
use Rattle.due_model.specs.RunSteps.{run_state}
use Rattle.due_model.specs.Sights.{serving_of}
use Rattle.due_model.specs.Tasks.{given_of}
use Rattle.target_course.specs.States.{AreAlikeIn, offering_in}
use Rattle.target_course.proofs.CourseRows.{course_offers}
use Rattle.target_course.proofs.course.Course.serving.Goals as goal

pub returns-clause-trace : goal.returns-clause-trace
returns-clause-trace c = λ s rows n d below line e told course own calm. subst
    (λ (v : next_phase.Serving). AreAlikeIn rows c.args.def.now.dev (offering_in rows v)
    (offering_in rows (serving_of s (run_state s rows) c.args.def.now.dev)))
    (sym (c.serving_with.ensures.exact (given_of s (run_state s rows)))) (course_offers s rows c.args.def.now
    c.args.self.now c.args.state.now below (c.kept_is_plain.ensures.rows s rows d) line e told course n own calm)

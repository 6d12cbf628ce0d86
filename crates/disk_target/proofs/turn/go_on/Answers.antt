use Rattle.std.proofs.Common.{◌≡◌, ◌∙◌, true, false, sym, subst, Option}
use Rattle.target_course.specs.Courses.{CourseState}
use Rattle.disk_target.specs.Targets.{IsCourseIf}
use Rattle.disk_target.specs.Turns.{IsTurnIf}
use Rattle.disk_target.proofs.turn.go_on.Goals as goal

pub returns-in-None-clause-trace : goal.returns-in-None-clause-trace
returns-in-None-clause-trace c = λ s rows row d m devices tied line hears own calm turn old.
    let away = subst (λ (x : Option CourseState). IsCourseIf s rows d.dev x) c.in-None.is old in
    let bad : true ≡ false = sym (away m own) ∙ calm in
    absurd cc

pub returns-in-Some-clause-trace : goal.returns-in-Some-clause-trace
returns-in-Some-clause-trace c = λ s rows row d m devices tied line hears own calm turn old.
    let it = subst (λ (x : Option CourseState). IsTurnIf s rows row d x c.args.turn.now) c.in-Some.is turn in
    let t = it m own calm in
    c.see.ensures.trace s rows row m d t.state devices hears own line.target_is tied.heard_are t.told t.leaving_is
    (subst (λ (x : Option CourseState). IsCourseIf s rows d.dev x) c.in-Some.is old)

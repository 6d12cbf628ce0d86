use Rattle.std.proofs.Common.{◌∙◌, sym, subst}
use Rattle.target_course.specs.scsi_device.proofs.Finds.{some_is}
use Rattle.target_course.specs.Courses.{CourseState}
use Rattle.disk_target.specs.Knowns.{IsKnownBy}
use Rattle.disk_target.proofs.known.known_if.Goals as goal

pub returns-in-Some-Some : goal.returns-in-Some-Some
returns-in-Some-Some c =
    let x = c.args.sources.now in
    λ y e. subst (λ (z : CourseState). IsKnownBy x.def.now x.units.now x.progress.now x.reply z c.known_of.result)
    (some_is _ _ (sym c.in-Some-Some.is-1 ∙ e)) c.known_of.ensures.known

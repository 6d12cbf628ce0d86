use Rattle.std.proofs.Common.{◌≡◌, ◌∙◌, true, false, sym, subst, Option, None}
use Rattle.bus_lines.specs.Handshakes.{handshakes}
use Rattle.due_model.specs.dialogue_model.specs.Hearing.{begun}
use Rattle.due_model.specs.RunSteps.{run_state}
use Rattle.due_model.specs.Sights.{serving_of}
use Rattle.reaction_model.specs.Sight.{sight}
use Rattle.scenario.specs.declared.value.TargetDef.{TargetDef}
use Rattle.target_course.specs.scsi_device.specs.Told.{told, pace_of}
use Rattle.target_course.specs.Courses.{CourseState}
use Rattle.target_course.specs.Dues.{myself_by}
use Rattle.target_course.specs.States.{offering_in}
use Rattle.target_course.proofs.Alike.{dues_alike}
use Rattle.disk_target.specs.Targets.{IsCourseIf}
use Rattle.disk_target.specs.Waits.{is_in_pulse}
use Rattle.disk_target.proofs.Waiting.{pulse_ends}
use Rattle.disk_target.proofs.target.Target.offering.Goals as goal

pub returns-then-is_in_pulse-clause-trace : goal.returns-then-is_in_pulse-clause-trace
returns-then-is_in_pulse-clause-trace c = λ s rows n fits o d e able h own calm from paced i.
    let t : TargetDef = c.args.self.now.def in
    let same : c.self.inside.def ≡ t = λ j. (c.self.view_is j).def in
    pulse_ends t (told rows t.dev) i c.going_on.result (offering_in rows (serving_of s (run_state s rows) t.dev))
    ((λ j. is_in_pulse (told rows (sym same j).dev)) ∙ sym (c.is_in_pulse.ensures rows o) ∙ c.if-is_in_pulse.true)

-- In a connection of its own, while RST is false, it has a course.
pub returns-in-None-clause-trace : goal.returns-in-None-clause-trace
returns-in-None-clause-trace c = λ s rows n fits o d e able h own calm from paced.
    let none = (λ j. (sym c.self.view_is j).course) ∙ c.in-None.is in
    let course = subst (λ (x : Option CourseState). IsCourseIf s rows c.args.self.now.def.dev x) none h.course_is in
    let never : true ≡ false = sym (course n own) ∙ calm in
    absurd cc

pub returns-in-Some-clause-trace : goal.returns-in-Some-clause-trace
returns-in-Some-clause-trace c = λ s rows n fits o d e able h own calm from paced i.
    let t : TargetDef = c.args.self.now.def in
    let is = (λ j. (sym c.self.view_is j).course) ∙ c.in-Some.is in
    let course = subst (λ (x : Option CourseState). IsCourseIf s rows t.dev x) is h.course_is in
    dues_alike (begun rows) (sight rows) (handshakes rows) (myself_by t (told rows t.dev) i)
    (pace_of (told rows t.dev) None) c.offering_in.result (offering_in rows (serving_of s (run_state s rows) t.dev))
    (c.offering_in.ensures.trace s rows n fits o d e able h course own calm from paced)

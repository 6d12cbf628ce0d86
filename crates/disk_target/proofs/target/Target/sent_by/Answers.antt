use Rattle.std.proofs.Common.{◌≡◌, ◌∙◌, subst, Option}
use Rattle.due_model.specs.RunSteps.{run_state}
use Rattle.due_model.specs.Tasks.{given_of}
use Rattle.target_course.specs.scsi_device.specs.Heard.{instructions}
use Rattle.target_course.specs.Courses.{CourseState, IsCourse, IsCourseOf, AreToldOf, name_of}
use Rattle.target_course.specs.Gathered.{place_in_run}
use Rattle.target_course.proofs.CourseAgrees.{IsFront, front_heard}
use Rattle.target_course.proofs.CourseRows.{heard_before}
use Rattle.disk_target.specs.Targets.{IsCourseIf}
use Rattle.disk_target.proofs.Data.{served_of}
use Rattle.disk_target.proofs.Knowing.{sources}
use Rattle.disk_target.proofs.Lines.{line_of_process}
use Rattle.disk_target.proofs.RowOwn.{Knows, knows}
use Rattle.disk_target.proofs.RowServed.{block_few}
use Rattle.disk_target.proofs.Servables.{in_time_before, servable}
use Rattle.disk_target.proofs.Turning.{byte_begins, byte_closed, byte_phase, place_so, process_so}
use Rattle.disk_target.proofs.target.Target.sent_by.Goals as goal

pub returns-clause-trace : goal.returns-clause-trace
returns-clause-trace c = λ s rows row n fits devices tied time h own calm course_is from.
    let y = c.requires.known in
    let d = c.args.self.now.def in
    let same : c.self.inside.def ≡ d = λ i. (c.self.view_is i).def in
    let x = c.args.course.now in
    let p = c.kept_is_plain.ensures.rows s rows devices.1 in
    let w = c.hearings_are_plain.ensures.hearing s rows row devices.1 devices.0 in
    let f = c.args.known.now.state in
    let able = servable s rows d (in_time_before rows row time) h.line in
    let course : IsCourseOf s rows d.dev x = subst
    (λ (y : Option CourseState). IsCourseIf s rows d.dev y) course_is h.course_is in
    let here : IsCourse s rows n x = course n own calm in
    let told : AreToldOf s rows x f = y.told s rows n fits able
    (sources s rows c.args.self.now h) h.reply_is here.ends_are own calm from in
    let serving = y.serving (given_of s (run_state s rows)) in
    let place = c.place_in_run.ensures
    ∙ (λ i. place_in_run (same i).disc (serving i).task (c.self.view_is i).answers) in
    let process = c.process_known.ensures ∙ process_so s rows row n x p tied own.stands calm here in
    let front : IsFront s (run_state s rows) n (instructions s rows) = front_heard s rows n p
    (heard_before s rows row tied.heard_are) own.stands calm in
    record {
      sends = λ m own' brings. (
        process,
        place ∙ place_so s rows row n d x f c.args.self.now.answers p w tied own h.line.target_is calm brings here told
            h.answers_is,
      );
      at_unit = λ m r own' brings is.
          let begins = byte_begins s rows row n p w tied.written_are own.stands brings in
          let closed = byte_closed s (run_state s rows) (byte_phase s rows row p brings) begins in
          let served = served_of s rows r is in
          let few = block_few s r.id r (λ m y e. c.scenarios_fit_the_bus.ensures.commands s m y fits e) served in
          let line = line_of_process s r.id r (λ m y e. c.scenarios_fit_the_bus.ensures.commands s m y fits e) served in
          let k : Knows s rows n x r = knows s rows n x r front here is few (λ e. closed) in
          y.named (name_of r) k.named line.unit;
    }

use Rattle.std.proofs.Common.{◌≡◌, ◌∙◌, true, ◌∷◌, sym, subst, Option}
use Rattle.bus_trace.specs.declared.connection.Connection.{Connection}
use Rattle.bus_trace.specs.Trace.{bus}
use Rattle.target_course.specs.Courses.{CourseState}
use Rattle.target_course.specs.States.{IsOwnConnection}
use Rattle.disk_target.specs.Bytes.{IsOwnIf}
use Rattle.disk_target.specs.Targets.{IsCourseIf}
use Rattle.disk_target.proofs.Turning.{no_turn_so}
use Rattle.disk_target.proofs.target.Target.turn.Goals.{in_default-via-in-Some+in_default, in_default-via-in_default}
use Rattle.disk_target.proofs.target.Target.turn.Goals as goal

pub returns-in-Some-Some-clause-trace : goal.returns-in-Some-Some-clause-trace
returns-in-Some-Some-clause-trace c = λ s rows row fits o devices tied time h.
    let d = c.args.self.now.def in
    let it = subst (λ (x : Option Connection). IsOwnIf rows d.dev x) c.in-Some-Some.is-0
    (subst (λ (m : _). IsOwnIf rows m c.own_before.result) (λ i. (c.self.view_is i).def.dev)
    (c.own_before.ensures rows row (c.view.ensures.trace (row ∷ rows) o))) in
    c.turn_in.ensures.trace s rows row fits o devices tied time h it.0 it.1

pub returns-in_default-clause-trace : goal.returns-in_default-clause-trace
returns-in_default-clause-trace c = λ s rows row fits o devices tied time h.
    let d = c.args.self.now.def in
    let p = c.kept_is_plain.ensures.rows s rows devices.1 in
    let q = c.kept_is_plain.ensures.rows s (row ∷ rows) devices in
    let heard = c.hearings_are_plain.ensures.hearing s rows row devices.1 devices.0 in
    let own = subst (λ (m : _). IsOwnIf rows m c.own_before.result) (λ i. (c.self.view_is i).def.dev)
    (c.own_before.ensures rows row (c.view.ensures.trace (row ∷ rows) o)) in
    let away : (n : Connection) → IsOwnConnection rows d.dev n → (bus rows).rst ≡ true = elim c.in_default.branch [
      | in_default-via-in-Some+in_default w ↦ subst (λ (x : Option CourseState). IsCourseIf s rows d.dev x)
          ((λ i. (sym c.self.view_is i).course) ∙ w.in_default.is-1) h.course_is
      | in_default-via-in_default w ↦ subst (λ (x : Option Connection). IsOwnIf rows d.dev x) w.in_default.is-0 own
    ] in
    no_turn_so s rows row d c.args.self.now.course _ p q heard tied c.no_turn.ensures.uncounted away

pub turn_in-requires : goal.turn_in-requires
turn_in-requires c = record { course = (λ i. (sym c.self.view_is i).course) ∙ c.in-Some-Some.is-1 }

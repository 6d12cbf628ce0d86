use Rattle.std.proofs.Common.{◌≡◌, ◌∙◌, ◌∷◌, true, false, sym, subst, Option}
use Rattle.disk_target.specs.Bytes.{IsOwnIf}
use Rattle.disk_target.specs.Turns.{is_reset, is_reset_if, IsRowFor}
use Rattle.bus_trace.specs.declared.connection.Connection.{Connection}
use Rattle.target_course.specs.Courses.{CourseState}
use Rattle.disk_target.proofs.RowResets.{outside_on, resets}
use Rattle.disk_target.proofs.turn.see_events.Goals as goal

pub returns-then-is_reset_if-clause-trace : goal.returns-then-is_reset_if-clause-trace
returns-then-is_reset_if-clause-trace c = λ s rows row d h before att.
    let q = c.kept_is_plain.ensures.rows s (row ∷ rows) h.devices in
    let is = sym (λ i. is_reset (h.shown_is i))
    ∙ sym (c.is_reset_if.ensures ∙ (λ i. is_reset_if (c.event_at.ensures i))) ∙ c.if-is_reset_if.true in
    let x = resets s rows row h.tied.telling_are is in
    record {
      dev_is = c.reset.ensures.dev ∙ att.dev_is;
      kept = c.reset.ensures.trace s rows row row.dev
          (c.scenarios_fit_the_bus.ensures.seats s h.fits) h.tied.allowed_are h.now_is x.shown att.kept;
      standing = λ m at n p own calm served.
          let bad : true ≡ false = sym x.rst ∙ (λ i. (q.bus i).rst) ∙ calm in
          absurd cc;
    }

pub returns-in-None-clause-trace : goal.returns-in-None-clause-trace
returns-in-None-clause-trace c = λ s rows row d h before att.
    let none = sym (λ i. is_reset (h.shown_is i))
    ∙ sym (c.is_reset_if.ensures ∙ (λ i. is_reset_if (c.event_at.ensures i))) ∙ c.if-is_reset_if.false in
    let away = subst (λ (x : Option Connection). IsOwnIf rows d.dev x) c.in-None.is before in
    outside_on s rows row d.dev c.args.processes.now (λ rs devices. c.kept_is_plain.ensures.rows s rs devices) h.devices
    (c.scenarios_fit_the_bus.ensures.seats s h.fits) h.tied away none att

pub returns-in-Some-course-clause-trace : goal.returns-in-Some-course-clause-trace
returns-in-Some-course-clause-trace c = λ s rows row d h before att.
    let it = subst (λ (x : Option Connection). IsOwnIf rows d.dev x) c.in-Some.is before in
    let none = sym (c.is_reset_if.ensures ∙ (λ i. is_reset_if (c.event_at.ensures i))) ∙ c.if-is_reset_if.false in
    let e = c.args.events.now in
    c.see_own.ensures.trace s rows row d c.in-Some.field-0 (subst (λ (x : Option CourseState). IsRowFor s rows row d x
    c.args.turn.now c.args.gathered.now e.shown.now e.time) c.in-Some-course.is h) it.0 it.1 none att

pub returns-then-is_reset_if-clause-nothing : goal.returns-then-is_reset_if-clause-nothing
returns-then-is_reset_if-clause-nothing c = λ e.
    let bad : false ≡ true = (λ i. is_reset (sym e i))
    ∙ sym (c.is_reset_if.ensures ∙ (λ i. is_reset_if (c.event_at.ensures i))) ∙ c.if-is_reset_if.true in
    absurd cc

use Rattle.std.proofs.Common.{◌∙◌, [], ◌∷◌, sym}
use Rattle.std.proofs.lemmas.Bool.{eqb-true}
use Rattle.bus_base.specs.declared.Event.TheVariants as events
use Rattle.target_course.specs.scsi_device.proofs.Finds.{none_some}
use Rattle.disk_target.specs.Turns.{abort_if, abort_of, is_reset}
use Rattle.disk_target.proofs.RowEnds.{abort_shown, opening_on, standing_ends}
use Rattle.disk_target.proofs.turn.see_own.Goals as goal

pub returns-in-Some-clause-trace : goal.returns-in-Some-clause-trace
returns-in-Some-clause-trace c = λ s rows row d n h own calm reset att.
    let f = c.kept_is_plain.ensures.rows s rows h.devices.1 in
    let q = c.kept_is_plain.ensures.rows s (row ∷ rows) h.devices in
    let is = sym (λ i. abort_of (h.shown_is i))
    ∙ sym (c.abort_if.ensures ∙ (λ i. abort_if (c.event_at.ensures i))) ∙ c.in-Some.is in
    let x = abort_shown s rows row n c.in-Some.abort f h.tied own.stands calm
    ((λ i. is_reset (sym h.shown_is i)) ∙ reset) is in
    let dev = eqb-true n.target d.dev own.own ∙ sym att.dev_is in
    record {
      dev_is = c.see_abort.ensures.dev ∙ att.dev_is;
      kept = c.see_abort.ensures.trace s rows row
          (c.scenarios_fit_the_bus.ensures.seats s h.fits) h.tied.allowed_are h.now_is x.unit x.by (x.shown
          ∙ (λ i. events.Aborted c.in-Some.abort.by (dev i) c.in-Some.abort.unit c.in-Some.abort.kind ∷ [])) att.kept;
      standing = λ m at. standing_ends s rows row d.dev _ q x.ends;
    }

pub returns-in-None-clause-trace : goal.returns-in-None-clause-trace
returns-in-None-clause-trace c = λ s rows row d n h own calm reset att.
    let f = c.kept_is_plain.ensures.rows s rows h.devices.1 in
    let q = c.kept_is_plain.ensures.rows s (row ∷ rows) h.devices in
    let none = sym (λ i. abort_of (h.shown_is i))
    ∙ sym (c.abort_if.ensures ∙ (λ i. abort_if (c.event_at.ensures i))) ∙ c.in-None.is in
    let turn = h.turn.course n own calm in
    opening_on s rows row d.dev n c.args.course.now c.args.turn.now.opening c.args.processes.now f q
    (c.scenarios_fit_the_bus.ensures.seats s h.fits) h.tied
    (λ m x e. c.scenarios_fit_the_bus.ensures.commands s m x h.fits e) own calm
    (h.course n own calm) turn.opening_is c.if-turn.true ((λ i. is_reset (sym h.shown_is i)) ∙ reset) none att

pub returns-in-None-2-clause-trace : goal.returns-in-None-2-clause-trace
returns-in-None-2-clause-trace c = λ s rows row d n h own calm reset att.
    let none = sym (c.abort_if.ensures ∙ (λ i. abort_if (c.event_at.ensures i))) ∙ c.in-None.is in
    c.see_served.ensures.trace s rows row d n h own calm reset none c.if-turn.false att

pub returns-in-Some-clause-nothing : goal.returns-in-Some-clause-nothing
returns-in-Some-clause-nothing c = λ e. absurd (none_some c.in-Some.abort
    ((λ i. abort_of (sym e i)) ∙ sym (c.abort_if.ensures ∙ (λ i. abort_if (c.event_at.ensures i))) ∙ c.in-Some.is))

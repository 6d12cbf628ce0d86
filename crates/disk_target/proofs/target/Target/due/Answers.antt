use Rattle.std.proofs.Common.{◌≡◌, ◌∙◌, refl, sym, subst, None}
use Rattle.bus_trace.specs.Trace.{bus, drives}
use Rattle.bus_lines.specs.Handshakes.{handshakes}
use Rattle.due_model.specs.dialogue_model.specs.Hearing.{begun}
use Rattle.due_model.specs.Due.{reset_from}
use Rattle.due_model.specs.Own.{own_of}
use Rattle.due_model.specs.RunSteps.{run_state}
use Rattle.due_model.specs.Sights.{serving_of}
use Rattle.due_model.specs.Wants.{ready_of}
use Rattle.reaction_model.specs.Reset.{with_reset}
use Rattle.scenario.specs.declared.value.TargetDef.{TargetDef}
use Rattle.target_course.specs.scsi_device.specs.Told.{told, pace_of}
use Rattle.target_course.specs.Dues.{myself_by}
use Rattle.target_course.specs.States.{TargetState, offering_in}
use Rattle.target_course.specs.target_units.specs.Readies.{ready_unit}
use Rattle.target_course.proofs.Alike.{alike_itself}
use Rattle.disk_target.specs.Targets.{TargetValue, KnowsRows}
use Rattle.disk_target.proofs.target.Target.due.Goals as goal

pub returns : goal.returns
returns c = λ s rows fits o d h fault.
    let t : TargetDef = c.args.self.now.def in
    let same : c.self.inside.def ≡ t = λ i. (c.self.view_is i).def in
    let g = subst (λ (v : TargetValue). KnowsRows s rows v) (sym c.self.view_is) h.knows in
    let dev = g.itself_dev ∙ (λ i. (same i).dev) in
    let own = g.itself_is.own_is ∙ (λ i. own_of rows (dev i)) in
    -- its own times, and all that the rows tell
    let x : TargetState = record {
      own = c.self.inside.itself.own;
      reset = c.self.inside.itself.reset;
      ready = ready_unit (ready_of s (run_state s rows) t.dev);
      serving = serving_of s (run_state s rows) t.dev;
    } in
    let mine = c.myself-me.ensures.exact rows (c.view.ensures.trace rows o)
    ∙ (λ i. myself_by (same i) (told rows (same i).dev) x) in
    let calm = c.calm_due-calm.ensures s rows x fits o d h.heard_are h.servable h.knows mine
    (record { ready_is = refl; serving_is = refl }) in
    let raised : c.rst.result ≡ x.own.rst = c.rst.ensures.value ∙ (λ i. (c.own.ensures i).rst) in
    c.due_with_reset.ensures ∙ (λ i. with_reset (mine i) (raised i) (c.reset.ensures i) (calm i))
    ∙ sym (c.dues_are_of_targets.ensures s rows t x c.args.fault (record {
      below = h.knows.line.below;
      target_is = h.knows.line.target_is;
      no_host = h.knows.line.no_host;
      is_none = h.knows.line.is_none;
    }) d h.no_initiator (record {
      own_is = own;
      reset_is = g.itself_is.reset_is ∙ (λ i. reset_from (dev i) (own i).released (g.itself_is.resets_are i));
      ready_is = refl;
      serving_is = λ n at rst. alike_itself (begun rows) (pace_of (told rows 0) None).pulsed (drives rows t.dev).req
          (bus rows).io (handshakes rows).requests (offering_in rows x.serving);
    }) fault)

use Rattle.std.proofs.Common.{◌∙◌, sym, subst}
use Rattle.std.specs.Prelude.{not}
use Rattle.std.proofs.lemmas.Bool.{eqb-true}
use Rattle.due_model.specs.LastingState.{has_negotiated}
use Rattle.due_model.specs.RunSteps.{run_state}
use Rattle.disk_target.specs.Targets.{TargetValue, KnowsRows}
use Rattle.disk_target.proofs.target.Target.course_begun.Goals as goal

pub returns-then-begun : goal.returns-then-begun
returns-then-begun c = λ s rows row fits devices tied time h x own calm label.
    c.course_reselected.ensures s rows row c.args.begun.now fits devices tied time h x own calm c.if-begun.true

pub returns-else-begun : goal.returns-else-begun
returns-else-begun c = λ s rows row fits devices tied time h x own calm label.
    let g = subst (λ (v : TargetValue). KnowsRows s rows v) (sym c.self.view_is) h in
    let target = eqb-true c.args.begun.now.target c.args.self.now.def.dev own.own in
    let dev = g.negotiated_dev ∙ (λ i. (c.self.view_is i).def.dev) ∙ sym target in
    c.selected.ensures.trace s rows row c.args.begun.now c.args.self.now.def.dev devices x own.stands c.if-begun.false
    tied.faithful_are tied.heard_are label (λ i. not ((c.includes-negotiates.ensures.free s rows g.negotiated_are x
    ∙ (λ j. has_negotiated (run_state s rows).negotiated c.args.begun.now.initiator (dev j))) i))

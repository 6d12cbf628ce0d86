use Rattle.std.proofs.Common.{ℕ, ◌<◌, ◌+◌, ◌^◌, ◌∙◌, sym, subst, Option}
use Rattle.due_model.specs.RunState.{array_of}
use Rattle.due_model.specs.RunSteps.{run_state}
use Rattle.due_model.specs.Wants.{ready_among, since_of}
use Rattle.target_course.specs.States.{IsReadyWithin}
use Rattle.target_course.specs.target_units.specs.Readies.{ready_unit}
use Rattle.target_course.specs.target_units.specs.Units.{UnitsState, AreUnitsOf}
use Rattle.target_course.specs.target_units.specs.declared.ready.Ready.{Ready}
use Rattle.disk_target.specs.Targets.{TargetValue, KnowsRows}
use Rattle.disk_target.proofs.Lines.{seek_is}
use Rattle.disk_target.proofs.Readies.{within}
use Rattle.disk_target.proofs.Telling.{wide}
use Rattle.disk_target.proofs.target.Target.ready.Goals as goal

pub returns-clause-trace : goal.returns-clause-trace
returns-clause-trace c = λ s rows able h.
    let g = subst (λ (v : TargetValue). KnowsRows s rows v) (sym c.self.view_is) h in
    let devs = sym ((λ i. (c.units.ensures i).dev) ∙ g.units_dev ∙ (λ i. (c.self.view_is i).def.dev)) in
    let seeks = sym ((λ i. (c.units.ensures i).seek) ∙ g.units_seek ∙ (λ i. (c.self.view_is i).def.seek)) in
    let are = subst (λ (x : UnitsState). AreUnitsOf s (array_of s (run_state s rows))
    (run_state s rows).current_since x.dev x.units) (sym c.units.ensures) g.units_are in
    let early = λ (n : ℕ) (small : n < 8). subst (λ (z : ℕ). z < 2 ^ 63)
    (λ i. since_of (array_of s (run_state s rows)).units (run_state s rows).current_since (devs i) n + seeks i)
    (able.early n small) in
    let first = c.ready.ensures s (array_of s (run_state s rows))
    (run_state s rows).current_since g.sound are (λ n small. wide _ (early n small)) in
    let bound = subst (λ (r : Option Ready). IsReadyWithin r) (sym first)
    (within s (array_of s (run_state s rows)) (run_state s rows).current_since _ _ g.sound early) in
    c.bounded.ensures.same bound ∙ first ∙ (λ i. ready_unit
    (ready_among (array_of s (run_state s rows)) (run_state s rows).current_since (sym seeks i) (sym devs i)))
    ∙ (λ i. ready_unit (ready_among (array_of s (run_state s rows)) (run_state s rows).current_since
    (sym (seek_is s c.args.self.now.def h.line.target_is) i) c.args.self.now.def.dev))

use Rattle.std.proofs.Common.{sym, subst}
use Rattle.bus_base.specs.declared.Event.TheVariants as events
use Rattle.target_course.specs.target_units.specs.Units.{AreUnitsOf, AreUnitsAfter, IsStep}
use Rattle.disk_target.specs.Processes.{ProcessesState}
use Rattle.bus_base.specs.declared.AbortKind.{AbortKind}
use Rattle.disk_target.proofs.ProcessEvents.{device_is}
use Rattle.disk_target.proofs.processes.Processes.cut.Goals as goal

pub returns-then-is_of_one-clause-array : goal.returns-then-is_of_one-clause-array
returns-then-is_of_one-clause-array c = λ s a b times h st. subst
    (λ (v : ProcessesState). AreUnitsAfter s a b times c.args.now v.units.dev c.abort.new.self.units) c.self.view_is
    (c.abort.ensures.array s a b times (subst (λ (v : ProcessesState). AreUnitsOf s a times v.units.dev v.units.units)
    (sym c.self.view_is) h) (sym c.if-is_of_one.ensures)
    (subst (λ (v : ProcessesState). IsStep s (events.Aborted c.args.by v.units.dev c.args.unit c.args.kind) a b)
    (sym c.self.view_is) st))

pub returns-else-is_of_one-clause-array : goal.returns-else-is_of_one-clause-array
returns-else-is_of_one-clause-array c = λ s a b times h st.
    let kind = device_is c.args.kind (sym c.if-is_of_one.ensures) in
    let step = subst (λ (v : ProcessesState). IsStep s
    (events.Aborted c.args.by v.units.dev c.args.unit c.args.kind) a b) (sym c.self.view_is) st in
    subst (λ (v : ProcessesState). AreUnitsAfter s a b times c.args.now v.units.dev c.reset.new.self.units)
    c.self.view_is (c.reset.ensures.device s a b times c.args.by c.args.unit
    (subst (λ (v : ProcessesState). AreUnitsOf s a times v.units.dev v.units.units) (sym c.self.view_is) h) (subst
    (λ (k : AbortKind). IsStep s (events.Aborted c.args.by c.self.inside.units.dev c.args.unit k) a b) kind step))

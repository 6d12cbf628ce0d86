use Rattle.std.proofs.Common.{sym, subst}
use Rattle.target_course.specs.target_units.specs.Units.{AreUnitsOf, AreUnitsAfter}
use Rattle.disk_target.specs.Processes.{ProcessesState}
use Rattle.disk_target.proofs.processes.Processes.clear.Goals as goal

pub returns-clause-array : goal.returns-clause-array
returns-clause-array c = λ s a b times by h st. subst (λ (v : ProcessesState). AreUnitsAfter s a b times
    c.args.now v.units.dev c.reset.new.self.units) c.self.view_is (c.reset.ensures.reset s a b times by
    (subst (λ (v : ProcessesState). AreUnitsOf s a times v.units.dev v.units.units) (sym c.self.view_is) h) st)

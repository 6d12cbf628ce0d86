use Rattle.std.proofs.Common.{subst}
use Rattle.target_course.specs.target_units.specs.Units.{UnitsState}
use Rattle.disk_target.specs.Knowns.{IsKnownBy}
use Rattle.disk_target.specs.Targets.{TargetValue}
use Rattle.disk_target.proofs.target.Target.known_anew.Goals as goal

pub returns-clause-known : goal.returns-clause-known
returns-clause-known c = subst
    (λ (v : TargetValue). IsKnownBy v.def v.units v.progress v.reply c.args.course.now c.known_of.result) c.self.view_is
    (subst (λ (u : UnitsState). IsKnownBy c.self.inside.def u c.self.inside.progress c.self.inside.reply
    c.args.course.now c.known_of.result) c.units.ensures c.known_of.ensures.known)

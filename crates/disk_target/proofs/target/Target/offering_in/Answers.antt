use Rattle.std.proofs.Common.{subst}
use Rattle.disk_target.specs.Knowns.{IsKnownIf}
use Rattle.disk_target.specs.Targets.{TargetValue}
use Rattle.disk_target.proofs.Knowing.{kept}
use Rattle.disk_target.proofs.target.Target.offering_in.Goals as goal

pub offering_by-requires : goal.offering_by-requires
offering_by-requires c = record {
  known = kept c.args.self.now c.self.inside.known c.args.course.now c.in-Some.known
      (subst (λ (v : TargetValue). IsKnownIf v.def v.units v.progress v.reply v.course c.self.inside.known)
      c.self.view_is c.self.invariant.2) c.requires.course c.in-Some.is;
}

use Rattle.std.proofs.Common.{sym, subst, Option}
use Rattle.disk_target.specs.Knowns.{IsKnownIf}
use Rattle.disk_target.specs.declared.known.Known.{Known}
use Rattle.disk_target.proofs.known.see_known.Goals as goal

pub returns-then-still : goal.returns-then-still
returns-then-still c =
    let x = c.args.sources.now in
    subst (λ (k : Option Known). IsKnownIf x.def.now x.units.now x.progress.now x.reply c.args.course.now k)
    (sym c.refresh.ensures) (c.requires.still c.if-still.true)

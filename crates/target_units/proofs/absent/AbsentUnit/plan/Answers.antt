use Rattle.std.proofs.Common.{◌∙◌}
use Rattle.disk_unit.specs.Plans.{plan_of}
use Rattle.target_units.proofs.AbsentReplies.{reply_seen}
use Rattle.target_units.proofs.absent.AbsentUnit.plan.Goals as goal

pub returns-clause-seat : goal.returns-clause-seat
returns-clause-seat c = λ seat sent h. c.plan_now.ensures
    ∙ (λ i. plan_of (reply_seen seat c.args.self.now c.args.from c.args.cdb.now sent c.requires.device h i) 0)

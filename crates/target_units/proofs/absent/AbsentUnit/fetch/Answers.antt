use Rattle.std.proofs.Common.{◌∙◌, length, take, drop}
use Rattle.target_units.proofs.AbsentReplies.{reply_seen}
use Rattle.target_units.proofs.absent.AbsentUnit.fetch.Goals as goal

pub returns-clause-seat : goal.returns-clause-seat
returns-clause-seat c = λ seat sent h. c.fetch_now.ensures ∙ (λ i. take (length c.args.into.now)
    (drop c.args.at (reply_seen seat c.args.self.now c.args.from c.args.cdb.now sent c.requires.device h i).bytes))

use Rattle.std.proofs.Common.{◌∙◌, sym}
use Rattle.disk_target.specs.Standings.{outcome_of}
use Rattle.disk_target.proofs.ProcessEvents.{outcome_is}
use Rattle.disk_target.proofs.processes.Processes.end.Goals as goal

pub returns-in-Some-clause-array : goal.returns-in-Some-clause-array
returns-in-Some-clause-array c = λ s a b times p status served h known st. c.end_outside.ensures.array
    s a b times p status served h (outcome_is c.args.self.now.standing c.in-Some.reply
    ((λ i. outcome_of (sym c.self.view_is i).standing) ∙ sym c.outcome_of.ensures ∙ c.in-Some.is)) known st

pub returns-in-None-clause-array : goal.returns-in-None-clause-array
returns-in-None-clause-array c = λ s a b times p status served h known st. c.end_inside.ensures.array s a b times p
    status served h ((λ i. outcome_of (sym c.self.view_is i).standing) ∙ sym c.outcome_of.ensures ∙ c.in-None.is) st

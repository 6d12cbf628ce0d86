use Rattle.std.proofs.Common.{◌∙◌}
use Rattle.target_course.proofs.ProgressRows.{are_exact}
use Rattle.target_course.proofs.progress.Progress.counts.Goals as goal

pub returns-clause-trace : goal.returns-clause-trace
returns-clause-trace c = λ s rows p h e t. c.at.ensures ∙ h.counts c.args.id p e t

pub returns-clause-exact : goal.returns-clause-exact
returns-clause-exact c =
    λ s rows p h e t l. are_exact s rows c.args.id c.at.result (c.at.ensures ∙ h.counts c.args.id p e t) l

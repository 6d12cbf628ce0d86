use Rattle.reaction_model.proofs.sight.sight_of.Goals as goal

pub returns-clause-timely : goal.returns-clause-timely
returns-clause-timely c = λ end t. c.times.ensures.timely end (c.lines.ensures.timely end t)

use Rattle.std.proofs.Common.{sym, subst}
use Rattle.due_model.specs.RunSteps.{run_state}
use Rattle.initiator_books.specs.declared.endings.CommandEnd.{CommandEnd}
use Rattle.initiator_books.specs.Endings.{IsEndOf}
use Rattle.initiator_books.proofs.endings.Endings.end.Goals as goal

pub returns-clause-trace : goal.returns-clause-trace
returns-clause-trace c = λ s rows dev k h e o. subst (λ (x : CommandEnd). IsEndOf
    (run_state s rows).story c.args.number x) (sym c.at.ensures) (h.ends c.args.number k e o)

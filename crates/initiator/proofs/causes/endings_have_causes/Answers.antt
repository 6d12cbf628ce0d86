use Rattle.initiator.proofs.CausesOfRows.{status_cause, loss_cause, reset_cause, abort_cause, unanswered_cause}
use Rattle.initiator.proofs.CausesOfRows.{sense_cause}
use Rattle.initiator.proofs.causes.endings_have_causes.Goals as goal

pub returns-clause-status : goal.returns-clause-status
returns-clause-status c = λ s rows n status e. status_cause s rows n status e

pub returns-clause-loss : goal.returns-clause-loss
returns-clause-loss c = λ s rows n e. loss_cause s rows n e

pub returns-clause-reset : goal.returns-clause-reset
returns-clause-reset c = λ s rows n e. reset_cause s rows n e

pub returns-clause-abort : goal.returns-clause-abort
returns-clause-abort c = λ s rows n k at e. abort_cause s rows n k at e

pub returns-clause-unanswered : goal.returns-clause-unanswered
returns-clause-unanswered c = λ s rows n k d at e. unanswered_cause s rows n k d at e

pub returns-clause-stopped : goal.returns-clause-stopped
returns-clause-stopped c = λ s rows n k at o e. sense_cause s rows n k at o e

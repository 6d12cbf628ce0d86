use Rattle.trace_laws.proofs.Whole.{whole}
use Rattle.trace_laws.proofs.laws.prompt_traces_are_lawful.Goals as goal

pub returns-clause-lawful : goal.returns-clause-lawful
returns-clause-lawful c = λ s rows o prompt. (whole s rows o prompt).stood.standing.lawful

pub returns-clause-ahead : goal.returns-clause-ahead
returns-clause-ahead c = λ s rows o prompt dev lt x e. (whole s rows o prompt).stood.standing.ahead dev lt x e

use Rattle.trace_text.proofs.TraceAgain.{trace_again, followed_again}
use Rattle.trace_text.proofs.laws.traces_read_back.Goals as goal

pub returns-clause-alone : goal.returns-clause-alone
returns-clause-alone c = trace_again

pub returns-clause-followed : goal.returns-clause-followed
returns-clause-followed c = followed_again

use Rattle.trace_text.proofs.TraceAgain.{report_again}
use Rattle.trace_text.proofs.laws.reports_read_back.Goals as goal

pub returns : goal.returns
returns c = report_again

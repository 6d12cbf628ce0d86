use Rattle.trace_text.proofs.ReadsOnly.{trace_only}
use Rattle.trace_text.proofs.laws.reads_only.Goals as goal

pub returns : goal.returns
returns c = trace_only

-- What is read names devices of the bus.
use Rattle.trace_text.proofs.ReadsOnly.{rows_named}
use Rattle.trace_text.proofs.whole.read_trace.Goals as goal

pub returns-clause-rows : goal.returns-clause-rows
returns-clause-rows c = rows_named _ c.args.bytes.now c.read_bytes.ensures

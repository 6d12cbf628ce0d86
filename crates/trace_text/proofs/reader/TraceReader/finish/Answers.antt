use Rattle.trace_text.proofs.Front.{ends}
use Rattle.trace_text.proofs.reader.TraceReader.finish.Goals as goal

pub returns : goal.returns
returns c = ends c.args.self c.text.result.now c.end_told.result c.text.ensures c.end_told.ensures

use Rattle.trace_text.proofs.KeptRows.{ended, broken}
use Rattle.trace_text.proofs.ReadsOnly.{kept_named}
use Rattle.trace_text.proofs.kept_trace.KeptTrace.finish.Goals as goal

pub returns-in-Ok-clause-exact : goal.returns-in-Ok-clause-exact
returns-in-Ok-clause-exact c =
    λ bytes h few. ended c.args.self.rows bytes _ c.in-Ok.end h.rows (c.finish.ensures bytes h.reader few) c.in-Ok.is

pub returns-in-Ok-clause-rows : goal.returns-in-Ok-clause-rows
returns-in-Ok-clause-rows c = λ bytes h. kept_named c.args.self.rows bytes h.rows

pub returns-in-Err-clause-exact : goal.returns-in-Err-clause-exact
returns-in-Err-clause-exact c =
    λ bytes h few. broken c.args.self.rows bytes _ c.in-Err.line (c.finish.ensures bytes h.reader few) c.in-Err.is

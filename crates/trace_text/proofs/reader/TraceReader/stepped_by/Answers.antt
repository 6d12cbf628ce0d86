use Rattle.trace_text.proofs.Taken.{whole_line}
use Rattle.trace_text.proofs.reader.TraceReader.stepped_by.Goals as goal

pub returns-then-is_empty-clause-exact : goal.returns-then-is_empty-clause-exact
returns-then-is_empty-clause-exact c = λ few. whole_line c.args.self.now.line c.args.text.now c.args.self.now.state
    c.stepped.result (c.is_empty.ensures.0 c.if-is_empty.true) (c.stepped.ensures.exact few)

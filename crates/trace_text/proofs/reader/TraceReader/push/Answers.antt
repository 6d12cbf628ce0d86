use Rattle.trace_text.proofs.Front.{feed_kept, feed_told, byte_kept}
use Rattle.trace_text.proofs.reader.TraceReader.push.Goals as goal

pub returns-then-byte-eq10-clause-kept : goal.returns-then-byte-eq10-clause-kept
returns-then-byte-eq10-clause-kept c = feed_kept c.args.self.now c.args.byte c.text.result.now c.clear.new.self
    c.stepped-state.result c.if-byte-eq10.true c.text.ensures c.stepped-state.ensures.exact c.clear.ensures

pub returns-then-byte-eq10-clause-told : goal.returns-then-byte-eq10-clause-told
returns-then-byte-eq10-clause-told c = feed_told c.args.self.now c.args.byte c.text.result.now c.stepped-state.result
    c.if-byte-eq10.true c.text.ensures c.stepped-state.ensures.exact

pub returns-else-byte-eq10-clause-kept : goal.returns-else-byte-eq10-clause-kept
returns-else-byte-eq10-clause-kept c =
    byte_kept c.args.self.now c.args.byte c.push.new.self c.if-byte-eq10.false c.push.ensures

use Rattle.std.proofs.Common.{arith}
use Rattle.trace_text.proofs.Kept.{fills}
use Rattle.trace_text.proofs.line_front.LineFront.push_all.Goals as goal

pub returns : goal.returns
returns c = rw (← c.self.view_is) (fills c.self.inside.bytes c.args.bytes.now c.copy_from_slice.new.self
    c.self.inside.len c.min-count.result c.self.told (omega arith) c.min-count.ensures c.copy_from_slice.ensures.after)

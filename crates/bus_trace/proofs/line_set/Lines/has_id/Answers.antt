use Rattle.std.proofs.Common.{ap, ◌==◌, arith}
use Rattle.bus_trace.proofs.Bits.{shift_data}
use Rattle.bus_trace.proofs.line_set.Lines.has_id.Goals as goal

pub returns : goal.returns
returns c = ap (λ x. x == 1) (shift_data c.self.inside.bits c.args.dev c.args.self (omega arith) c.self.view_is)

use Rattle.std.proofs.Common.{ap, ◌==◌}
use Rattle.bus_trace.proofs.Bits.{shift_line}
use Rattle.bus_trace.proofs.line_set.Lines.has.Goals as goal

pub returns : goal.returns
returns c = ap (λ x. x == 1) (shift_line c.self.inside.bits c.args.line c.args.self c.requires c.self.view_is)

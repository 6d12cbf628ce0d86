use Rattle.std.proofs.Common.{not, ◌==◌}
use Rattle.bus_trace.proofs.Bits.{shift_line}
use Rattle.bus_trace.proofs.line_set.Lines.differs.Goals as goal

pub returns : goal.returns
returns c =
    let a = shift_line c.self.inside.bits c.args.line c.args.self c.requires c.self.view_is in
    let b = shift_line c.other.inside.bits c.args.line c.args.other c.requires c.other.view_is in
    λ i. not (a i == b i)

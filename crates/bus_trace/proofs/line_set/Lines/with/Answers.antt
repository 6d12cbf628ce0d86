use Rattle.std.proofs.lemmas.Nat.{or_lt}
use Rattle.bus_trace.proofs.Bits.{union_of}
use Rattle.bus_trace.proofs.line_set.Lines.with.Goals as goal

pub invariant_of-result : goal.invariant_of-result
invariant_of-result c = or_lt 18 _ _ c.self.invariant c.other.invariant

pub returns : goal.returns
returns c = union_of _ _ _ _ c.self.view_is c.other.view_is

use Rattle.std.proofs.Common.{suc, arith}
use Rattle.bus_trace.proofs.Views.{AreBefore-later}
use Rattle.bus_trace.proofs.laws.bounds_last.Goals as goal

pub returns : goal.returns
returns c = λ time later v le. AreBefore-later (suc time) (suc later) v (omega arith)

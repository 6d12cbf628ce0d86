use Rattle.bus_trace.proofs.OneRow.{rows_so_far}
use Rattle.bus_trace.proofs.laws.rows_come_in_order.Goals as goal

pub returns : goal.returns
returns c = rows_so_far

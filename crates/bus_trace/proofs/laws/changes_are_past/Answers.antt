use Rattle.bus_trace.proofs.Ages.{since_le, since_line_le}
use Rattle.bus_trace.proofs.laws.changes_are_past.Goals as goal

pub returns-clause-seen : goal.returns-clause-seen
returns-clause-seen c = since_le

pub returns-clause-line : goal.returns-clause-line
returns-clause-line c = since_line_le

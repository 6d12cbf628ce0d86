use Rattle.bus_trace.proofs.Ages.{since-kept, since-set, since_line-kept, since_line-set}
use Rattle.bus_trace.proofs.laws.changes_set_times.Goals as goal

pub returns-clause-kept : goal.returns-clause-kept
returns-clause-kept c = since-kept

pub returns-clause-set : goal.returns-clause-set
returns-clause-set c = since-set

pub returns-clause-line_kept : goal.returns-clause-line_kept
returns-clause-line_kept c = since_line-kept

pub returns-clause-line_set : goal.returns-clause-line_set
returns-clause-line_set c = since_line-set

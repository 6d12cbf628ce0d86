use Rattle.bus_trace.proofs.Ids.{has_id-union, has_id-id_set, has_id-ids_set, ids_in-ids_set, ids_odd, above_on}
use Rattle.bus_trace.proofs.Ids.{above_off}
use Rattle.bus_trace.proofs.laws.ids_read_back.Goals as goal

pub returns-clause-either : goal.returns-clause-either
returns-clause-either c = has_id-union

pub returns-clause-one : goal.returns-clause-one
returns-clause-one c = has_id-id_set

pub returns-clause-two : goal.returns-clause-two
returns-clause-two c = has_id-ids_set

pub returns-clause-count : goal.returns-clause-count
returns-clause-count c = ids_in-ids_set

pub returns-clause-odd : goal.returns-clause-odd
returns-clause-odd c = ids_odd

pub returns-clause-above : goal.returns-clause-above
returns-clause-above c = above_on

pub returns-clause-none_above : goal.returns-clause-none_above
returns-clause-none_above c = above_off

use Rattle.bus_trace.specs.Numbers.{number_back}
use Rattle.bus_trace.proofs.Bits.{set_of-or}
use Rattle.bus_trace.proofs.Sets.{set_back, number_of-lt}
use Rattle.bus_trace.proofs.laws.sets_are_numbers.Goals as goal

pub returns-clause-number : goal.returns-clause-number
returns-clause-number c = number_back

pub returns-clause-set : goal.returns-clause-set
returns-clause-set c = set_back

pub returns-clause-small : goal.returns-clause-small
returns-clause-small c = number_of-lt

pub returns-clause-either : goal.returns-clause-either
returns-clause-either c = set_of-or

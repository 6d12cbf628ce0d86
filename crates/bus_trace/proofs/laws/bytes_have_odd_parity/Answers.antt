use Rattle.bus_trace.proofs.OddParity.{byte_odd, byte_back, byte_small}
use Rattle.bus_trace.proofs.laws.bytes_have_odd_parity.Goals as goal

pub returns-clause-odd : goal.returns-clause-odd
returns-clause-odd c = byte_odd

pub returns-clause-back : goal.returns-clause-back
returns-clause-back c = byte_back

pub returns-clause-small : goal.returns-clause-small
returns-clause-small c = byte_small

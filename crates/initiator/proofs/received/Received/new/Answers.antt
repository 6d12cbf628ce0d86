use Rattle.initiator.proofs.ReceivedRows.{received_starts}
use Rattle.initiator.proofs.received.Received.new.Goals as goal

pub returns-clause-trace : goal.returns-clause-trace
returns-clause-trace c = received_starts c.args.scenario.now c.args.dev c.in_ok-pairs.pairs.items c.in_ok-pairs.ensures

use Rattle.handshake.specs.Early.{IsEarly}
use Rattle.part_tests.proofs.hands.are_next_out.Given as goal

abbrev pub invariant-loop-row : goal.invariant-loop-row
invariant-loop-row l = IsEarly l.view

use Rattle.handshake.specs.Early.{IsEarly}
use Rattle.part_tests.proofs.hands.see_all.Given as goal

abbrev pub invariant-loop-time : goal.invariant-loop-time
invariant-loop-time l = IsEarly l.view

use Rattle.bus_trace.specs.Terms.{connection}
use Rattle.handshake.specs.Steps.{initiator_next, target_next}
use Rattle.handshake.proofs.Hands.{step_input, step_of}
use Rattle.handshake.proofs.Made.{initiator_makes, target_makes}
use Rattle.handshake.proofs.laws.rows_are_made_when_due.Goals as goal

pub returns-clause-initiator : goal.returns-clause-initiator
returns-clause-initiator c = initiator_makes

pub returns-clause-target : goal.returns-clause-target
returns-clause-target c = target_makes

pub returns-clause-initiator_wake : goal.returns-clause-initiator_wake
returns-clause-initiator_wake c = λ into rows e now offered flip.
    (step_of (step_input into rows e now flip) (initiator_next rows e offered (connection rows))).wake

pub returns-clause-target_wake : goal.returns-clause-target_wake
returns-clause-target_wake c = λ into rows e now offered flip.
    (step_of (step_input into rows e now flip) (target_next rows e offered (connection rows))).wake

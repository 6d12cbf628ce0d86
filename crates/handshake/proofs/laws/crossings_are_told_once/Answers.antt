use Rattle.bus_trace.specs.Terms.{connection}
use Rattle.handshake.specs.Steps.{initiator_next, target_next, initiator_hand, target_hand}
use Rattle.handshake.proofs.Hands.{step_input, step_of}
use Rattle.handshake.proofs.Tellings.{first, again}
use Rattle.handshake.proofs.laws.crossings_are_told_once.Goals as goal

pub returns-clause-first : goal.returns-clause-first
returns-clause-first c = first

pub returns-clause-initiator : goal.returns-clause-initiator
returns-clause-initiator c = λ into rows e now offered flip.
    (step_of (step_input into rows e now flip) (initiator_next rows e offered (connection rows))).byte_count

pub returns-clause-target : goal.returns-clause-target
returns-clause-target c = λ into rows e now offered flip.
    (step_of (step_input into rows e now flip) (target_next rows e offered (connection rows))).byte_count

pub returns-clause-initiator_again : goal.returns-clause-initiator_again
returns-clause-initiator_again c = λ into rows e now later offered flip other_offered other_flip.
    again into rows e now flip (initiator_next rows e offered (connection rows)) later other_flip
    (initiator_next rows (initiator_hand into rows e now offered flip).next other_offered (connection rows))

pub returns-clause-target_again : goal.returns-clause-target_again
returns-clause-target_again c = λ into rows e now later offered flip other_offered other_flip.
    again into rows e now flip (target_next rows e offered (connection rows)) later other_flip
    (target_next rows (target_hand into rows e now offered flip).next other_offered (connection rows))

use Rattle.disk_unit.proofs.AtSeats.{started, accepted, refused, guest, chosen, ran, run_at, run, failed, failure_step}
use Rattle.disk_unit.proofs.AtSeats.{ended, end_step, lost, guest_ended, guest_lost, aborted, tag_aborted, cleared}
use Rattle.disk_unit.proofs.AtSeats.{reset}
use Rattle.std.proofs.Common.{refl}
use Rattle.disk_unit.proofs.LiveCommands.{entry_held}
use Rattle.disk_unit.proofs.laws.units_are_seats.Goals as goal

pub returns-clause-start : goal.returns-clause-start
returns-clause-start c = started

pub returns-clause-entry : goal.returns-clause-entry
returns-clause-entry c = entry_held

pub returns-clause-accept : goal.returns-clause-accept
returns-clause-accept c = accepted

pub returns-clause-refuse : goal.returns-clause-refuse
returns-clause-refuse c = refused

pub returns-clause-guest : goal.returns-clause-guest
returns-clause-guest c = guest

pub returns-clause-choice : goal.returns-clause-choice
returns-clause-choice c = chosen

pub returns-clause-execution : goal.returns-clause-execution
returns-clause-execution c = ran

pub returns-clause-run : goal.returns-clause-run
returns-clause-run c = λ hosts l con u seat b key p h k lt now none free.
    (run_at hosts seat u p h.there now none free, run hosts l con u seat b key p h k lt)

pub returns-clause-failure : goal.returns-clause-failure
returns-clause-failure c = λ hosts l con u seat b over p reply h r.
    (failure_step seat over p reply r, failed hosts l con u seat b p.id reply h)

pub returns-clause-end : goal.returns-clause-end
returns-clause-end c = λ hosts l con u seat b key p reply h lt k f r.
    (end_step seat p reply r, ended hosts l con u seat b key p reply h lt k f)

pub returns-clause-loss : goal.returns-clause-loss
returns-clause-loss c = λ hosts l con u seat b key p h k. (refl, lost hosts l con u seat b key p h k)

pub returns-clause-guest_end : goal.returns-clause-guest_end
returns-clause-guest_end c =
    λ hosts l con u seat b p reply h lt f r. (end_step seat p reply r, guest_ended hosts l con u seat b p reply h lt f)

pub returns-clause-guest_loss : goal.returns-clause-guest_loss
returns-clause-guest_loss c = λ hosts l con u seat b id h f. (refl, guest_lost hosts l con u seat b id h f)

pub returns-clause-abort : goal.returns-clause-abort
returns-clause-abort c = aborted

pub returns-clause-abort_tag : goal.returns-clause-abort_tag
returns-clause-abort_tag c = tag_aborted

pub returns-clause-clear_queue : goal.returns-clause-clear_queue
returns-clause-clear_queue c = cleared

pub returns-clause-reset : goal.returns-clause-reset
returns-clause-reset c = reset

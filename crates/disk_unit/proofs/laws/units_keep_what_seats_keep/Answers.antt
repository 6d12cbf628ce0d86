use Rattle.disk_unit.proofs.Keeping.{started, arrived, guest, chosen, run, replied, after_status, left, aborted}
use Rattle.disk_unit.proofs.Keeping.{tag_aborted, cleared, reset, held}
use Rattle.disk_unit.proofs.laws.units_keep_what_seats_keep.Goals as goal

pub returns-clause-start : goal.returns-clause-start
returns-clause-start c = started

pub returns-clause-arrival : goal.returns-clause-arrival
returns-clause-arrival c = arrived

pub returns-clause-guest : goal.returns-clause-guest
returns-clause-guest c = guest

pub returns-clause-choice : goal.returns-clause-choice
returns-clause-choice c = chosen

pub returns-clause-run : goal.returns-clause-run
returns-clause-run c = run

pub returns-clause-failure : goal.returns-clause-failure
returns-clause-failure c = replied

pub returns-clause-status : goal.returns-clause-status
returns-clause-status c = after_status

pub returns-clause-leaving : goal.returns-clause-leaving
returns-clause-leaving c = left

pub returns-clause-abort : goal.returns-clause-abort
returns-clause-abort c = aborted

pub returns-clause-abort_tag : goal.returns-clause-abort_tag
returns-clause-abort_tag c = tag_aborted

pub returns-clause-clear_queue : goal.returns-clause-clear_queue
returns-clause-clear_queue c = cleared

pub returns-clause-reset : goal.returns-clause-reset
returns-clause-reset c = reset

pub returns-clause-held : goal.returns-clause-held
returns-clause-held c = held

use Rattle.std.proofs.Common.{◌^◌, arith}
use Rattle.due_model.specs.RunSteps.{run_state}
use Rattle.scsi_device.proofs.FitLines.{obeys_fits, seats_are, units_are, command_fits, abort_fits, host_fits}
use Rattle.scsi_device.proofs.FitLines.{target_fits, disk_fits, tape_fits, unit_fits}
use Rattle.scsi_device.proofs.WantTimes.{wants_before, next_reset_before}
use Rattle.scsi_device.proofs.laws.scenarios_fit_the_bus.Goals as goal

pub returns-clause-lines : goal.returns-clause-lines
returns-clause-lines c = λ s o. obeys_fits s o

pub returns-clause-seats : goal.returns-clause-seats
returns-clause-seats c = λ s f. seats_are s f

pub returns-clause-units : goal.returns-clause-units
returns-clause-units c = λ s f. units_are s f

pub returns-clause-commands : goal.returns-clause-commands
returns-clause-commands c = λ s n d f e. command_fits s n d f e

pub returns-clause-aborts : goal.returns-clause-aborts
returns-clause-aborts c = λ s n a f e. abort_fits s n a f e

pub returns-clause-found_hosts : goal.returns-clause-found_hosts
returns-clause-found_hosts c = λ s dev h f e. host_fits s dev h f e

pub returns-clause-found_targets : goal.returns-clause-found_targets
returns-clause-found_targets c = λ s dev t f e. target_fits s dev t f e

pub returns-clause-found_disks : goal.returns-clause-found_disks
returns-clause-found_disks c = λ s target unit u f e. disk_fits s target unit u f e

pub returns-clause-found_tapes : goal.returns-clause-found_tapes
returns-clause-found_tapes c = λ s target unit t f e. tape_fits s target unit t f e

pub returns-clause-found_units : goal.returns-clause-found_units
returns-clause-found_units c = λ s target unit u f e. unit_fits s target unit u f e

pub returns-clause-times : goal.returns-clause-times
returns-clause-times c = λ s rows dev released f. (
  wants_before (2 ^ 63) s (run_state s rows).story.sent dev (omega arith) f,
  next_reset_before (2 ^ 63) s dev released (omega arith) f,
)

use Rattle.scsi_device.proofs.Dues.{flips_are, others_are}
use Rattle.scsi_device.proofs.Told.{receiver_told}
use Rattle.scsi_device.proofs.laws.devices_know_enough.Goals as goal

pub returns-clause-faults : goal.returns-clause-faults
returns-clause-faults c = λ faults f time e. flips_are faults f time e

pub returns-clause-receivers : goal.returns-clause-receivers
returns-clause-receivers c = λ rows. receiver_told rows

pub returns-clause-others : goal.returns-clause-others
returns-clause-others c = λ s k me n x y. others_are s k me n x y

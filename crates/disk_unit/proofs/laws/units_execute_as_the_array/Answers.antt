use Rattle.disk_unit.proofs.Executions.{executed}
use Rattle.disk_unit.proofs.MediumFacts.{as_disk, as_tape}
use Rattle.disk_unit.proofs.laws.units_execute_as_the_array.Goals as goal

pub returns-clause-array : goal.returns-clause-array
returns-clause-array c = executed

pub returns-clause-disk : goal.returns-clause-disk
returns-clause-disk c = as_disk

pub returns-clause-tape : goal.returns-clause-tape
returns-clause-tape c = as_tape

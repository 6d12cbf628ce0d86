use Rattle.bus_trace.proofs.OneRow.{drives-other, drives-own, drives-fault, bus-fault}
use Rattle.bus_trace.proofs.laws.rows_change_one_device.Goals as goal

pub returns-clause-other : goal.returns-clause-other
returns-clause-other c = drives-other

pub returns-clause-own : goal.returns-clause-own
returns-clause-own c = drives-own

pub returns-clause-fault : goal.returns-clause-fault
returns-clause-fault c = drives-fault

pub returns-clause-fault_bus : goal.returns-clause-fault_bus
returns-clause-fault_bus c = bus-fault

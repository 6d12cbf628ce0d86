use Rattle.bus_trace.proofs.Buses.{bus_none, bus_one, bus_two}
use Rattle.bus_trace.proofs.laws.drivers_make_the_bus.Goals as goal

pub returns-clause-none : goal.returns-clause-none
returns-clause-none c = bus_none

pub returns-clause-one : goal.returns-clause-one
returns-clause-one c = bus_one

pub returns-clause-two : goal.returns-clause-two
returns-clause-two c = bus_two

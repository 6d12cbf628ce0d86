use Rattle.bus_trace.proofs.Buses.{bus_on, bus_off, bus_data_below, bus_data_on, bus_data_off}
use Rattle.bus_trace.proofs.laws.lines_on_the_bus.Goals as goal

pub returns-clause-on : goal.returns-clause-on
returns-clause-on c = bus_on

pub returns-clause-off : goal.returns-clause-off
returns-clause-off c = bus_off

pub returns-clause-data_on : goal.returns-clause-data_on
returns-clause-data_on c = bus_data_on

pub returns-clause-data_off : goal.returns-clause-data_off
returns-clause-data_off c = bus_data_off

pub returns-clause-data_below : goal.returns-clause-data_below
returns-clause-data_below c = bus_data_below

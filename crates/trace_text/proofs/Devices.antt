-- The rows of a trace that was read are of the eight devices.
use Rattle.std.proofs.Common.{List, [], ◌∷◌}
use Rattle.std.specs.List.{AllByRecursion}
use Rattle.bus_trace.specs.OfTrace.{IsOfDevice, IsRow}
use Rattle.bus_trace.specs.declared.Row.{Row}

pub of_devices : (rows : List Row) → AllByRecursion IsRow rows → AllByRecursion IsOfDevice rows
of_devices [] h = tt
of_devices (row ∷ rows) h = (h.0.device, of_devices rows h.1)

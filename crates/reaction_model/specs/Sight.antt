-- What any device knows of the bus by its lines after these rows.
use Rattle.std.specs.Prelude.{List}
use Rattle.bus_lines.specs.bus_trace.specs.declared.Row.{Row}
use Rattle.bus_lines.specs.bus_trace.specs.Trace.{bus}
use Rattle.reaction_model.specs.declared.sight.Sight.{Sight}
use Rattle.bus_lines.specs.bus_trace.specs.Trace.{line_times}
use Rattle.bus_lines.specs.Stage.{stage}

abbrev pub sight : List Row → Sight
sight rows = record { bus = bus rows; ages = line_times rows; stage = stage rows }

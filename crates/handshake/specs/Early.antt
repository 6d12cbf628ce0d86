-- A view of rows that all come before 2 ^ 63 ns.
use Rattle.std.specs.Prelude.{◌<◌, ◌^◌, List}
use Rattle.std.specs.List.{AllByRecursion}
use Rattle.bus_trace.specs.declared.rows.Row.{Row}
use Rattle.bus_lines.specs.BusView.{BusViewValue, IsBusViewOf}

pub record IsEarly (v : BusViewValue) : Type 0 where
  pub rows : List Row
  pub view : IsBusViewOf rows v
  pub before : AllByRecursion (λ (row : Row). row.time < 2 ^ 63) rows

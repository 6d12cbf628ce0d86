-- What a row of a trace may name.
use Rattle.std.specs.Prelude.{◌<◌, ◌≤◌}
use Rattle.bus_trace.specs.declared.rows.Kind.{Kind}
use Rattle.bus_trace.specs.declared.rows.Kind.TheVariants.{Drives, Fault}
use Rattle.bus_trace.specs.declared.rows.Row.{Row}

-- a fault is on one of the eight data bits, or on parity as bit 8
abbrev pub IsKind : Kind → Type 0
IsKind (Drives lines) = Unit {0}
IsKind (Fault bit) = bit ≤ 8

-- a row of one of the eight devices
pub record IsRow (row : Row) : Type 0 where
  pub device : row.dev < 8
  pub kind : IsKind row.kind

abbrev pub IsOfDevice : Row → Type 0
IsOfDevice row = row.dev < 8

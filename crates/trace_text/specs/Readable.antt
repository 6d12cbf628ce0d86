-- Which rows a trace text can hold.
use Rattle.std.specs.Prelude.{◌<◌, ◌^◌}
use Rattle.bus_trace.specs.OfTrace.{IsRow}
use Rattle.bus_trace.specs.declared.Kind.{Kind}
use Rattle.bus_trace.specs.declared.Kind.TheVariants.{Drives, Fault}
use Rattle.bus_trace.specs.declared.Row.{Row}

-- the data lines are nine bits
abbrev pub FitsBus : Kind → Type 0
FitsBus (Drives lines) = lines.data_bits < 512
FitsBus (Fault bit) = Unit {0}

-- A row of one of the eight devices, on the eighteen lines, at a time below 2 ^ 63.
pub record IsTraceRow (row : Row) : Type 0 where
  pub named : IsRow row
  pub lines : FitsBus row.kind
  pub time : row.time < 2 ^ 63

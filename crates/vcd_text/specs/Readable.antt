-- The traces that a dump says whole.
use Rattle.std.specs.Prelude.{◌≡◌, ◌<◌, ◌≤◌, List, [], ◌∷◌, false}
use Rattle.bus_trace.specs.LineSet.{LineSet, same_set}
use Rattle.bus_trace.specs.Trace.{drives, last_time}
use Rattle.bus_trace.specs.declared.rows.Row.{Row}
use Rattle.bus_trace.specs.declared.rows.Kind.TheVariants.{Drives}

-- After these rows, the newest first, a row of lines that differ from what its device drives, at no earlier time.
pub record IsChange (rows : List Row) (row : Row) : Type 0 where
  pub device : row.dev < 8
  pub lines : LineSet
  pub kind : row.kind ≡ Drives lines
  pub fits : lines.data_bits < 512
  pub differs : same_set (drives rows row.dev) lines ≡ false
  pub time : last_time rows ≤ row.time

-- All of these rows, the newest first, are such rows.
abbrev pub AreChanges : List Row → Type 0
AreChanges [] = Unit {0}
AreChanges (row ∷ rows) = AreChanges rows × IsChange rows row

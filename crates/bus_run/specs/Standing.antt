-- Rows that leave a connection and RST as they are.
use Rattle.std.specs.Prelude.{ℕ, ◌≡◌, ◌==◌, ◌&&◌, ◌||◌, Bool, true, not, List, ◌∷◌, Option, Some, None, is_some}
use Rattle.std.specs.Prelude.{if◌then◌else◌}
use Rattle.bus_trace.specs.declared.Row.{Row}
use Rattle.bus_trace.specs.declared.connection.Connection.{Connection}
use Rattle.bus_lines.specs.declared.effect.RowEffect.{RowEffect}
use Rattle.due_model.specs.PlainDue.{IsLinked}

-- The initiator or the target of a connection.
abbrev pub is_end : Connection → ℕ → Bool
is_end n dev = n.initiator == dev || n.target == dev

-- One of the two ends of the connection made the row; the connection stood before it and stands after it, and RST was
-- and is false.
pub record IsKept (rows : List Row) (row : Row) (n : Connection) : Type 0 where
  pub before : IsLinked rows n
  pub after : IsLinked (row ∷ rows) n
  pub of_end : is_end n row.dev ≡ true

-- The connection, by what the row of this device did.
abbrev pub is_calm : RowEffect → Bool
is_calm e = is_some e.after && (not e.change.before.rst && not e.change.after.rst)

abbrev pub kept_if : Bool → Option Connection → ℕ → Option Connection
kept_if calm None dev = None
kept_if calm (Some n) dev = if calm && is_end n dev then Some n else None

abbrev pub kept_by : RowEffect → ℕ → Option Connection
kept_by e dev = kept_if (is_calm e) e.before dev

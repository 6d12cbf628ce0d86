-- The next row, where the first one of the devices that are no ends of a connection is known.
use Rattle.std.specs.Prelude.{ℕ, ◌≡◌, ◌==◌, ◌&&◌, ◌||◌, nat_lt, Bool, false, ⊤, List, Option, Some, None, if◌then◌else◌}
use Rattle.bus_trace.specs.declared.Row.{Row}
use Rattle.bus_trace.specs.declared.connection.Connection.{Connection}
use Rattle.scenario.specs.Value.{ScenarioValue}
use Rattle.reaction_model.specs.declared.due.Due.{Due}
use Rattle.due_model.specs.Next.{due, least, row_of}
use Rattle.due_model.specs.PlainDue.{IsLinked}
use Rattle.bus_run.specs.Standing.{is_end}
use Rattle.bus_run.specs.declared.away.Away.{Away}

-- ---- two rows of different devices: at one time that of the higher ID comes first

abbrev pub comes_first : Row → Row → Bool
comes_first a b = nat_lt a.time b.time || (a.time == b.time && nat_lt b.dev a.dev)

-- The reaction of a device, or the row of another that comes first.
abbrev pub sooner_row : Option Due → ℕ → Option Row → Option Row
sooner_row None dev other = other
sooner_row (Some x) dev None = Some (row_of dev x)
sooner_row (Some x) dev (Some row) = if comes_first (row_of dev x) row then Some (row_of dev x) else Some row

-- ---- the devices that are no ends of this connection: all, where there is none

abbrev pub is_end_if : Option Connection → ℕ → Bool
is_end_if None dev = false
is_end_if (Some n) dev = is_end n dev

abbrev pub due_besides : Option Connection → (ℕ → Option Due) → ℕ → Option Due
due_besides n f dev = if is_end_if n dev then None else f dev

-- The connection stands while RST is false, and the row is the first one of the devices that are no ends of it.
pub record IsAway (s : ScenarioValue) (rows : List Row) (a : Away) : Type 0 where
  pub linked : IsLinked rows a.connection
  pub first : a.first ≡ least (due_besides (Some a.connection) (due s rows)) 8

abbrev pub IsAwayIf : ScenarioValue → List Row → Option Away → Type 0
IsAwayIf s rows None = ⊤
IsAwayIf s rows (Some a) = IsAway s rows a

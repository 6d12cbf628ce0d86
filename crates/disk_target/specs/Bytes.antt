-- When the process of a connection gives bytes, and whose a connection is.
use Rattle.std.specs.Prelude.{ℕ, ◌≡◌, ◌==◌, if◌then◌else◌, ◌&&◌, not, Bool, true, false, List, ◌∷◌, Option, Some, None}
use Rattle.bus_trace.specs.declared.Row.{Row}
use Rattle.bus_trace.specs.declared.changes.Change.{Change}
use Rattle.bus_trace.specs.declared.connection.Connection.{Connection}
use Rattle.bus_trace.specs.Terms.{connection}
use Rattle.bus_trace.specs.Trace.{bus}
use Rattle.disk_unit.specs.declared.unit.Reply.{Reply}
use Rattle.due_model.specs.dialogue_model.specs.declared.exchange.Next.{Next}
use Rattle.due_model.specs.dialogue_model.specs.declared.exchange.Phase.{Phase}
use Rattle.due_model.specs.dialogue_model.specs.declared.exchange.Phase.TheVariants as phases
use Rattle.target_course.specs.scsi_device.specs.Heard.{goes_on}
use Rattle.target_course.specs.States.{IsOwnConnection}

-- The status of a reply.
abbrev pub status_in : Option Reply → Option ℕ
status_in None = None
status_in (Some reply) = Some reply.status

-- ---- the bytes that the process gives are driven in DATA IN, and as the messages are over after which it goes on

abbrev pub gives_data : Phase → Next → Bool
gives_data phases.DataIn next = true
gives_data phases.MessageIn next = goes_on next
gives_data phases.MessageOut next = false
gives_data phases.Command next = false
gives_data phases.Status next = false
gives_data phases.DataOut next = false

-- A connection of its own, while RST is false; and none.
abbrev pub IsOwnIf : List Row → ℕ → Option Connection → Type 0
IsOwnIf rows dev None = (n : Connection) → IsOwnConnection rows dev n → (bus rows).rst ≡ true
IsOwnIf rows dev (Some n) = IsOwnConnection rows dev n × ((bus rows).rst ≡ false)

-- This connection, where it is one of this target and RST is false.
abbrev pub own_in : Option Connection → Bool → ℕ → Option Connection
own_in None rst dev = None
own_in (Some n) rst dev = if (n.target == dev) && not rst then Some n else None

-- The connection that stands, while RST is false.
abbrev pub stands_calm : Bool → Option Connection → Option Connection
stands_calm rst n = if rst then None else n

-- A connection of others, while RST is false.
pub record IsOthers (rows : List Row) (dev : ℕ) (n : Connection) : Type 0 where
  pub stands : connection rows ≡ Some n
  pub away : (n.target == dev) ≡ false
  pub calm : (bus rows).rst ≡ false

-- A connection of its own stood before a row, while RST was false, and one stands after it.
abbrev pub are_own : Option Connection → Option Connection → Change → ℕ → Bool
are_own (Some m) (Some n) c dev = (m.target == dev) && not c.before.rst
are_own (Some m) None c dev = false
are_own None after c dev = false

pub record StandsInOwn (rows : List Row) (row : Row) (dev : ℕ) : Type 0 where
  pub before : Connection
  pub after : Connection
  pub own : IsOwnConnection rows dev before
  pub calm : (bus rows).rst ≡ false
  pub stands : connection (row ∷ rows) ≡ Some after

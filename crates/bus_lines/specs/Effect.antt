-- What the last row did (ANSI X3.131-1994, 6.1).
use Rattle.std.specs.Prelude.{false, List, [], ◌∷◌, Option, Some, None, ◌≡◌, ⊤}
use Rattle.bus_trace.specs.LineSet.{none}
use Rattle.bus_trace.specs.declared.Row.{Row}
use Rattle.bus_trace.specs.declared.changes.Change.{Change}
use Rattle.bus_trace.specs.declared.connection.Connection.{Connection}
use Rattle.bus_lines.specs.declared.effect.RowEffect.{RowEffect}
use Rattle.bus_trace.specs.Changes.{change_of}
use Rattle.bus_trace.specs.Terms.{is_fault, connection, receiver_of}

abbrev pub no_effect : RowEffect
no_effect = record {
  change = record { before = none; after = none; own = none; next = none };
  before = None;
  after = None;
  receiver = None;
  fault = false;
}

-- A byte crosses in the connection that stands before the row.
abbrev pub effect_of : Option Connection → Option Connection → Change → Row → RowEffect
effect_of before after c row = record {
  change = c;
  before = before;
  after = after;
  receiver = receiver_of before c;
  fault = is_fault row.kind;
}

-- Of three moments in turn: where a connection stands at each, it is the same.
abbrev pub IsOneConnection : Option Connection → Option Connection → Option Connection → Type 0
IsOneConnection None m n = ⊤
IsOneConnection (Some k) None n = ⊤
IsOneConnection (Some k) (Some m) None = ⊤
IsOneConnection (Some k) (Some m) (Some n) = (k ≡ m) × (m ≡ n)

abbrev pub effect : List Row → RowEffect
effect [] = no_effect
effect (row ∷ rows) = effect_of (connection rows) (connection (row ∷ rows)) (change_of rows row) row

-- A connection that stands before a row and after it is one connection.
use Rattle.bus_trace.specs.Terms.{connection, call, connection_after}
use Rattle.std.proofs.Common.{◌≡◌, ◌∙◌, Some, None, Bool, ◌∷◌, true, sym, List, false}
use Rattle.std.specs.Prelude.{if◌then◌else◌}
use Rattle.bus_trace.specs.declared.connection.Connection.{Connection}
use Rattle.bus_trace.specs.declared.rows.Row.{Row}
use Rattle.bus_trace.specs.Trace.{bus}
use Rattle.bus_trace.specs.Changes.{change_of}

pub connection_stays : (rows : List Row) (row : Row) (m n : Connection) → connection rows ≡ Some m
    → connection (row ∷ rows) ≡ Some n → m ≡ n
connection_stays rows row m n x y =
    go (bus (row ∷ rows)).bsy ((λ i. connection_after (sym x i) (call rows) (change_of rows row) row) ∙ y)
  where
    go : (z : Bool) → (if z then Some m else None) ≡ Some n → m ≡ n
    go true e = cc
    go false e = absurd cc

-- Rows of lines and fault rows, and what stands on the bus after some rows.
use Rattle.std.specs.Prelude.{ℕ, ◌≡◌, List, Option}
use Rattle.due_model.specs.bus_trace.specs.LineSet.{LineSet}
use Rattle.due_model.specs.bus_trace.specs.declared.Row.{Row}
use Rattle.due_model.specs.bus_trace.specs.declared.Kind.TheVariants.{Drives, Fault}
use Rattle.due_model.specs.bus_trace.specs.Trace.{bus}
use Rattle.due_model.specs.bus_trace.specs.declared.changes.Change.{Change}
use Rattle.due_model.specs.bus_trace.specs.declared.arbitration.Arbitration.{Arbitration}
use Rattle.due_model.specs.bus_trace.specs.declared.selection.Call.{Call}
use Rattle.due_model.specs.bus_trace.specs.declared.connection.Connection.{Connection}
use Rattle.due_model.specs.bus_trace.specs.Terms.{arbitration, call, connection}

abbrev pub row_of_lines : ℕ → ℕ → LineSet → Row
row_of_lines t d l = record { time = t; dev = d; kind = Drives l }

abbrev pub row_of_fault : ℕ → ℕ → ℕ → Row
row_of_fault t d bit = record { time = t; dev = d; kind = Fault bit }

-- A row changes the bus from b to a, and what its device drives from o to l.
abbrev pub change_to : LineSet → LineSet → LineSet → LineSet → Change
change_to b a o l = record { before = b; after = a; own = o; next = l }

-- What stands on the bus after some rows.
pub record Stands (p : List Row) (b : LineSet) (a : Option Arbitration) (c : Option Call) (o : Option Connection) : Type
    0 where
  pub bus_is : bus p ≡ b
  pub arbitration_is : arbitration p ≡ a
  pub call_is : call p ≡ c
  pub connection_is : connection p ≡ o

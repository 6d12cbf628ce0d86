-- A connection that still stands under RST: its target alone drives the lines of the phase, and data come to the
-- initiator only of a process that does not write (6.1.5, 6.2.2).
use Rattle.std.specs.Prelude.{ℕ, ◌≡◌, ◌≢◌, ◌<◌, true, false, List, Some}
use Rattle.due_model.specs.bus_trace.specs.LineSet.{LineSet}
use Rattle.due_model.specs.bus_trace.specs.declared.Row.{Row}
use Rattle.due_model.specs.bus_trace.specs.declared.connection.Connection.{Connection}
use Rattle.due_model.specs.bus_trace.specs.Terms.{connection}
use Rattle.due_model.specs.bus_trace.specs.Trace.{bus, drives}
use Rattle.due_model.specs.scenario.specs.Value.{ScenarioValue}
use Rattle.story_laws.specs.row_laws.specs.WriteFacts.{ReadsUnderRst}

pub record HasNoPhase (l : LineSet) : Type 0 where
  pub msg : l.msg ≡ false
  pub cd : l.cd ≡ false
  pub io : l.io ≡ false

-- The target alone drives the lines of the phase.
pub record OfTarget (p : List Row) (n : Connection) : Type 0 where
  pub below : n.target < 8
  pub others : (d : ℕ) → d < 8 → d ≢ n.target → HasNoPhase (drives p d)

pub record ResetFacts (s : ScenarioValue) (rows : List Row) : Type 0 where
  pub lines : (n : Connection) → connection rows ≡ Some n → (bus rows).rst ≡ true → OfTarget rows n
  pub reads : ReadsUnderRst s rows

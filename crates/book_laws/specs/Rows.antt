-- What a row does in a connection that stands before and after it, where RST is false: facts of the lines alone.
use Rattle.std.specs.Prelude.{ℕ, ◌≡◌, Bool, true, false, Some, None}
use Rattle.due_model.specs.bus_trace.specs.declared.Row.{Row}
use Rattle.due_model.specs.bus_trace.specs.declared.changes.Change.{Change}
use Rattle.due_model.specs.bus_trace.specs.declared.connection.Connection.{Connection}
use Rattle.due_model.specs.bus_trace.specs.Changes.{rises}
use Rattle.due_model.specs.bus_trace.specs.Terms.{is_fault, receiver_in}
use Rattle.due_model.specs.bus_trace.specs.Phases.{changes_phase, is_message_out}
use Rattle.due_model.specs.story_model.specs.BusState.{BusState, RowReading, row_reading, change_by, message_out}
use Rattle.due_model.specs.story_model.specs.BusState.{message_in}
use Rattle.due_model.specs.RunState.{RunState}

-- It changes lines, strikes a byte, lets a byte cross, or turns to another phase; never two of these (6.1.5, 6.1.10).
pub data RowKind (row : Row) (n : Connection) (c : Change) : Type 0 where
  still : is_fault row.kind ≡ false → changes_phase c ≡ false → receiver_in n c ≡ None → RowKind row n c
  strikes : is_fault row.kind ≡ true → changes_phase c ≡ false → receiver_in n c ≡ None → RowKind row n c
  crosses : (dev : ℕ) → is_fault row.kind ≡ false → changes_phase c ≡ false → receiver_in n c ≡ Some dev
      → RowKind row n c
  turns : is_fault row.kind ≡ false → changes_phase c ≡ true → receiver_in n c ≡ None → RowKind row n c

-- The connection stands before and after the row.
pub record IsRowIn (k : RunState) (row : Row) (n : Connection) (c : Change) : Type 0 where
  pub connection_is : k.story.bus_state.connection ≡ Some n
  pub change_is : change_by k.story.bus_state row ≡ c
  pub bus_is : k.story.bus_state.bus ≡ c.before
  pub stands : c.after.bsy ≡ true
  pub calm : c.after.rst ≡ false
  pub kind : RowKind row n c

-- What it tells.
abbrev pub reading_in : BusState → Connection → Change → Bool → RowReading
reading_in w n c now = record {
  change = c;
  next = Some n;
  crosses = now;
  out = message_out w.dialogue c now;
  into = message_in w.dialogue c now;
}

-- A connection begins with the row, and REQ has not risen in it; not in MESSAGE OUT: after a selection without the
-- lines of any phase, after a reselection in MESSAGE IN (6.1.3, 6.1.4).
pub record IsFirstRow (k : RunState) (row : Row) (n : Connection) : Type 0 where
  pub connection_is : k.story.bus_state.connection ≡ None
  pub next_is : (row_reading k.story.bus_state row).next ≡ Some n
  pub lines : is_fault row.kind ≡ false
  pub calm : (row_reading k.story.bus_state row).change.after.rst ≡ false
  pub phase : is_message_out (row_reading k.story.bus_state row).change.after ≡ false
  pub none_asked : k.handshakes.requests ≡ 0
  pub asks_none :
      rises (row_reading k.story.bus_state row).change.before.req (row_reading k.story.bus_state row).change.after.req
      ≡ false

-- A row that leaves a connection and its messages as they are.
use Rattle.std.specs.Prelude.{Bool, not, ◌&&◌, [], None, is_some, is_none, slice_set}
use Rattle.bus_trace.specs.declared.rows.Kind.{Kind}
use Rattle.bus_trace.specs.declared.rows.Row.{Row}
use Rattle.bus_trace.specs.declared.changes.Change.{Change}
use Rattle.bus_trace.specs.Phases.{changes_phase, is_message_in}
use Rattle.bus_trace.specs.Terms.{call_after, is_fault, receiver_of}
use Rattle.story_model.specs.BusState.{BusState}

-- BSY stands after the row, and RST does not.
abbrev pub stands_on : Change → Bool
stands_on c = c.after.bsy && not c.after.rst

-- No byte crosses, no phase begins, no fault strikes, and no message is taken.
abbrev pub is_still : BusState → Change → Kind → Bool
is_still w c kind = stands_on c && (is_none (receiver_of w.connection c) && not (changes_phase c))
    && is_some w.connection && not (is_fault kind) && not (is_message_in c.before)

-- The bus after such a row; at agreements nothing here looks.
abbrev pub still_bus : BusState → Row → Change → BusState
still_bus w row c = record w {
  driven = slice_set w.driven row.dev c.next;
  bus = c.after;
  call = call_after w.call c row;
  agreed = [];
  crossed = None;
}

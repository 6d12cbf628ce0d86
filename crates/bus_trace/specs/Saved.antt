-- What stands on the bus as plain words, and what such words say. Any words say something.
use Rattle.std.specs.Prelude.{ℕ, ◌-◌, ◌%◌, ◌^◌, ◌==◌, not, Bool, List, [], ◌∷◌, slice_index, Option, Some, None}
use Rattle.std.specs.Prelude.{if◌then◌else◌}
use Rattle.bus_trace.specs.LineSet.{LineSet, set_of}
use Rattle.bus_trace.specs.View.{View}
use Rattle.bus_trace.specs.declared.arbitration.Arbitration.{Arbitration}
use Rattle.bus_trace.specs.declared.selection.Call.{Call}
use Rattle.bus_trace.specs.declared.selection.Calling.{Calling}
use Rattle.bus_trace.specs.declared.connection.Connection.{Connection}
use Rattle.bus_trace.specs.declared.saved.SavedTime.{SavedTime}
use Rattle.bus_trace.specs.declared.saved.SavedArbitration.{SavedArbitration}
use Rattle.bus_trace.specs.declared.saved.SavedCalling.{SavedCalling}
use Rattle.bus_trace.specs.declared.saved.SavedCall.{SavedCall}
use Rattle.bus_trace.specs.declared.saved.SavedConnection.{SavedConnection}
use Rattle.bus_trace.specs.declared.saved.SavedView.{SavedView}

-- A word but 0 says yes.
abbrev pub is_yes : ℕ → Bool
is_yes word = not (word == 0)

-- A device, if there is one.
abbrev pub id_or_none_in : ℕ → Option ℕ
id_or_none_in word = if word == 0 then None else Some ((word - 1) % 8)

abbrev pub time_in : SavedTime → Option ℕ
time_in s = if is_yes s.is_some then Some s.time else None

abbrev pub arbitration_in : SavedArbitration → Option Arbitration
arbitration_in s = if is_yes s.is_some then Some (record { free = s.free; first = s.first }) else None

abbrev pub calling_in : SavedCalling → Option Calling
calling_in s =
    if is_yes s.is_some then
    Some (record {
      called = s.called % 8;
      reselects = is_yes s.reselects;
      at = s.at;
      released = time_in s.released;
      withdrawn = time_in s.withdrawn;
      resumed = time_in s.resumed;
      answered = time_in s.answered;
      struck = is_yes s.struck;
    })
    else None

abbrev pub call_in : SavedCall → Option Call
call_in s =
    if is_yes s.is_some then Some (record { caller = s.caller % 8; at = s.at; calling = calling_in s.calling })
    else None

abbrev pub connection_in : SavedConnection → Option Connection
connection_in s =
    if is_yes s.is_some then Some
    (record { initiator = s.initiator % 8; target = s.target % 8; began = s.began; reselected = is_yes s.reselected })
    else None

abbrev pub lines_in : ℕ → LineSet
lines_in word = set_of (word % 2 ^ 18)

-- What each device drives.
abbrev pub driven_in : List ℕ → List LineSet
driven_in words = lines_in (slice_index words 0) ∷ lines_in (slice_index words 1) ∷ lines_in (slice_index words 2)
    ∷ lines_in (slice_index words 3) ∷ lines_in (slice_index words 4) ∷ lines_in (slice_index words 5)
    ∷ lines_in (slice_index words 6) ∷ lines_in (slice_index words 7) ∷ []

abbrev pub view_in : SavedView → View
view_in s = record {
  driven = driven_in s.driven;
  present = lines_in s.present;
  data_lines = s.data_lines;
  data_changed = s.data_changed;
  times = s.times;
  last = s.last;
}

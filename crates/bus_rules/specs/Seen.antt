-- What a row meets: all that the rules ask of the rows before it.
use Rattle.std.specs.Prelude.{ℕ, Bool, false, not, ◌||◌, ◌&&◌, ◌==◌, List, Option, Some, None, is_some, if◌then◌else◌}
use Rattle.bus_trace.specs.LineSet.{LineSet, none, same_set, line_of, data_of}
use Rattle.bus_trace.specs.Trace.{drives, last_time, since, line_times}
use Rattle.bus_trace.specs.declared.Row.{Row}
use Rattle.bus_trace.specs.declared.Kind.TheVariants.{Fault}
use Rattle.bus_trace.specs.declared.changes.Change.{Change}
use Rattle.bus_trace.specs.declared.selection.Call.{Call}
use Rattle.bus_trace.specs.declared.selection.Calling.{Calling}
use Rattle.bus_trace.specs.declared.connection.Connection.{Connection}
use Rattle.bus_rules.specs.declared.seen.Seen.{Seen}
use Rattle.bus_phases.specs.declared.reading.Reading.{Reading}
use Rattle.bus_trace.specs.Changes.{change_of, drives_data}
use Rattle.bus_phases.specs.Phases.{pulses, turned, duty}
use Rattle.bus_phases.specs.Dialogue.{dialogue}
use Rattle.bus_phases.specs.Half.{is_nil}
use Rattle.bus_phases.specs.Reading.{reading_of}
use Rattle.bus_trace.specs.Terms.{raised, arbitration, call, connection, receiver}

-- A device but this one drives a line.
abbrev pub other_drives : (ℕ → LineSet) → ℕ → ℕ → Bool
other_drives lines dev other = not (other == dev) && not (same_set (lines other) none)

abbrev pub others_drive : (ℕ → LineSet) → ℕ → Bool
others_drive lines dev =
    other_drives lines dev 0 || other_drives lines dev 1 || other_drives lines dev 2 || other_drives lines dev 3
    || other_drives lines dev 4 || other_drives lines dev 5 || other_drives lines dev 6 || other_drives lines dev 7

-- While SEL is true: a device but the caller drives a line.
abbrev pub others_in_call : (ℕ → LineSet) → Option Call → Bool
others_in_call lines None = false
others_in_call lines (Some k) = others_drive lines k.caller

-- Since when the ID of the called device stands as it does; 0 without a calling.
abbrev pub id_since_calling : List Row → Option Calling → ℕ
id_since_calling rows None = 0
id_since_calling rows (Some k) = since (line_of k.called) rows

abbrev pub id_since : List Row → Option Call → ℕ
id_since rows None = 0
id_since rows (Some k) = id_since_calling rows k.calling

-- The initiator of a connection, or of a reselection that is not one yet.
abbrev pub initiator_called : Option Calling → Option ℕ
initiator_called None = None
initiator_called (Some k) = if k.reselects then Some k.called else None

abbrev pub initiator_of : Option Call → Option Connection → Option ℕ
initiator_of call (Some n) = Some n.initiator
initiator_of None None = None
initiator_of (Some k) None = initiator_called k.calling

abbrev pub drives_bsy : (ℕ → LineSet) → Option ℕ → Bool
drives_bsy lines None = false
drives_bsy lines (Some dev) = (lines dev).bsy

-- The initiator, and the target, of a connection drives data lines.
abbrev pub initiator_data : (ℕ → LineSet) → Option Connection → Bool
initiator_data lines None = false
initiator_data lines (Some n) = drives_data (lines n.initiator)

abbrev pub target_data : (ℕ → LineSet) → Option Connection → Bool
target_data lines None = false
target_data lines (Some n) = drives_data (lines n.target)

-- What a row of this device meets that changes this, and whose byte makes this of a message.
unfoldable pub seen_with : List Row → ℕ → Change → Reading → Seen
seen_with rows dev c reading = record {
  change = c;
  last = last_time rows;
  times = line_times rows;
  id_since = id_since rows (call rows);
  bsy_raised = raised (λ s. s.bsy) rows dev;
  rst_raised = raised (λ s. s.rst) rows dev;
  others_drive = others_in_call (drives rows) (call rows);
  initiator_bsy = drives_bsy (drives rows) (initiator_of (call rows) (connection rows));
  initiator_data = initiator_data (drives rows) (connection rows);
  target_data = target_data (drives rows) (connection rows);
  receiver = receiver rows;
  arbitration = arbitration rows;
  call = call rows;
  connection = connection rows;
  data_since = since data_of rows;
  pulses = pulses rows;
  turned = turned rows;
  duty = duty rows;
  agreement = (dialogue rows).heard.now.agreement;
  is_open = is_some (dialogue rows).heard.now.offer;
  command = (dialogue rows).heard.now.command;
  is_half = not (is_nil (dialogue rows).half);
  begun = (dialogue rows).begun;
  reading = reading;
}

abbrev pub seen : List Row → Row → Seen
seen rows row =
    seen_with rows row.dev (change_of rows row) (reading_of (dialogue rows).half (connection rows) (change_of rows row))

-- The end is judged as a row of its time that changes nothing.
abbrev pub end_row : ℕ → Row
end_row time = record { time = time; dev = 0; kind = Fault 0 }

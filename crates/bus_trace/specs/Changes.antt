-- What a row changes, on the bus and at its device.
use Rattle.std.specs.Prelude.{Bool, true, not, ◌&&◌, ◌||◌, ◌==◌, List, ◌∷◌}
use Rattle.bus_trace.specs.LineSet.{LineSet, none, union, same, same_set}
use Rattle.bus_trace.specs.Trace.{bus, drives, driven_after}
use Rattle.bus_trace.specs.declared.rows.Row.{Row}
use Rattle.bus_trace.specs.declared.changes.Change.{Change}

-- A line goes from false to true, or from true to false.
abbrev pub rises : Bool → Bool → Bool
rises before after = not before && after

abbrev pub falls : Bool → Bool → Bool
falls before after = before && not after

-- If one holds, so does the other.
abbrev pub implies : Bool → Bool → Bool
implies p q = not p || q

-- Each line of the first set is one of the second.
abbrev pub is_within : LineSet → LineSet → Bool
is_within a b = same_set (union b a) b

-- What a row changes after these rows.
abbrev pub change_of : List Row → Row → Change
change_of rows row = record {
  before = bus rows;
  after = bus (row ∷ rows);
  own = drives rows row.dev;
  next = driven_after row.kind (drives rows row.dev);
}

-- The device of the row raises a line that it drives from then on and did not drive before; it releases
-- one that it drove and no longer drives. Here it raises none, or none but these.
abbrev pub raises_none : Change → Bool
raises_none c = is_within c.next c.own

abbrev pub raises_only : LineSet → Change → Bool
raises_only lines c = is_within c.next (union lines c.own)

-- It adds just these lines.
abbrev pub adds : LineSet → Change → Bool
adds lines c = same_set c.next (union lines c.own)

-- It releases just this, which it drove.
abbrev pub releases_bsy : Change → Bool
releases_bsy c = falls c.own.bsy c.next.bsy && same_set (union (record none { bsy = true }) c.next) c.own

-- All lines but the data lines are the same in two sets: those that hold the bus, those of the phase, and
-- those of the transfer.
abbrev pub same_hold : LineSet → LineSet → Bool
same_hold a b = same a.bsy b.bsy && same a.sel b.sel && same a.rst b.rst

abbrev pub same_phase : LineSet → LineSet → Bool
same_phase a b = same a.msg b.msg && same a.cd b.cd && same a.io b.io

-- All lines but REQ, ACK and the data lines are the same.
abbrev pub same_stage : LineSet → LineSet → Bool
same_stage a b = same_hold a b && same_phase a b && same a.atn b.atn

abbrev pub same_transfer : LineSet → LineSet → Bool
same_transfer a b = same a.req b.req && same a.ack b.ack && same a.atn b.atn

abbrev pub same_control : LineSet → LineSet → Bool
same_control a b = same_hold a b && same_phase a b && same_transfer a b

-- It releases all data lines, of which it drove some, and changes nothing else.
abbrev pub releases_data : Change → Bool
releases_data c = not (c.own.data_bits == 0) && c.next.data_bits == 0 && same_control c.own c.next

-- Some data line is true.
abbrev pub drives_data : LineSet → Bool
drives_data s = not (s.data_bits == 0)

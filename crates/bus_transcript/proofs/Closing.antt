-- A connection is closed by its parts alone, whatever stands in its place meanwhile; and rows one by one.
use Rattle.std.proofs.Common.{◌≡◌, List, refl}
use Rattle.std.specs.Prelude.{Bool, false, Option}
use Rattle.bus_trace.specs.declared.connection.Connection.{Connection}
use Rattle.story_model.specs.BusState.{RowReading}
use Rattle.bus_transcript.specs.declared.part.Part.{Part}
use Rattle.bus_transcript.specs.declared.summary.Summary.{Summary}
use Rattle.bus_transcript.specs.Opened.{OpenedValue, settled, phase_over}
use Rattle.bus_transcript.specs.Rows.{TranscriberValue, closed_by, closed_with, closed_phase}

closed_apart :
    (t : TranscriberValue) (o : Option OpenedValue) (n : Connection) (parts : List Part) (free : Bool) (s : Summary)
    → closed_by (record t { opened = o }) n parts free s ≡ closed_by t n parts free s
unfolding closed_by
closed_apart t o n parts free s = refl

pub with_apart : (t : TranscriberValue) (o : Option OpenedValue) (k : OpenedValue) (free : Bool)
    → closed_with (record t { opened = o }) k free ≡ closed_with t k free
with_apart t o k free = closed_apart t o _ _ _ _

pub phase_apart : (t : TranscriberValue) (o : Option OpenedValue) (k : OpenedValue) (d : RowReading) (free : Bool)
    → closed_phase (record t { opened = o }) k d free ≡ closed_phase t k d free
phase_apart t o k d free =
    with_apart t o (settled (phase_over k d.change.before t.bus_state.dialogue.half false) false) free

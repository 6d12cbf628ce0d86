-- What a row tells the two ends of the connection that stands, by the rows before it.
use Rattle.std.specs.Prelude.{ℕ, Bool, false, not, ◌&&◌, ◌||◌, List, [], ◌∷◌, Option, Some, None, is_some, is_none}
use Rattle.std.specs.Prelude.{if◌then◌else◌}
use Rattle.story_model.specs.bus_trace.specs.declared.Row.{Row}
use Rattle.story_model.specs.bus_trace.specs.declared.changes.Change.{Change}
use Rattle.story_model.specs.bus_trace.specs.declared.connection.Connection.{Connection}
use Rattle.reaction_model.specs.bus_lines.specs.declared.effect.RowEffect.{RowEffect}
use Rattle.story_model.specs.bus_trace.specs.Changes.{change_of}
use Rattle.story_model.specs.bus_trace.specs.Phases.{changes_phase, is_data}
use Rattle.story_model.specs.bus_trace.specs.Terms.{connection}
use Rattle.reaction_model.specs.bus_lines.specs.Effect.{no_effect, effect}
use Rattle.reaction_model.specs.bus_lines.specs.Handshakes.{handshakes}
use Rattle.story_model.specs.bus_phases.specs.declared.dialogue.Dialogue.{Dialogue}
use Rattle.story_model.specs.bus_phases.specs.declared.spoken.Spoken.{Spoken}
use Rattle.story_model.specs.bus_trace.specs.declared.agreements.Agreement.{Agreement}
use Rattle.story_model.specs.bus_phases.specs.Dialogue.{asynchronous, opened, dialogue, closed_agreement_by}
use Rattle.story_model.specs.BusState.{message_out, message_in}
use Rattle.dialogue_model.specs.declared.exchange.Hearing.{Hearing}

-- ---- a phase has begun in the connection that stands

-- Where a reselection began it, with its first row, in which the target also sets the phase lines (6.1.4); else with
-- the first row that changes them.
abbrev pub begun_after : Bool → Option Connection → Option Connection → Change → Bool
begun_after was before None c = false
begun_after was None (Some n) c = n.reselected
begun_after was (Some m) (Some n) c = changes_phase c || was

abbrev pub begun : List Row → Bool
begun [] = false
begun (row ∷ rows) = begun_after (begun rows) (connection rows) (connection (row ∷ rows)) (change_of rows row)

-- ---- what a row that did this makes of the messages, and of what pairs of devices agree on

-- Before it the messages said this.
abbrev pub agreed_after : RowEffect → Spoken → (ℕ → ℕ → Agreement) → ℕ → ℕ → Agreement
agreed_after e said agreed i t =
    if e.change.after.rst then asynchronous else closed_agreement_by e.before e.change.after.bsy said i t (agreed i t)

-- The row begins and ends neither a connection nor a phase, nor an agreement, and no byte crosses in it but
-- of DATA.
abbrev pub is_within_phase : RowEffect → Bool
is_within_phase e =
    is_some e.before && is_some e.after && e.change.after.bsy && not e.change.after.rst && not (changes_phase e.change)
    && (is_none e.receiver || is_data e.change.before)

-- ---- what a row tells

-- Of before the row: what the messages say, whether a phase had begun, how often REQ had risen in it, and whether a
-- fault struck the byte of the last of these.
abbrev pub hearing_by : Dialogue → Bool → ℕ → Bool → RowEffect → Hearing
hearing_by d begun offered struck e = record {
  change = e.change;
  crosses = is_some e.receiver;
  out = message_out d e.change (is_some e.receiver);
  into = message_in d e.change (is_some e.receiver);
  fault = e.fault;
  begun = begun;
  is_last = d.is_last;
  offered = offered;
  struck = struck;
}

-- What this row tells after these rows.
abbrev pub hearing : List Row → Row → Hearing
hearing rows row =
    hearing_by (dialogue rows) (begun rows) (handshakes rows).requests (handshakes rows).struck (effect (row ∷ rows))

-- What the last row told; before any row, nothing.
abbrev pub no_hearing : Hearing
no_hearing = hearing_by (opened asynchronous) false 0 false no_effect

abbrev pub last_hearing : List Row → Hearing
last_hearing [] = no_hearing
last_hearing (row ∷ rows) = hearing rows row

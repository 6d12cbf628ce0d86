-- The measure falls with each row at the edge of a phase of a connection, but for those with which a DATA phase begins
-- or is left.
use Rattle.measure_laws.proofs
use proofs.Names.{◌≡◌, ◌∙◌, true, List, ap, sym, change_of, changes_phase, is_data, Row, Connection, ScenarioValue}
use proofs.{Names.{run_state_plain}, Connections.Edges.{FallsOpening, LinkedRow, FallsStriking}}
use proofs.{Data.OutFalls.{attended_falls}, Turns.{Falls.{TurnRow}, Leavings.{FallsTurning, LeavingRow}}}
use proofs.Turns.{Leavings.{FallsWordsEntered}, Pays.{opening_falls, named_turn_falls}, Strikes.{strikes_falls}}
use proofs.Turns.Turned.{TurnedRow, opens_turns, turned_row}

-- ---- the first MESSAGE OUT begins

pub turn_row : (s : ScenarioValue) (p : List Row) (row : Row) (n : Connection) → LinkedRow s p row n
    → (w : TurnedRow s p row n) → changes_phase (change_of p row) ≡ true → TurnRow s p row n w.change
turn_row s p row n r w t = record {
  was = r.calm.was;
  goes = w.goes;
  lines = w.lines_go;
  lines_are = w.lines_are;
  turned = ap changes_phase w.change_is ∙ t;
  below = w.below;
  off = r.calm.off;
}

pub falls_opening : FallsOpening
falls_opening s p row n r h e =
    let w = turned_row s p row n r in
    let dv = r.calm.was.stood.standing.devices in
    opening_falls s p row n w.change (turn_row s p row n r w (opens_turns s p row n dv h e))
    ((run_state_plain s p dv).begun ∙ h.begun_is)

-- ---- a phase without data turns to another that is none of data, and not MESSAGE OUT

pub leaving_turn : (s : ScenarioValue) (p : List Row) (row : Row) (n : Connection)
    → (r : LeavingRow s p row n) → TurnRow s p row n r.turned.change
leaving_turn s p row n r = turn_row s p row n r.linked r.turned (ap changes_phase (sym r.turned.change_is) ∙ r.turns)

pub falls_turning : FallsTurning
falls_turning s p row n r other from into =
    let pl = r.linked.calm.was.stood.plain in
    named_turn_falls s p row n r.turned.change r.linked.calm.obeys r.linked.calm.prompt
    (leaving_turn s p row n r) r.linked.stands (pl.begun ∙ r.begun_is) (ap is_data pl.bus ∙ from) into other r.known

-- ---- a phase turns to MESSAGE OUT

pub falls_words : FallsWordsEntered
falls_words s p row n r out =
    let pl = r.linked.calm.was.stood.plain in
    attended_falls s p row n r.turned.change (leaving_turn s p row n r) (pl.begun ∙ r.begun_is) out

-- ---- a byte of a phase is struck

pub falls_striking : FallsStriking
falls_striking s p row n r e bit h b got who is =
    strikes_falls s p row n e bit r.calm.was.stood.standing.devices h b who is r.calm.least

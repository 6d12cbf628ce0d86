-- A row of a connection with which a phase begins or is left for another: what it knows, and that it turns the phase.
use Rattle.measure_laws.proofs
use proofs.Names.{ℕ, ◌≡◌, ◌<◌, ◌∙◌, Bool, true, false, ◌&&◌, List, ◌∷◌, Option, Some, None, refl, sym, ap, subst}
use proofs.Names.{same_Some, not, not_first, wrong, change_of, changes_phase, connection, connection_after, Row, Change}
use proofs.Names.{Connection, ScenarioValue, row_reading, Serving, phase_leaving, phase_of, lines_by, Leaving, Phase}
use proofs.Names.{AreOfDevices, IsPlain, RunState, run_state, serving_at, GoesOn, RowOf, apart, begins}
use proofs.Names.{row_ends as ends, goes_on, under_reset, change_plain, BeginsSelected, Linked, connected_bus}
use proofs.Names.{target_side, row_of_lines, offering_with, same_phases, target_moves, target_row, leaves_lines}
use proofs.Names.{may_leave, none_some, connection_row, Goes, RowFacts, ends_here, stays, freed_connection}
use proofs.Connections.Edges.{LinkedRow}
use Rattle.progress_laws.specs.link_laws.specs.Phases as stages

-- ---- such a row turns the phase

turned_to : (p : List Row) (t : ℕ) (n : Connection) (atn msg cd io : Bool) (x y : ℕ) (msg' cd' io' : Bool) (z : ℕ)
    → AreOfDevices p → Linked p n (stages.ends false false atn x msg cd io false y)
    → same_phases msg cd io msg' cd' io' ≡ false → changes_phase
    (change_of p (row_of_lines t n.target (target_side (stages.ends false false atn x msg' cd' io' false z)))) ≡ true
turned_to p t n atn msg cd io x y msg' cd' io' z dv h differs = ap changes_phase
    (target_moves p n (stages.ends false false atn x msg cd io false y) msg' cd' io' false z t h).change
    ∙ ap not differs

-- With the first MESSAGE OUT.
pub opens_turns : (s : ScenarioValue) (p : List Row) (row : Row) (n : Connection) → AreOfDevices p
    → BeginsSelected p n → row ≡ target_row row.time n (stages.ends false false true 0 true true false false 0)
    → changes_phase (change_of p row) ≡ true
opens_turns s p row n dv h e = ap (λ (r : Row). changes_phase (change_of p r)) e
    ∙ turned_to p row.time n true false false false 0 0 true true false 0 dv h.linked refl

leaves_in :
    (p : List Row) (t : ℕ) (n : Connection) (atn msg cd : Bool) (x y : ℕ) (v : Serving) (l : Leaving) (o : Option Phase)
    → AreOfDevices p → Linked p n (stages.ends false false atn x msg cd true false y)
    → may_leave msg cd true atn o ≡ true → connection (row_of_lines t n.target (lines_by v true l o) ∷ p) ≡ Some n
    → changes_phase (change_of p (row_of_lines t n.target (lines_by v true l o))) ≡ true
leaves_in p t n atn msg cd x y v l None dv h m on =
    none_some n (sym (freed_connection p t n (stages.ends false false atn x msg cd true false y) refl h) ∙ on)
leaves_in p t n atn msg cd x y v l (Some Phase.DataOut) dv h m on = turned_to p t n atn msg cd true x y false false
    false 0 dv h (not_first (same_phases msg cd true false false false) _ m)
leaves_in p t n atn msg cd x y v l (Some Phase.Command) dv h m on = turned_to p t n atn msg cd true x y false true false
    0 dv h (not_first (same_phases msg cd true false true false) _ m)
leaves_in p t n atn msg cd x y v l (Some Phase.MessageOut) dv h m on =
    turned_to p t n atn msg cd true x y true true false 0 dv h (not_first (same_phases msg cd true true true false) _ m)
leaves_in p t n atn msg cd x y v l (Some Phase.DataIn) dv h m on = turned_to p t n atn msg cd true x y false false true
    _ dv h (not_first (same_phases msg cd true false false true) _ m)
leaves_in p t n atn msg cd x y v l (Some Phase.Status) dv h m on =
    turned_to p t n atn msg cd true x y false true true _ dv h (not_first (same_phases msg cd true false true true) _ m)
leaves_in p t n atn msg cd x y v l (Some Phase.MessageIn) dv h m on =
    turned_to p t n atn msg cd true x y true true true _ dv h (not_first (same_phases msg cd true true true true) _ m)

leaves_out :
    (p : List Row) (t : ℕ) (n : Connection) (atn msg cd : Bool) (x y : ℕ) (v : Serving) (l : Leaving) (o : Option Phase)
    → AreOfDevices p → Linked p n (stages.ends false false atn x msg cd false false y)
    → may_leave msg cd false atn o ≡ true → connection (row_of_lines t n.target (lines_by v false l o) ∷ p) ≡ Some n
    → changes_phase (change_of p (row_of_lines t n.target (lines_by v false l o))) ≡ true
leaves_out p t n atn msg cd x y v l None dv h m on =
    none_some n (sym (freed_connection p t n (stages.ends false false atn x msg cd false false y) refl h) ∙ on)
leaves_out p t n atn msg cd x y v l (Some Phase.DataOut) dv h m on = turned_to p t n atn msg cd false x y false false
    false 0 dv h (not_first (same_phases msg cd false false false false) _ m)
leaves_out p t n atn msg cd x y v l (Some Phase.Command) dv h m on = turned_to p t n atn msg cd false x y false true
    false 0 dv h (not_first (same_phases msg cd false false true false) _ m)
leaves_out p t n atn msg cd x y v l (Some Phase.MessageOut) dv h m on = turned_to p t n atn msg cd false x y true true
    false 0 dv h (not_first (same_phases msg cd false true true false) _ m)
leaves_out p t n atn msg cd x y v l (Some Phase.DataIn) dv h m on = turned_to p t n atn msg cd false x y false false
    true 0 dv h (not_first (same_phases msg cd false false false true) _ m)
leaves_out p t n atn msg cd x y v l (Some Phase.Status) dv h m on = turned_to p t n atn msg cd false x y false true true
    0 dv h (not_first (same_phases msg cd false false true true) _ m)
leaves_out p t n atn msg cd x y v l (Some Phase.MessageIn) dv h m on =
    turned_to p t n atn msg cd false x y true true true 0 dv h (not_first (same_phases msg cd false true true true) _ m)

-- With which a phase is left, the connection going on.
pub leaves_turns : (s : ScenarioValue) (p : List Row) (row : Row) (n : Connection) (atn msg cd io : Bool) (x y : ℕ)
    → AreOfDevices p → Linked p n (stages.ends false false atn x msg cd io false y) → (msg && not cd) ≡ false → row
    ≡ row_of_lines row.time n.target (offering_with s p n true (stages.ends false false atn x msg cd io false y)).to
    → connection (row ∷ p) ≡ Some n → changes_phase (change_of p row) ≡ true
leaves_turns s p row n atn msg cd true x y dv h known e on =
    let b = connected_bus (stages.ends false false atn x msg cd true false y) in
    let v : Serving = serving_at s (run_state s p) n.target (phase_of b) in
    let l : Leaving = phase_leaving v atn (phase_of b) in
    ap (λ (r : Row). changes_phase (change_of p r)) e ∙ leaves_in p row.time n atn msg cd x y v l l.to dv h
    (leaves_lines v msg cd true atn x y known) (ap (λ (r : Row). connection (r ∷ p)) (sym e) ∙ on)
leaves_turns s p row n atn msg cd false x y dv h known e on =
    let b = connected_bus (stages.ends false false atn x msg cd false false y) in
    let v : Serving = serving_at s (run_state s p) n.target (phase_of b) in
    let l : Leaving = phase_leaving v atn (phase_of b) in
    ap (λ (r : Row). changes_phase (change_of p r)) e ∙ leaves_out p row.time n atn msg cd x y v l l.to dv h
    (leaves_lines v msg cd false atn x y known) (ap (λ (r : Row). connection (r ∷ p)) (sym e) ∙ on)

-- ---- what it knows

pub record TurnedRow (s : ScenarioValue) (p : List Row) (row : Row) (n : Connection) : Type 0 where
  pub change : Change
  pub goes : GoesOn s (run_state s p) row n change
  pub lines_go : Goes s p row n
  pub lines_are : lines_go.change ≡ change
  pub change_is : change ≡ change_of p row
  pub below : row.dev < 8

pub turned_row : (s : ScenarioValue) (p : List Row) (row : Row) (n : Connection) → LinkedRow s p row n
    → TurnedRow s p row n
turned_row s p row n r =
    by_facts (connection_row s p row n r.calm.obeys r.calm.prompt r.calm.was.stood r.stands r.calm.off r.off).facts
  where
    k : RunState
    k = run_state s p

    pl : IsPlain s p k
    pl = r.calm.was.stood.plain

    changed : (row_reading k.story.bus_state row).change ≡ change_of p row
    changed = change_plain s row p r.calm.was.stood.standing.devices r.calm.least.inside

    next_is : (row_reading k.story.bus_state row).next ≡ Some n
    next_is = (λ i. connection_after (pl.connection i) (pl.call i) (changed i) row) ∙ r.next

    calm : (row_reading k.story.bus_state row).change.after.rst ≡ false
    calm = ap (λ (x : Change). x.after.rst) changed ∙ r.off

    by_row : Goes s p row n → RowOf s k row → TurnedRow s p row n
    by_row f (apart a z) = none_some n (sym a ∙ pl.connection ∙ r.stands)
    by_row f (begins m b) = none_some n (sym b.first.connection_is ∙ pl.connection ∙ r.stands)
    by_row f (goes_on m c g) =
        let same : m ≡ n = same_Some m n (sym g.row_is.connection_is ∙ pl.connection ∙ r.stands) in
        record {
          change = c;
          goes = subst (λ (x : Connection). GoesOn s k row x c) same g;
          lines_go = f;
          lines_are = sym f.row_is.change_is ∙ g.row_is.change_is;
          change_is = sym g.row_is.change_is ∙ changed;
          below = r.calm.least.inside;
        }
    by_row f (ends m g) = none_some n (sym g.next_is ∙ next_is)
    by_row f (under_reset on z) = wrong (sym on ∙ calm)

    by_facts : RowFacts s p row n → TurnedRow s p row n
    by_facts (stays f) = by_row f r.calm.next.row_is
    by_facts (ends_here g) = none_some n (sym g.stopped ∙ r.next)

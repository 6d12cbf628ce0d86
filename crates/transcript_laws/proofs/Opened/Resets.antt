-- RST that ends a connection begins with the row: while RST is true a transcript keeps no connection open (6.2.2).
use Rattle.transcript_laws.proofs
use proofs.Names.{◌≡◌, ◌∙◌, ◌<◌, Bool, true, List, [], ◌∷◌, Option, None, refl, ap, ◌||◌, is_none, or_true, or_second}
use proofs.Names.{change_of, rises, bus, Change, Row, ScenarioValue, row_reading, run_state_plain, AreOfDevices}
use proofs.Names.{run_state, change_plain, by_bool, raises_or_stands, OpenedValue, transcribed}
use proofs.Standing.Opened.{opened_reset}

pub rst_none : (s : ScenarioValue) (rows : List Row) → AreOfDevices rows → (bus rows).rst ≡ true
    → (transcribed rows).opened ≡ None
rst_none s [] dv on = refl
rst_none s (row ∷ rows) dv on =
    let pl = run_state_plain s rows dv.1 in
    opened_reset s rows row (run_state s rows).story pl.story
    (ap (λ (c : Change). c.after.rst) (change_plain s row rows dv.1 dv.0) ∙ on)

pub rst_row : (s : ScenarioValue) (p : List Row) (row : Row) → AreOfDevices p → row.dev < 8 → (bus (row ∷ p)).rst ≡ true
    → (is_none (transcribed p).opened || rises (row_reading (run_state s p).story.bus_state row).change.own.rst
    (row_reading (run_state s p).story.bus_state row).change.next.rst) ≡ true
rst_row s p row dv lt on = by_bool (bus p).rst (λ e. ap (λ (o : Option OpenedValue). is_none o || up)
    (rst_none s p dv e)) (λ e. ap (λ (q : Bool). is_none (transcribed p).opened || q)
    (same ∙ or_second (bus p).rst (rises c.own.rst c.next.rst) (raises_or_stands p row lt on) e)
    ∙ or_true (is_none (transcribed p).opened))
  where
    c : Change
    c = change_of p row

    up : Bool
    up = rises (row_reading (run_state s p).story.bus_state row).change.own.rst
        (row_reading (run_state s p).story.bus_state row).change.next.rst

    same : up ≡ rises c.own.rst c.next.rst
    same = ap (λ (x : Change). rises x.own.rst x.next.rst) (change_plain s row p dv lt)

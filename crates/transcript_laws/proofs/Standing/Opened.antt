-- What the connection of a transcript is after a row: none under RST, a new one, or the one that stood, with what the
-- row shows.
use Rattle.transcript_laws.proofs
use proofs.Names.{◌≡◌, ◌∙◌, Bool, true, false, List, ◌∷◌, Option, Some, None, refl, sym, ap, subst, ◌&&◌, same_Some}
use proofs.Names.{is_some, if◌then◌else◌, changes_phase, is_fault, Connection, Kind, Row, ScenarioValue, BusState}
use proofs.Names.{RowReading, row_reading, Story, story, none_some, OpenedValue, opened_connection, with_part}
use proofs.Names.{with_crossing, phase_entered, phase_over, is_completion, with_fault, with_row, TranscriberValue}
use proofs.Names.{closed_by, closed_if, under_reset, on_bus, by_change, transcribed, Completion}
use proofs.Standing.Buses.{IsAlike, reading_same, buses_alike}
use Rattle.bus_transcript.specs.Rows.{in_connection}

-- ---- under RST

closed_none : (t : TranscriberValue) (o : Option OpenedValue) (d : RowReading) (free : Bool) → t.opened ≡ o
    → (closed_if t o d free).opened ≡ None
unfolding closed_by
closed_none t None d free e = e
closed_none t (Some v) d free e = refl

reset_none : (t : TranscriberValue) (d : RowReading) (row : Row) → d.change.after.rst ≡ true
    → (by_change t d row).opened ≡ None
unfolding by_change
reset_none t d row on =
    (λ i. (if on i then under_reset t d row else on_bus t t.bus_state.connection d.next d row).opened)
    ∙ closed_none t t.opened d false refl

-- ---- in a connection

first_opened : (t : TranscriberValue) (d : RowReading) (row : Row) (n : Connection) → d.change.after.rst ≡ false
    → t.bus_state.connection ≡ None → d.next ≡ Some n → (by_change t d row).opened ≡ Some (opened_connection n)
unfolding by_change
first_opened t d row n off con next =
    λ i. (if off i then under_reset t d row else on_bus t (con i) (next i) d row).opened

next_opened : (t : TranscriberValue) (d : RowReading) (row : Row) (m n : Connection)
    → d.change.after.rst ≡ false → t.bus_state.connection ≡ Some m → d.next ≡ Some n
    → (by_change t d row).opened ≡ (in_connection t t.opened d row.kind).opened
unfolding by_change
next_opened t d row m n off con next =
    λ i. (if off i then under_reset t d row else on_bus t (con i) (next i) d row).opened

pub row_same : (o : OpenedValue) (w v : BusState) (d : RowReading) (kind : Kind) → IsAlike w v
    → with_row o w d kind ≡ with_row o v d kind
row_same o w v d kind h = λ i. if d.crosses then with_crossing o (h.is_last i) d
    else if changes_phase d.change then phase_entered (phase_over o d.change.before (h.half i) true) d.change.after
    else if is_completion o (h.half i) d.change then with_part o Completion
    else with_fault o (is_fault kind && is_some (h.crossed i))

-- ---- of a story

alike_to : (s : ScenarioValue) (rows : List Row) (b : Story) → b ≡ story s rows
    → IsAlike (transcribed rows).bus_state b.bus_state
alike_to s rows b e =
    subst (λ (x : Story). IsAlike (transcribed rows).bus_state x.bus_state) (sym e) (buses_alike s rows)

reading_to : (s : ScenarioValue) (rows : List Row) (row : Row) (b : Story) → b ≡ story s rows
    → row_reading (transcribed rows).bus_state row ≡ row_reading b.bus_state row
reading_to s rows row b e = reading_same (transcribed rows).bus_state b.bus_state row (alike_to s rows b e)

pub opened_reset : (s : ScenarioValue) (rows : List Row) (row : Row) (b : Story) → b ≡ story s rows
    → (row_reading b.bus_state row).change.after.rst ≡ true → (transcribed (row ∷ rows)).opened ≡ None
opened_reset s rows row b e on = reset_none (transcribed rows) (row_reading (transcribed rows).bus_state row) row
    (ap (λ (d : RowReading). d.change.after.rst) (reading_to s rows row b e) ∙ on)

pub opened_first : (s : ScenarioValue) (rows : List Row) (row : Row) (b : Story) (n : Connection)
    → b ≡ story s rows → (row_reading b.bus_state row).change.after.rst ≡ false → b.bus_state.connection ≡ None
    → (row_reading b.bus_state row).next ≡ Some n → (transcribed (row ∷ rows)).opened ≡ Some (opened_connection n)
opened_first s rows row b n e off con next =
    let same = reading_to s rows row b e in
    first_opened (transcribed rows) (row_reading (transcribed rows).bus_state row) row n
    (ap (λ (d : RowReading). d.change.after.rst) same ∙ off) ((alike_to s rows b e).connection ∙ con)
    (ap (λ (d : RowReading). d.next) same ∙ next)

on_opened : (s : ScenarioValue) (rows : List Row) (row : Row) (b : Story) (m n : Connection) → b ≡ story s rows
    → (row_reading b.bus_state row).change.after.rst ≡ false → b.bus_state.connection ≡ Some m
    → (row_reading b.bus_state row).next ≡ Some n → (transcribed (row ∷ rows)).opened
    ≡ (in_connection (transcribed rows) (transcribed rows).opened (row_reading b.bus_state row) row.kind).opened
on_opened s rows row b m n e off con next =
    let same = reading_to s rows row b e in
    next_opened (transcribed rows) (row_reading (transcribed rows).bus_state row) row m n
    (ap (λ (d : RowReading). d.change.after.rst) same ∙ off)
    ((alike_to s rows b e).connection ∙ con) (ap (λ (d : RowReading). d.next) same ∙ next)
    ∙ ap (λ (d : RowReading). (in_connection (transcribed rows) (transcribed rows).opened d row.kind).opened) same

-- What stands after the row was there before it.
pub record WasOpened (rows : List Row) (row : Row) (b : Story) (o : OpenedValue) : Type 0 where
  pub before : OpenedValue
  pub before_is : (transcribed rows).opened ≡ Some before
  pub after_is : o ≡ with_row before b.bus_state (row_reading b.bus_state row) row.kind

pub was_opened : (s : ScenarioValue) (rows : List Row) (row : Row) (b : Story) (m n : Connection) (v : OpenedValue)
    → b ≡ story s rows → (row_reading b.bus_state row).change.after.rst ≡ false → b.bus_state.connection ≡ Some m
    → (row_reading b.bus_state row).next ≡ Some n → (transcribed (row ∷ rows)).opened ≡ Some v → WasOpened rows row b v
was_opened s rows row b m n v e off con next there = go (transcribed rows).opened refl
  where
    d : RowReading
    d = row_reading b.bus_state row

    t : TranscriberValue
    t = transcribed rows

    go : (o : Option OpenedValue) → t.opened ≡ o → WasOpened rows row b v
    go None f = none_some v (sym (on_opened s rows row b m n e off con next
        ∙ ap (λ (o : Option OpenedValue). (in_connection t o d row.kind).opened) f ∙ f) ∙ there)
    go (Some x) f = record {
      before = x;
      before_is = f;
      after_is = same_Some v (with_row x b.bus_state d row.kind) (sym there ∙ on_opened s rows row b m n e off con next
          ∙ ap (λ (o : Option OpenedValue). (in_connection t o d row.kind).opened) f
          ∙ ap (λ (y : OpenedValue). Some y) (row_same x t.bus_state b.bus_state d row.kind (alike_to s rows b e)));
    }

-- A process fails, or is lost, with a row only where its target gives it up.
use Rattle.dialogue_laws.proofs
use proofs.Names.{ℕ, ◌≡◌, true, false, ◌&&◌, ◌||◌, ◌∙◌, List, ◌∷◌, Option, Some, sym, ap, and_parts, is_none, is_some}
use proofs.Names.{Event, ProcId, connection, Row, Connection, ScenarioValue, Obeys, Process, process_of, RowReading}
use proofs.Names.{row_reading, phase_of, run_state_plain, IsPrompt, RunState, bus_of, events_of_row, run_state, leaving}
use proofs.Names.{is_true_telling, telling, failure_is, loss_by, lost_calm, has_event, gives_up, is_failure}
use proofs.Names.{is_left_as_due, is_left_by, is_loss, left_as_due, Whole, whole}

told_row : (s : ScenarioValue) (p : List Row) (row : Row) → Whole s (row ∷ p)
    → is_true_telling s (run_state s p) row (row_reading (run_state s p).story.bus_state row) ≡ true
told_row s p row now = (and_parts (telling s p)
    (is_true_telling s (run_state s p) row (row_reading (run_state s p).story.bus_state row)) now.told).1

pub fails_so : (s : ScenarioValue) (p : List Row) (row : Row) (n : Connection) (id : ProcId) (code : ℕ) → Obeys s
    → IsPrompt s (row ∷ p) → connection p ≡ Some n → has_event (events_of_row s p row) (Event.Fail id code) ≡ true
    → (is_failure (run_state s p).exchange.plan.cause code (phase_of (bus_of (run_state s p))) && gives_up s p row n id)
    ≡ true
fails_so s p row n id code o prompt con has = failure_is s p row n id code
    ((run_state_plain s p (whole s p o prompt.0).stood.standing.devices).connection ∙ con)
    (told_row s p row (whole s (row ∷ p) o prompt)) has

pub loses_so : (s : ScenarioValue) (p : List Row) (row : Row) (n : Connection) (q : Process)
    → Obeys s → IsPrompt s (row ∷ p) → connection p ≡ Some n → process_of s q.id ≡ Some q
    → has_event (events_of_row s p row) (Event.Lost q.id) ≡ true
    → (is_loss (run_state s p).exchange.plan.cause (phase_of (bus_of (run_state s p))) && gives_up s p row n q.id)
    ≡ true
loses_so s p row n q o prompt con own has =
    loss_by s p row n q standing told own (λ e. free e) has
  where
    k : RunState
    k = run_state s p

    d : RowReading
    d = row_reading k.story.bus_state row

    now : Whole s (row ∷ p)
    now = whole s (row ∷ p) o prompt

    standing : k.story.bus_state.connection ≡ Some n
    standing = (run_state_plain s p (whole s p o prompt.0).stood.standing.devices).connection ∙ con

    told : is_true_telling s k row d ≡ true
    told = told_row s p row now

    left : (d.change.after.rst || is_some d.next || is_none (leaving s k n.target).to) ≡ true
    left = ap (λ (x : Option Connection). is_left_by s k d x) (sym standing)
        ∙ (and_parts (left_as_due s p) (is_left_as_due s k d) now.left).1

    free : is_some d.next ≡ false → is_none (leaving s k n.target).to ≡ true
    free e = (λ i. (sym (lost_calm s k row d q.id told has) i || sym e i || is_none (leaving s k n.target).to)) ∙ left

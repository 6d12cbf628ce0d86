-- Row by row: a process fails, or is lost, as its target gives it up (6.6.10, 6.6.13, 6.6.19).
use Rattle.delivery_laws.proofs
use proofs.Names.{ℕ, ◌≡◌, true, false, ◌&&◌, ◌||◌, ◌∙◌, List, ◌∷◌, Option, Some, None, refl, sym, ap, is_none, is_some}
use proofs.Names.{and_second, wrong', Event, ProcId, change_of, LineSet, connection, connection_after, bus, Row, Change}
use proofs.Names.{Connection, ScenarioValue, Obeys, Process, process_of, RowReading, row_reading, row_events_by, Story}
use proofs.Names.{row_events, story, phase_of, Phase, run_state_plain, IsPrompt, IsPlain, RunState, bus_of, run_state}
use proofs.Names.{leaving, is_true_telling, telling, has_event, gives_up, is_failure, is_left_as_due, is_left_by}
use proofs.Names.{is_loss, left_as_due, change_plain, least_is, whole}

-- What the laws of the books say of such a row (give_ups_have_causes).
abbrev pub AreFailures : Type 0
AreFailures = (s : ScenarioValue) (rows : List Row) (row : Row) (n : Connection) (id : ProcId) (code : ℕ)
    → (run_state s rows).story.bus_state.connection ≡ Some n
    → is_true_telling s (run_state s rows) row (row_reading (run_state s rows).story.bus_state row) ≡ true
    → has_event (row_events_by s (run_state s rows).story (row_reading (run_state s rows).story.bus_state row) row)
    (Event.Fail id code) ≡ true
    → (is_failure (run_state s rows).exchange.plan.cause code (phase_of (bus_of (run_state s rows)))
    && gives_up s rows row n id) ≡ true

abbrev pub AreLosses : Type 0
AreLosses = (s : ScenarioValue) (rows : List Row) (row : Row) (n : Connection) (c : Process)
    → (run_state s rows).story.bus_state.connection ≡ Some n
    → is_true_telling s (run_state s rows) row (row_reading (run_state s rows).story.bus_state row) ≡ true
    → process_of s c.id ≡ Some c → (leaving s (run_state s rows) n.target).to ≡ None
    → has_event (row_events_by s (run_state s rows).story (row_reading (run_state s rows).story.bus_state row) row)
    (Event.Lost c.id) ≡ true
    → (is_loss (run_state s rows).exchange.plan.cause (phase_of (bus_of (run_state s rows)))
    && gives_up s rows row n c.id) ≡ true

plain : (s : ScenarioValue) (p : List Row) (row : Row) → Obeys s → IsPrompt s (row ∷ p) → IsPlain s p (run_state s p)
plain s p row o prompt = run_state_plain s p (whole s p o prompt.0).stood.standing.devices

told_row : (s : ScenarioValue) (p : List Row) (row : Row) → telling s (row ∷ p) ≡ true
    → is_true_telling s (run_state s p) row (row_reading (run_state s p).story.bus_state row) ≡ true
told_row s p row tell = and_second (telling s p)
    (is_true_telling s (run_state s p) row (row_reading (run_state s p).story.bus_state row)) tell

pub failed_by : (s : ScenarioValue) (p : List Row) (row : Row) (n : Connection) (id : ProcId) (code : ℕ)
    → AreFailures → telling s (row ∷ p) ≡ true → Obeys s → IsPrompt s (row ∷ p)
    → connection p ≡ Some n → has_event (row_events s (story s p) row) (Event.Fail id code) ≡ true
    → (is_failure (run_state s p).exchange.plan.cause code (phase_of (bus p)) && gives_up s p row n id) ≡ true
failed_by s p row n id code law tell o prompt con e =
    let k : RunState = run_state s p in
    let pl : IsPlain s p k = plain s p row o prompt in
    ap (λ (l : LineSet). is_failure k.exchange.plan.cause code (phase_of l) && gives_up s p row n id) (sym pl.bus)
    ∙ law s p row n id code (pl.connection ∙ con) (told_row s p row tell)
    (ap (λ (b : Story). has_event (row_events s b row) (Event.Fail id code)) pl.story ∙ e)

-- It goes to BUS FREE as it is due to.
freed : (s : ScenarioValue) (p : List Row) (row : Row) (n : Connection) → Obeys s → IsPrompt s (row ∷ p)
    → left_as_due s (row ∷ p) ≡ true → connection p ≡ Some n → connection (row ∷ p) ≡ None → (bus (row ∷ p)).rst ≡ false
    → (leaving s (run_state s p) n.target).to ≡ None
freed s p row n o prompt left con over calm =
    none_is (leaving s k n.target).to (at (and_second (left_as_due s p) (is_left_as_due s k d) left))
  where
    k : RunState
    k = run_state s p

    d : RowReading
    d = row_reading k.story.bus_state row

    pl : IsPlain s p k
    pl = plain s p row o prompt

    change : d.change ≡ change_of p row
    change = change_plain s row p (whole s p o prompt.0).stood.standing.devices (least_is s p row prompt.1).inside

    next : d.next ≡ None
    next = (λ i. connection_after (pl.connection i) (pl.call i) (change i) row) ∙ over

    off : d.change.after.rst ≡ false
    off = ap (λ (c : Change). c.after.rst) change ∙ calm

    at : is_left_by s k d k.story.bus_state.connection ≡ true → is_none (leaving s k n.target).to ≡ true
    at e = sym ((λ i. is_left_by s k d ((pl.connection ∙ con) i))
        ∙ (λ i. off i || is_some (next i) || is_none (leaving s k n.target).to))
        ∙ e

    none_is : (x : Option Phase) → is_none x ≡ true → x ≡ None
    none_is None e = refl
    none_is (Some y) e = wrong' e

pub lost_by : (s : ScenarioValue) (p : List Row) (row : Row) (n : Connection) (q : Process) → AreLosses
    → telling s (row ∷ p) ≡ true → left_as_due s (row ∷ p) ≡ true → Obeys s → IsPrompt s (row ∷ p)
    → connection p ≡ Some n → connection (row ∷ p) ≡ None → (bus (row ∷ p)).rst ≡ false
    → process_of s q.id ≡ Some q → has_event (row_events s (story s p) row) (Event.Lost q.id) ≡ true
    → (is_loss (run_state s p).exchange.plan.cause (phase_of (bus p)) && gives_up s p row n q.id) ≡ true
lost_by s p row n q law tell left o prompt con over calm own e =
    let k : RunState = run_state s p in
    let pl : IsPlain s p k = plain s p row o prompt in
    ap (λ (l : LineSet). is_loss k.exchange.plan.cause (phase_of l) && gives_up s p row n q.id) (sym pl.bus)
    ∙ law s p row n q (pl.connection ∙ con) (told_row s p row tell) own (freed s p row n o prompt left con over calm)
    (ap (λ (b : Story). has_event (row_events s b row) (Event.Lost q.id)) pl.story ∙ e)

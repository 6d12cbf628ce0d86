-- In a scenario without resets no row drives RST, and without aborts too its history has neither a reset nor an abort
-- (6.2.2, 6.6).
use Rattle.delivery_laws.proofs
use proofs.Names.{ℕ, ◌≡◌, Bool, true, false, not, ◌&&◌, ◌∙◌, List, [], ◌∷◌, ◌++◌, Option, Some, None, refl, sym, ap}
use proofs.Names.{inl, inr, and_from, cases_Bool, list_all, list_any, if◌then◌else◌, is_some, wrong, wrong', and_false}
use proofs.Names.{and_first, and_second, Event, rises, LineSet, none, changes_phase, is_command, bus, union_below, Row}
use proofs.Names.{Change, Connection, ScenarioValue, Obeys, AbortDef, ResetDef, array_after, RowReading, row_reading}
use proofs.Names.{CarriedBytes, is_whole_block, is_status_phase, abort_line_at, abort_line_events, bus_free_events}
use proofs.Names.{carried_if, end_events, is_completion, is_refuse, item_abort_events, item_loss_events, link_events}
use proofs.Names.{phase_events, queue_events, row_events_by, status_event, status_events, Item, process, abort, Link}
use proofs.Names.{LastMessage, plain, complete, disconnect, abortive, latency_of, Story, rst_assertion, reset_from}
use proofs.Names.{IsLeast, due, IsPrompt, own_of, RunState, run_state, obeys_fits, change_plain, from_withdrawn}
use proofs.Names.{from_answered, from_resumed, from_arbitration, from_calls, from_asking, least_is, from_free, from_won}
use proofs.Names.{obeys_latencies, reset_due, reset_due_if, unreset_due, HasShortLatencies, CalmStanding, BusStage}
use proofs.Names.{on_free_bus, in_arbitration, after_arbitration, with_both_ids, awaiting_answer, after_withdrawal}
use proofs.Names.{after_answer, after_takeover, in_reset, in_connection, is_connected, from_link, AfterLink, frees}
use proofs.Names.{runs_are_short, link_calm, KeepsBooksIn, AnyStage, linked, none_some, Stood, whole, CalmRow, resets}
use proofs.Names.{reacts, calm_row, is_calm_event}
use Rattle.progress_laws.specs.link_laws.specs.LinkStages.{apart}
use Rattle.progress_laws.specs.link_laws.proofs.Phases.Ends.{goes_on}

-- ---- no row drives RST

no_reset : (s : ScenarioValue) (p : List Row) (d : ℕ) → s.resets ≡ [] → reset_due s p d ≡ None
no_reset s p d e = go (latency_of s d)
  where
    go : (o : Option ℕ) → reset_due_if s p d o ≡ None
    go None = refl
    go (Some lat) = ap (λ (x : List ResetDef). rst_assertion (reset_from d (own_of p d).released x)) e

-- A row that is due without resets, while no connection stands.
pub apart_calm : (s : ScenarioValue) (p : List Row) (row : Row) → HasShortLatencies s → (bus p).rst ≡ false
    → is_connected p ≡ false → CalmStanding s p → IsLeast (unreset_due s p) 8 row → BusStage s p
    → (bus (row ∷ p)).rst ≡ false
apart_calm s p row fits calm alone a l (on_free_bus h) = (from_free s p row a h l).calm
apart_calm s p row fits calm alone a l (in_arbitration x h) = (from_arbitration s p x row a h l).calm
apart_calm s p row fits calm alone a l (after_arbitration c t h) = (from_won s p c t row fits a h l).calm
apart_calm s p row fits calm alone a l (with_both_ids g c k t0 t e h) = (from_calls s p g c k t0 t row a e h l).calm
apart_calm s p row fits calm alone a l (awaiting_answer v g c k t0 t1 t2 x h) =
    (from_asking s p v g c k t0 t1 t2 x row fits a h l).calm
apart_calm s p row fits calm alone a l (after_withdrawal v g c k t0 t1 t2 t3 e h) =
    (from_withdrawn s p v g c k t0 t1 t2 t3 row a e h l).calm
apart_calm s p row fits calm alone a l (after_answer g c k t0 t1 t2 t3 x h) =
    (from_answered s p g c k t0 t1 t2 t3 x row a h l).calm
apart_calm s p row fits calm alone a l (after_takeover c k t0 t1 t2 t3 t4 x e f h) =
    (from_resumed s p c k t0 t1 t2 t3 t4 x row a e f h l).calm
apart_calm s p row fits calm alone a l (in_reset h) = wrong (sym h.reset ∙ calm)
apart_calm s p row fits calm alone a l (in_connection n e off h) =
    wrong (sym (λ i. is_some (e i) && not (off i)) ∙ alone)

pub after_calm : (s : ScenarioValue) (p : List Row) (row : Row) (n : Connection) → AfterLink s p row n
    → (bus (row ∷ p)).rst ≡ false
after_calm s p row n (goes_on g) = link_calm s (row ∷ p) n g.stage
after_calm s p row n (frees g) = ap (λ (l : LineSet). l.rst) g.here.stands.bus_is

pub unasked : (p : List Row) (row : Row) → (bus (row ∷ p)).rst ≡ true → KeepsBooksIn p row
unasked p row on now = wrong' (sym (and_false (is_connected p)) ∙ (λ i. is_connected p && not (sym on i)) ∙ now)

calm_next : (s : ScenarioValue) (p : List Row) (row : Row) → Obeys s → s.resets ≡ [] → IsPrompt s (row ∷ p) → Stood s p
    → (bus p).rst ≡ false → (bus (row ∷ p)).rst ≡ false
calm_next s p row o none prompt was calm =
    elim (cases_Bool ((bus (row ∷ p)).rst)) [ inl f ↦ by_row f (calm_row s p row was.standing calm m) | inr f ↦ f ]
  where
    m : IsLeast (due s p) 8 row
    m = least_is s p row prompt.1

    fits : HasShortLatencies s
    fits = obeys_latencies s o

    by_stage : (bus (row ∷ p)).rst ≡ true → CalmStanding s p → IsLeast (unreset_due s p) 8 row → AnyStage s p
        → (bus (row ∷ p)).rst ≡ false
    by_stage on always least (apart h alone) = apart_calm s p row fits calm alone always least h
    by_stage on always least (linked n h) = after_calm s p row n (from_link s p row n fits
        (runs_are_short s (obeys_fits s o)) always was.standing.there h (unasked p row on) least)

    by_row : (bus (row ∷ p)).rst ≡ true → CalmRow s p row → (bus (row ∷ p)).rst ≡ false
    by_row on (resets off r e) = none_some _ (sym (no_reset s p row.dev none) ∙ r)
    by_row on (reacts always least) = by_stage on always least was.here

calm_first : (bus []).rst ≡ false
unfolding union_below
calm_first = refl

pub calm_bus : (s : ScenarioValue) (p : List Row) → Obeys s → s.resets ≡ [] → IsPrompt s p → (bus p).rst ≡ false
calm_bus s [] o unreset prompt = calm_first
calm_bus s (row ∷ p) o unreset prompt =
    calm_next s p row o unreset prompt (whole s p o prompt.0).stood (calm_bus s p o unreset prompt.0)

-- ---- the events of a row

abbrev pub AreCalm : List Event → Type 0
AreCalm h = list_all (λ (e : Event). is_calm_event e) h ≡ true

pub calm_both : (xs ys : List Event) → AreCalm xs → AreCalm ys → AreCalm (xs ++ ys)
calm_both [] ys h g = g
calm_both (x ∷ xs) ys h g = and_from (is_calm_event x) (list_all (λ (e : Event). is_calm_event e) (xs ++ ys))
    (and_first (is_calm_event x) (list_all (λ (e : Event). is_calm_event e) xs) h)
    (calm_both xs ys (and_second (is_calm_event x) (list_all (λ (e : Event). is_calm_event e) xs) h) g)

queue_calm : (s : ScenarioValue) (b : Story) (c : Option CarriedBytes) (before : LineSet)
    → AreCalm (queue_events s b c before)
queue_calm s b None before = refl
queue_calm s b (Some k) before =
    go (is_command before && is_whole_block k) (is_some (array_after s (Event.Accept k.id ∷ b.history)))
  where
    go : (q r : Bool) → AreCalm (if q then (if r then Event.Accept k.id else Event.Refuse k.id) ∷ [] else [])
    go true true = refl
    go _ _ = refl

status_calm : (c : Option CarriedBytes) (after : LineSet) (arrived : List Event) → AreCalm arrived
    → AreCalm (status_events c after arrived)
status_calm None after arrived h = h
status_calm (Some k) after arrived h =
    go (is_status_phase after && not k.shown && not k.refused && not (list_any (λ e. is_refuse e) arrived)) k.failure
  where
    go : (q : Bool) (f : Option ℕ) → AreCalm (if q then status_event k.id f ∷ arrived else arrived)
    go true None = h
    go _ _ = h

end_calm : (c : Option CarriedBytes) → AreCalm (end_events c)
end_calm None = refl
end_calm (Some k) = refl

loss_calm : (item : Option Item) → AreCalm (item_loss_events item)
loss_calm None = refl
loss_calm (Some (process id)) = refl
loss_calm (Some (abort k)) = refl

abort_calm : (s : ScenarioValue) (item : Option Item) → s.aborts ≡ [] → AreCalm (item_abort_events s item)
abort_calm s None e = refl
abort_calm s (Some (process id)) e = refl
abort_calm s (Some (abort k)) e =
    ap (λ (x : List AbortDef). list_all (λ (y : Event). is_calm_event y) (abort_line_events (abort_line_at x k))) e

free_calm : (s : ScenarioValue) (l : Link) (last : LastMessage) → s.aborts ≡ [] → AreCalm (bus_free_events s l last)
free_calm s l plain e = loss_calm l.item
free_calm s l complete e = refl
free_calm s l disconnect e = refl
free_calm s l abortive e = abort_calm s l.item e

link_calm_events : (s : ScenarioValue) (b : Story) (o : Option Link) (d : RowReading) → s.aborts ≡ []
    → AreCalm (link_events s b o d)
link_calm_events s b None d e = refl
link_calm_events s b (Some l) d e = go (is_some d.next) (changes_phase d.change) (is_completion l d.change)
  where
    go : (q r t : Bool) → AreCalm (if q then (if r then phase_events s b (carried_if b l.item) d.change
        else if t then end_events (carried_if b l.item) else []) else bus_free_events s l l.last)
    go true true t = status_calm (carried_if b l.item) d.change.after
        (queue_events s b (carried_if b l.item) d.change.before) (queue_calm s b (carried_if b l.item) d.change.before)
    go true false true = end_calm (carried_if b l.item)
    go true false false = refl
    go false r t = free_calm s l l.last e

row_calm : (s : ScenarioValue) (b : Story) (d : RowReading) (row : Row) → s.aborts ≡ [] → d.change.after.rst ≡ false
    → AreCalm (row_events_by s b d row)
row_calm s b d row e off = ap (λ (q : Bool). list_all (λ (y : Event). is_calm_event y)
    (if q then (if rises d.change.own.rst d.change.next.rst then Event.Reset row.dev ∷ [] else [])
    else link_events s b b.link d)) off ∙ link_calm_events s b b.link d e

-- ---- all rows

pub calm_history : (s : ScenarioValue) (p : List Row) → Obeys s → s.resets ≡ [] → s.aborts ≡ [] → IsPrompt s p
    → AreCalm (run_state s p).story.history
calm_history s [] o unreset alone prompt = refl
calm_history s (row ∷ p) o unreset alone prompt =
    let k : RunState = run_state s p in
    let d : RowReading = row_reading k.story.bus_state row in
    let off : d.change.after.rst ≡ false = ap (λ (x : Change). x.after.rst)
    (change_plain s row p (whole s p o prompt.0).stood.standing.devices (least_is s p row prompt.1).inside)
    ∙ calm_bus s (row ∷ p) o unreset prompt in
    calm_both (row_events_by s k.story d row) k.story.history (row_calm s k.story d row alone off)
    (calm_history s p o unreset alone prompt.0)

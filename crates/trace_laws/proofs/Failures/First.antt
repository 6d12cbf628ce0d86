-- The code of the failure of the process that is served, after the first row of a connection: nothing can be brought
-- back.
use Rattle.trace_laws.proofs
use proofs.Names.{◌≡◌, ◌<◌, Bool, true, false, not, ◌&&◌, ◌∙◌, List, ◌∷◌, Some, None, sym, ap, subst, if◌then◌else◌}
use proofs.Names.{wrong, ProcId, change_of, connection, connection_after, bus, Row, Change, Connection, ScenarioValue}
use proofs.Names.{Obeys, events_link, row_reading, row_events_by, process, aim_of, story_by_change, story_on_bus}
use proofs.Names.{no_messages, phase_of, first_plan, Next, Phase, run_state_plain, IsPrompt, IsPlain, AreOfDevices}
use proofs.Names.{RunState, bus_of, carried_here, run_state, exchange_after, leaving_of, may_negotiate, messages_if}
use proofs.Names.{ready_of, change_plain, least_is, BeginsConnection, by_selection, by_reselection, RowKindOf}
use proofs.Names.{begins_now, goes_now, row_kind, IsFirst, Stood, NextStood, undo_of, undo_first, TellFacts, IsClear}
use proofs.{Names.{UndoesClear, FailTalks, FailFacts, SentAsLeft}, Failures.Crossed.{CrossedFacts}}
use proofs.Failures.Facts.{fail_first, fail_goes}

-- What is asked of it.
abbrev pub BeginsClear : ScenarioValue → List Row → Row → Type 0
BeginsClear s p row =
    (n : Connection) (id : ProcId) → connection p ≡ None → connection (row ∷ p) ≡ Some n → (bus (row ∷ p)).rst ≡ false
    → (run_state s (row ∷ p)).served ≡ Some (process id) → IsClear (carried_here (run_state s (row ∷ p)) id)

pub fail_begins : (s : ScenarioValue) (p : List Row) (row : Row) (n : Connection) → AreOfDevices p → row.dev < 8
    → connection p ≡ None → connection (row ∷ p) ≡ Some n → (bus (row ∷ p)).rst ≡ false → IsFirst s p row n
    → BeginsClear s p row → FailTalks (run_state s (row ∷ p))
fail_begins s p row n dv lt alone after calm f clears l id el served =
    fail_first j l id (clears n id alone after calm served) undoes (at f.begins)
  where
    k : RunState
    k = run_state s p

    j : RunState
    j = run_state s (row ∷ p)

    pl : IsPlain s p k
    pl = run_state_plain s p dv

    ql : IsPlain s (row ∷ p) j
    ql = run_state_plain s (row ∷ p) (lt, dv)

    change : (row_reading k.story.bus_state row).change ≡ change_of p row
    change = change_plain s row p dv lt

    con : k.story.bus_state.connection ≡ None
    con = pl.connection ∙ alone

    next : (row_reading k.story.bus_state row).next ≡ Some n
    next = (λ i. connection_after (pl.connection i) (pl.call i) (change i) row) ∙ after

    none : undo_of j.story.link ≡ None
    none = ap undo_of (events_link s (story_by_change s k.story (row_reading k.story.bus_state row) row)
        (row_events_by s k.story (row_reading k.story.bus_state row) row))
        ∙ ap (λ (q : Bool). undo_of
        (if q then record k.story { link = None } else story_on_bus s k.story k.story.bus_state.connection
        (row_reading k.story.bus_state row).next (row_reading k.story.bus_state row) row).link)
        (ap (λ (x : Change). x.after.rst) change ∙ calm)
        ∙ (λ i. undo_of (story_on_bus s k.story (con i) (next i) (row_reading k.story.bus_state row) row).link)
        ∙ undo_first k.story n

    undoes : UndoesClear l.undo
    undoes = subst UndoesClear (sym (sym (ap undo_of el) ∙ none)) tt

    at : BeginsConnection (row ∷ p) n → j.exchange.begun ≡ true
        → (phase_of (bus_of j) ≡ Phase.MessageIn) × (j.exchange.plan.next ≡ Next.GoOn)
    at (by_selection h) b = wrong (sym b ∙ ql.begun ∙ h.begun_is)
    at (by_reselection y h) b =
        let re : n.reselected ≡ true = sym f.begun_is ∙ h.begun_is in (
          ap phase_of (ql.bus ∙ h.linked.stands.bus_is),
          (λ i. (exchange_after s k row (row_reading k.story.bus_state row) (con i)
              (next i) (leaving_of s k k.story.bus_state.connection)).plan.next)
              ∙ ap (λ (r : Bool). (first_plan r (not r && may_negotiate k n (aim_of k.story.aims n.initiator))
              (if r then messages_if (ready_of s k n.target) else no_messages)).next) re,
        )

-- Any row of a prompt trace.
pub fail_rows : (s : ScenarioValue) (p : List Row) (row : Row) → Obeys s → IsPrompt s (row ∷ p) → Stood s p
    → NextStood s p row → TellFacts s p → CrossedFacts s p → SentAsLeft s p row → BeginsClear s p row → FailFacts s p
    → FailFacts s (row ∷ p)
fail_rows s p row o prompt was next facts crossed sent clears h n after calm =
    go (row_kind s p row n o prompt was after calm)
  where
    go : RowKindOf s p row n → FailTalks (run_state s (row ∷ p))
    go (begins_now alone f) =
        fail_begins s p row n was.standing.devices (least_is s p row prompt.1).inside alone after calm f clears
    go (goes_now con off) = fail_goes s p row n o prompt was next facts crossed sent con off after calm h

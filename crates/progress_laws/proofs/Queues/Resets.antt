-- While RST is true no command is open: with the row that raises it every command that was sent is over, and none is
-- sent (6.2.2).
use Rattle.progress_laws.proofs
use proofs.Names.{ℕ, ◌≡◌, ◌<◌, Bool, true, false, not, ◌∙◌, List, [], ◌∷◌, Some, None, refl, sym, ap, inl, inr}
use proofs.Names.{cases_Bool, if◌then◌else◌, wrong, and_first, Event, change_of, rises, bus, Row, Change, ScenarioValue}
use proofs.Names.{CmdDef, command_at, process_by, process_if, RowReading, row_reading, row_events_by, command_item}
use proofs.Names.{has_item, is_open, command_id, Story, story_after_events, story_by_change, story_on_bus, AreOfDevices}
use proofs.Names.{RunState, run_state, run_state_after, change_plain, rst_raised, events_grow, command_over}
use proofs.Queues.Rows.{fewer_open, open_over}

abbrev pub NoneOpen : ScenarioValue → RunState → Type 0
NoneOpen s k = (m : ℕ) (c : CmdDef) → command_at s.commands m ≡ Some c → is_open k.story.sent m ≡ false

-- Under RST nothing is sent.
open_before : (s : ScenarioValue) (k : RunState) (row : Row) (m : ℕ)
    → (row_reading k.story.bus_state row).change.after.rst ≡ true
    → is_open (run_state_after s k row).story.sent m ≡ true → is_open k.story.sent m ≡ true
open_before s k row m on e =
    let g = events_grow s b shown in
    ap (λ (q : Bool). is_open (if q then record k.story { link = None }
    else story_on_bus s k.story k.story.bus_state.connection d.next d row).sent m) (sym on)
    ∙ fewer_open b.sent (story_after_events s b shown).sent m g.sent g.over e
  where
    d : RowReading
    d = row_reading k.story.bus_state row

    b : Story
    b = story_by_change s k.story d row

    shown : List Event
    shown = row_events_by s k.story d row

reset_row : (s : ScenarioValue) (p : List Row) (row : Row) → AreOfDevices p → row.dev < 8
    → ((bus p).rst ≡ true → NoneOpen s (run_state s p)) → (bus (row ∷ p)).rst ≡ true
    → NoneOpen s (run_state s (row ∷ p))
reset_row s p row dv lt none on n c at =
    elim (cases_Bool (is_open (run_state_after s k row).story.sent n)) [
      | inl f ↦ by f (open_before s k row n raised f) (bus p).rst refl
      | inr f ↦ f
    ]
  where
    k : RunState
    k = run_state s p

    change : (row_reading k.story.bus_state row).change ≡ change_of p row
    change = change_plain s row p dv lt

    raised : (row_reading k.story.bus_state row).change.after.rst ≡ true
    raised = ap (λ (x : Change). x.after.rst) change ∙ on

    by : is_open (run_state_after s k row).story.sent n ≡ true → is_open k.story.sent n ≡ true
        → (q : Bool) → (bus p).rst ≡ q → is_open (run_state_after s k row).story.sent n ≡ false
    by e was true z = wrong (sym was ∙ none z n c at)
    by e was false z = open_over (run_state_after s k row).story.sent n e
        (command_over s k row (command_id n) (process_by s (command_id n) c) (ap (process_if s (command_id n)) at) refl
        (and_first (has_item k.story.sent.sent (command_item n)) (not (has_item k.story.sent.over (command_item n)))
        was) raised (ap (λ (x : Change). rises x.own.rst x.next.rst) change ∙ rst_raised p row lt z on))

pub none_under_rst : (s : ScenarioValue) (p : List Row) → AreOfDevices p → (bus p).rst ≡ true
    → NoneOpen s (run_state s p)
none_under_rst s [] dv on = λ n c at. refl
none_under_rst s (row ∷ p) dv on = reset_row s p row dv.1 dv.0 (λ z. none_under_rst s p dv.1 z) on

-- What a row without a connection leaves of what is still to come of the scenario's lines.
use Rattle.measure_laws.proofs
use proofs.Names.{ℕ, ◌≡◌, ◌<◌, ◌∙◌, Bool, false, ◌&&◌, List, [], ◌∷◌, length, Option, None, refl, sym, ap, ◌+◌, ◌*◌}
use proofs.Names.{Event, change_of, falls, is_data, connection, connection_after, bus, Row, Change, ScenarioValue}
use proofs.Names.{CmdDef, FaultDef, row_reading, row_events_by, Item, Sent, command_id, command_item, Story}
use proofs.Names.{story_by_change, story_on_free_bus, begun, begun_after, run_state_plain, ProcessProgress, progress_in}
use proofs.Names.{AreOfDevices, RunState, bus_of, leaving_of, progress_after, run_state, run_state_with_events}
use proofs.Names.{served_after, change_plain, nothing_shown, on_free, free_still, aborts_left, command_left}
use proofs.Names.{commands_left, future_left, is_in_data, open_left, resets_left, serves_item, for_fault, for_reset}
use proofs.Lines.Lowers.{left_by}

-- ---- commands, by what is sent, served and made

abbrev pub command_by : ScenarioValue → Sent → Option Item → Bool → List ProcessProgress → ℕ → CmdDef → ℕ
command_by s b served moves made m c =
    left_by s b (open_left s (serves_item served (command_item m)) moves (progress_in made (command_id m)).runs c) m c

abbrev pub commands_by : ScenarioValue → Sent → Option Item → Bool → List ProcessProgress → ℕ → List CmdDef → ℕ
commands_by s b served moves made m [] = 0
commands_by s b served moves made m (c ∷ commands) =
    command_by s b served moves made m c + commands_by s b served moves made (m + 1) commands

pub commands_are : (s : ScenarioValue) (k : RunState) (m : ℕ) (commands : List CmdDef)
    → commands_left s k m commands ≡ commands_by s k.story.sent k.served (is_in_data k) k.progress m commands
commands_are s k m [] = refl
commands_are s k m (c ∷ commands) = ap (λ x. command_left s k m c + x) (commands_are s k (m + 1) commands)

-- ---- the row

unbegun : (rows : List Row) → connection rows ≡ None → begun rows ≡ false
unbegun [] e = refl
unbegun (row ∷ rows) e = λ i. begun_after (begun rows) (connection rows) (e i) (change_of rows row)

pub moves_none : (s : ScenarioValue) (p : List Row) → AreOfDevices p → connection p ≡ None
    → is_in_data (run_state s p) ≡ false
moves_none s p dv e =
    ap (λ (x : Bool). x && is_data (bus_of (run_state s p))) ((run_state_plain s p dv).begun ∙ unbegun p e)

-- What it leaves.
pub record ApartParts (s : ScenarioValue) (p : List Row) (row : Row) : Type 0 where
  pub sent : (run_state s (row ∷ p)).story.sent
      ≡ (story_on_free_bus s (run_state s p).story (row_reading (run_state s p).story.bus_state row) row).sent
  pub served : (run_state s (row ∷ p)).served ≡ (run_state s p).served
  pub made : (run_state s (row ∷ p)).progress ≡ (run_state s p).progress
  pub moves : is_in_data (run_state s (row ∷ p)) ≡ is_in_data (run_state s p)
  pub change : (row_reading (run_state s p).story.bus_state row).change ≡ change_of p row

pub apart_parts : (s : ScenarioValue) (p : List Row) (row : Row) → AreOfDevices p → row.dev < 8 → connection p ≡ None
    → connection (row ∷ p) ≡ None → (bus (row ∷ p)).rst ≡ false → (run_state s p).story.link ≡ None → ApartParts s p row
apart_parts s p row dv lt alone next calm link =
    let k = run_state s p in
    let d = row_reading k.story.bus_state row in
    let pl = run_state_plain s p dv in
    let c = change_plain s row p dv lt in
    let off : d.change.after.rst ≡ false = ap (λ (x : Change). x.after.rst) c ∙ calm in
    let none : d.next ≡ None = (λ i. connection_after (pl.connection i) (pl.call i) (c i) row) ∙ next in
    let was : k.story.bus_state.connection ≡ None = pl.connection ∙ alone in
    let e : row_events_by s k.story d row ≡ [] = nothing_shown s k.story d row off link in
    let b : story_by_change s k.story d row ≡ story_on_free_bus s k.story d row = on_free
    s k.story d row off was none in
    record {
      sent = ap (λ (x : List Event). (run_state_with_events s k row d x).story.sent) e ∙ ap (λ (y : Story). y.sent) b;
      served = λ i. served_after s k (was i) (none i);
      made = λ i. progress_after s k d (was i) (none i) (leaving_of s k k.story.bus_state.connection);
      moves = moves_none s (row ∷ p) (lt, dv) next ∙ sym (moves_none s p dv alone);
      change = c;
    }

-- Where SEL does not fall what is sent stays.
pub sent_stays : (s : ScenarioValue) (p : List Row) (row : Row) → ApartParts s p row
    → falls (bus p).sel (bus (row ∷ p)).sel ≡ false → (run_state s (row ∷ p)).story.sent ≡ (run_state s p).story.sent
sent_stays s p row a e =
    let k = run_state s p in
    let d = row_reading k.story.bus_state row in
    a.sent ∙ free_still s k.story d row (ap (λ (x : Change). falls x.before.sel x.after.sel) a.change ∙ e)

-- ---- what is to come, by parts

abbrev pub future_by : ScenarioValue → Sent → RunState → ℕ → List FaultDef → ℕ
future_by s b k resets faults = commands_by s b k.served (is_in_data k) k.progress 1 s.commands
    + aborts_left s b 1 s.aborts + for_reset * resets + for_fault s * length faults

pub future_is : (s : ScenarioValue) (p : List Row) (row : Row) → ApartParts s p row
    → resets_left (run_state s (row ∷ p)) s.resets ≡ resets_left (run_state s p) s.resets
    → future_left s (run_state s (row ∷ p)) ≡ future_by s (run_state s (row ∷ p)).story.sent (run_state s p)
    (resets_left (run_state s p) s.resets) (run_state s (row ∷ p)).faults
future_is s p row a r =
    let j = run_state s (row ∷ p) in
    (λ i. commands_are s j 1 s.commands i + aborts_left s j.story.sent 1 s.aborts
    + for_reset * r i + for_fault s * length j.faults)
    ∙ (λ i. commands_by s j.story.sent (a.served i) (a.moves i) (a.made i) 1 s.commands
    + aborts_left s j.story.sent 1 s.aborts + for_reset * resets_left (run_state s p) s.resets
    + for_fault s * length j.faults)

pub future_was : (s : ScenarioValue) (k : RunState)
    → future_left s k ≡ future_by s k.story.sent k (resets_left k s.resets) k.faults
future_was s k = λ i. commands_are s k 1 s.commands i + aborts_left s k.story.sent 1 s.aborts
    + for_reset * resets_left k s.resets + for_fault s * length k.faults

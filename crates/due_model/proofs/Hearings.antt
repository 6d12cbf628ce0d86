-- What a row tells the two ends of a connection by what is kept is what the plain terms say.
use Rattle.std.proofs.Common.{◌≡◌, ◌<◌, List, ◌∷◌, sym, subst}
use Rattle.bus_rules.specs.bus_trace.specs.declared.Row.{Row}
use Rattle.bus_rules.specs.bus_trace.specs.Changes.{change_of}
use Rattle.bus_rules.specs.bus_trace.specs.Terms.{connection}
use Rattle.dialogue_model.specs.bus_lines.specs.Effect.{effect_of}
use Rattle.dialogue_model.specs.scenario.specs.Value.{ScenarioValue}
use Rattle.dialogue_model.specs.story_model.specs.BusState.{change_by, row_reading}
use Rattle.dialogue_model.specs.story_model.specs.Story.{Story}
use Rattle.dialogue_model.specs.Hearing.{hearing_by, hearing}
use Rattle.due_model.specs.Sights.{hearing_of}
use Rattle.due_model.specs.RunSteps.{run_state}
use Rattle.due_model.specs.Plain.{IsPlain, AreOfDevices}
use Rattle.due_model.proofs.Plains.{IsBusStateOf, bus_state_is, change_same, run_state_plain}

pub hearing_plain : (s : ScenarioValue) (rows : List Row) (row : Row) → AreOfDevices rows → row.dev < 8
    → hearing_of (run_state s rows) row (row_reading (run_state s rows).story.bus_state row) ≡ hearing rows row
hearing_plain s rows row d lt =
    let h : IsPlain s rows (run_state s rows) = run_state_plain s rows d in
    let w : IsBusStateOf rows (run_state s rows).story.bus_state = subst
    (λ (b : Story). IsBusStateOf rows b.bus_state) (sym h.story) (bus_state_is s rows d) in
    let c : change_by (run_state s rows).story.bus_state row ≡ change_of rows row = change_same row rows
    (run_state s rows).story.bus_state w lt in
    λ i. hearing_by (h.dialogue i) (h.begun i) (h.handshakes i).requests (h.handshakes i).struck
    (effect_of (h.connection i) (connection (row ∷ rows)) (c i) row)

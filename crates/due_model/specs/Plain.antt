-- What is kept row by row is what the plain terms say of the rows.
use Rattle.std.specs.Prelude.{ℕ, ◌≡◌, ◌<◌, Bool, true, false, List, Option, Some, None, is_some}
use Rattle.std.specs.List.{AllByRecursion}
use Rattle.bus_rules.specs.bus_trace.specs.declared.Row.{Row}
use Rattle.bus_rules.specs.bus_trace.specs.Trace.{drives, bus, last_time, line_times, phase_time, free_time}
use Rattle.bus_rules.specs.bus_trace.specs.Terms.{free_since, arbitration, call, connection}
use Rattle.bus_rules.specs.bus_trace.specs.Phases.{phase_since}
use Rattle.dialogue_model.specs.bus_phases.specs.Dialogue.{agreed, dialogue}
use Rattle.dialogue_model.specs.scenario.specs.Value.{ScenarioValue}
use Rattle.dialogue_model.specs.array_model.specs.ArrayHistory.{array_after}
use Rattle.dialogue_model.specs.story_model.specs.PairAgreements.{agreement_in}
use Rattle.dialogue_model.specs.story_model.specs.TraceHistory.{story, trace_history}
use Rattle.bus_rules.specs.bus_trace.specs.declared.changes.Change.{Change}
use Rattle.dialogue_model.specs.bus_lines.specs.Effect.{effect}
use Rattle.dialogue_model.specs.bus_lines.specs.Handshakes.{handshakes}
use Rattle.dialogue_model.specs.reaction_model.specs.Sight.{sight}
use Rattle.dialogue_model.specs.Hearing.{begun}
use Rattle.due_model.specs.Sights.{stage_of, sight_of}
use Rattle.due_model.specs.Own.{own_at, own_of}
use Rattle.due_model.specs.RunState.{RunState, bus_of, drives_of}
use Rattle.dialogue_model.specs.bus_lines.specs.Stage.{stage}

-- The change of the last row, where a byte crossed in it.
abbrev pub crossed_if : Bool → Change → Option Change
crossed_if true c = Some c
crossed_if false c = None

abbrev pub crossed : List Row → Option Change
crossed rows = crossed_if (is_some (effect rows).receiver) (effect rows).change

-- The rows are of the eight devices.
abbrev pub AreOfDevices : List Row → Type 0
AreOfDevices rows = AllByRecursion (λ (row : Row). row.dev < 8) rows

pub record IsPlain (s : ScenarioValue) (rows : List Row) (k : RunState) : Type 0 where
  pub story : k.story ≡ story s rows
  pub array : k.array ≡ array_after s (trace_history s rows)
  pub last : k.last ≡ last_time rows
  pub drives : (dev : ℕ) → dev < 8 → drives_of k dev ≡ drives rows dev
  pub bus : bus_of k ≡ bus rows
  pub ages : k.ages ≡ line_times rows
  pub free : free_time k.ages ≡ free_since rows
  pub phase : phase_time k.ages ≡ phase_since rows
  pub arbitration : k.arbitration ≡ arbitration rows
  pub call : k.story.bus_state.call ≡ call rows
  pub connection : k.story.bus_state.connection ≡ connection rows
  pub own : (dev : ℕ) → dev < 8 → own_at k.owns dev ≡ own_of rows dev
  pub crossed : k.story.bus_state.crossed ≡ crossed rows
  pub handshakes : k.handshakes ≡ handshakes rows
  pub sight : sight_of k ≡ sight rows
  pub agreed : (i t : ℕ) → agreement_in k.story.bus_state.agreed i t ≡ agreed rows i t
  pub dialogue : k.story.bus_state.dialogue ≡ dialogue rows
  pub stage : stage_of k ≡ stage rows
  pub begun : k.exchange.begun ≡ begun rows

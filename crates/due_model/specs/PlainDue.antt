-- The reactions of a device by the plain terms of the rows, of which the laws say that they are what is due.
use Rattle.std.specs.Prelude.{ℕ, ◌≡◌, ◌<◌, false, List, Option, Some}
use Rattle.bus_rules.specs.bus_trace.specs.declared.Row.{Row}
use Rattle.bus_rules.specs.bus_trace.specs.declared.connection.Connection.{Connection}
use Rattle.bus_rules.specs.bus_trace.specs.Trace.{bus, last_time}
use Rattle.bus_rules.specs.bus_trace.specs.Terms.{connection, receiver}
use Rattle.dialogue_model.specs.bus_lines.specs.Handshakes.{handshakes}
use Rattle.dialogue_model.specs.scenario.specs.Value.{ScenarioValue}
use Rattle.dialogue_model.specs.story_model.specs.Samples.{latency_of}
use Rattle.dialogue_model.specs.reaction_model.specs.declared.due.Due.{Due}
use Rattle.dialogue_model.specs.reaction_model.specs.declared.due.Myself.{Myself}
use Rattle.dialogue_model.specs.reaction_model.specs.Sight.{sight}
use Rattle.dialogue_model.specs.reaction_model.specs.Linking.{link_due, sample_time}
use Rattle.dialogue_model.specs.reaction_model.specs.Ends.{sample_due, target_due, initiator_due}
use Rattle.dialogue_model.specs.reaction_model.specs.Reset.{with_reset}
use Rattle.dialogue_model.specs.Hearing.{begun}
use Rattle.due_model.specs.Own.{own_of}
use Rattle.due_model.specs.RunSteps.{run_state}
use Rattle.due_model.specs.Sights.{want_of, pace_of, offering_of, answering_of, flip_of}
use Rattle.due_model.specs.Due.{self_of, reset_from}
use Rattle.due_model.specs.Plain.{AreOfDevices}
use Rattle.bus_rules.specs.Order.{is_of_device}

-- The rows are of the eight devices, of which this is one that the scenario has, with this latency.
pub record IsThere (s : ScenarioValue) (rows : List Row) (dev latency : ℕ) : Type 0 where
  pub rows_are : AreOfDevices rows
  pub below : dev < 8
  pub latency_is : latency_of s dev ≡ Some latency

-- A connection stands, and RST is false.
pub record IsLinked (rows : List Row) (n : Connection) : Type 0 where
  pub calm : (bus rows).rst ≡ false
  pub stands : connection rows ≡ Some n

abbrev pub myself : ScenarioValue → List Row → ℕ → ℕ → Myself
myself s rows dev latency = self_of (run_state s rows) dev latency

-- RST goes before what is due without it (6.2.2).
abbrev pub under_reset : ScenarioValue → List Row → ℕ → ℕ → Option Due → Option Due
under_reset s rows dev latency calm = with_reset (myself s rows dev latency) (own_of rows dev).rst
    (reset_from dev (own_of rows dev).released s.resets) calm

-- On the way to a connection: by the bus, by itself, and by what it wants.
abbrev pub link_reaction : ScenarioValue → List Row → ℕ → ℕ → Option Due
link_reaction s rows dev latency =
    link_due (sight rows) (myself s rows dev latency) (want_of s (run_state s rows) dev)
    (flip_of (run_state s rows).faults (sample_time (sight rows) (myself s rows dev latency)))

-- In a connection: its receiver samples a byte that crossed in the last row first.
abbrev pub sampled_first : ScenarioValue → List Row → ℕ → Option Due → Option Due
sampled_first s rows dev reaction = sample_due (is_of_device (receiver rows) dev) (last_time rows)
    (flip_of (run_state s rows).faults (last_time rows)) reaction

abbrev pub target_reaction : ScenarioValue → List Row → ℕ → ℕ → Option Due
target_reaction s rows dev latency = sampled_first s rows dev (target_due (begun rows) (sight rows) (handshakes rows)
    (myself s rows dev latency) (pace_of s (run_state s rows) dev) (offering_of s (run_state s rows) dev))

abbrev pub initiator_reaction : ScenarioValue → List Row → ℕ → ℕ → Option Due
initiator_reaction s rows dev latency =
    sampled_first s rows dev (initiator_due (begun rows) (sight rows) (handshakes rows) (myself s rows dev latency)
    (pace_of s (run_state s rows) dev) (answering_of s (run_state s rows) dev))

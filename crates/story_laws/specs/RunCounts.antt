-- DATA OUT: how many bytes of the run were asked for and answered.
use Rattle.std.specs.Prelude.{ℕ, ◌≡◌, ◌≤◌, ◌<◌, Bool, true, false, List, Some}
use Rattle.due_model.specs.bus_trace.specs.LineSet.{LineSet}
use Rattle.due_model.specs.bus_trace.specs.declared.Row.{Row}
use Rattle.due_model.specs.bus_trace.specs.declared.connection.Connection.{Connection}
use Rattle.due_model.specs.bus_trace.specs.Terms.{connection}
use Rattle.due_model.specs.bus_trace.specs.Trace.{bus}
use Rattle.due_model.specs.bus_phases.specs.Dialogue.{dialogue}
use Rattle.due_model.specs.bus_lines.specs.Handshakes.{Handshakes, handshakes}
use Rattle.due_model.specs.scenario.specs.Value.{ScenarioValue}
use Rattle.due_model.specs.dialogue_model.specs.Ends.{is_pulsed_phase}
use Rattle.due_model.specs.dialogue_model.specs.Hearing.{begun}
use Rattle.due_model.specs.dialogue_model.specs.NextPhase.{phase_of}
use Rattle.row_laws.specs.link_laws.specs.Pulses.{run_count}
use Rattle.due_model.specs.dialogue_model.specs.declared.exchange.Phase.TheVariants as phases

-- A run has a byte; no more are answered than it has, nor asked for by pulses; and one that REQ asks for and ACK has
-- not answered is of the run.
pub record AreCounted (h : Handshakes) (b : LineSet) (pulsed : Bool) (run : ℕ) : Type 0 where
  pub some : 1 ≤ run
  pub asked : h.answers ≤ h.requests
  pub within : h.answers ≤ run
  pub pulses : pulsed ≡ true → h.requests ≤ run
  pub waits : pulsed ≡ false → b.req ≡ true → b.ack ≡ false → (h.answers < run) × (h.answers < h.requests)

-- A data phase under an agreement with an offset.
abbrev pub pulses_here : List Row → Bool
pulses_here p = is_pulsed_phase true (bus p) (dialogue p).heard.now.agreement

pub record CountFacts (s : ScenarioValue) (p : List Row) : Type 0 where
  pub counts : (n : Connection) → connection p ≡ Some n → (bus p).rst ≡ false → begun p ≡ true
      → phase_of (bus p) ≡ phases.DataOut → AreCounted (handshakes p) (bus p) (pulses_here p) (run_count s p n)

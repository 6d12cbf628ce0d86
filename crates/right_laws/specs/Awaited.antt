-- The sample that comes next after some rows, where one does: the receiver of the byte that crossed in the last row
-- samples it at once; and a called device samples the IDs a bus settle delay and its latency after BSY became false
-- (6.1.3, 6.1.4).
use Rattle.std.specs.Prelude.{ℕ, ◌+◌, Bool, true, false, ◌&&◌, List, [], ◌∷◌, Option, Some, None, is_none}
use Rattle.std.specs.Prelude.{if◌then◌else◌}
use Rattle.due_model.specs.bus_trace.specs.declared.Row.{Row}
use Rattle.due_model.specs.bus_trace.specs.declared.delays.TheConstants.{BUS_SETTLE_DELAY}
use Rattle.due_model.specs.bus_trace.specs.declared.selection.Call.{Call}
use Rattle.due_model.specs.bus_trace.specs.declared.selection.Calling.{Calling}
use Rattle.due_model.specs.bus_trace.specs.declared.connection.Connection.{Connection}
use Rattle.due_model.specs.bus_trace.specs.Terms.{call, connection, receiver}
use Rattle.due_model.specs.bus_trace.specs.Trace.{bus, last_time, since_line}
use Rattle.due_model.specs.scenario.specs.Value.{ScenarioValue}
use Rattle.due_model.specs.story_model.specs.Samples.{Sample, latency_of}
use Rattle.due_model.specs.reaction_model.specs.Calling.{is_called}

-- The called device has not answered yet, and no fault has struck it.
abbrev pub is_asked : Calling → Bool
is_asked k = is_called k && is_none k.answered

abbrev pub ids_at : Option ℕ → ℕ → ℕ → Option Sample
ids_at None dev bsy = None
ids_at (Some latency) dev bsy = Some (record { time = bsy + BUS_SETTLE_DELAY + latency; dev = dev })

abbrev pub ids_of : ScenarioValue → ℕ → Option Calling → Option Sample
ids_of s bsy None = None
ids_of s bsy (Some k) = if is_asked k then ids_at (latency_of s k.called) k.called bsy else None

abbrev pub awaited_ids : ScenarioValue → ℕ → Option Call → Option Sample
awaited_ids s bsy None = None
awaited_ids s bsy (Some k) = ids_of s bsy k.calling

abbrev pub byte_at : ℕ → Option ℕ → Option Sample
byte_at time None = None
byte_at time (Some dev) = Some (record { time = time; dev = dev })

-- By RST and by the connection.
abbrev pub awaited_by : ScenarioValue → List Row → Bool → Option Connection → Option Sample
awaited_by s rows true n = None
awaited_by s rows false (Some n) = byte_at (last_time rows) (receiver rows)
awaited_by s rows false None = awaited_ids s (since_line (λ x. x.bsy) rows) (call rows)

abbrev pub awaited : ScenarioValue → List Row → Option Sample
awaited s rows = awaited_by s rows (bus rows).rst (connection rows)

abbrev pub listed : Option Sample → List Sample
listed None = []
listed (Some a) = a ∷ []

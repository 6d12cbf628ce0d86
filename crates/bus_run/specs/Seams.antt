-- What ties the knowledge of devices to what rows tell, as one test of all rows so far. Devices may rest on it, and of
-- prompt traces it is to be proved.
use Rattle.std.specs.Prelude.{◌≡◌, ◌<◌, ◌^◌, Bool, true, ◌&&◌, List, [], ◌∷◌, length, Option, Some, None, is_some}
use Rattle.bus_trace.specs.declared.Row.{Row}
use Rattle.bus_trace.specs.declared.connection.Connection.{Connection}
use Rattle.bus_trace.specs.Terms.{connection}
use Rattle.scenario.specs.Value.{ScenarioValue}
use Rattle.due_model.specs.Defs.{host_of, target_def_of}
use Rattle.due_model.specs.Faithful.{faithful}
use Rattle.due_model.specs.Telling.{telling}
use Rattle.due_model.specs.Allowed.{allowed}
use Rattle.due_model.specs.Next.{IsPrompt}
use Rattle.bus_laws.specs.scsi_device.specs.Heard.{heard}
use Rattle.bus_laws.specs.scsi_device.specs.Writes.{written}
use Rattle.disk_target.specs.Attended.{attended}

-- The initiator of a connection is an initiator of the scenario, and its target is a target of it.
abbrev pub is_own_pair : ScenarioValue → Option Connection → Bool
is_own_pair s None = true
is_own_pair s (Some n) = is_some (host_of s n.initiator) && is_some (target_def_of s n.target)

-- Of all rows.
abbrev pub paired : ScenarioValue → List Row → Bool
paired s [] = true
paired s (row ∷ rows) = paired s rows && is_own_pair s (connection (row ∷ rows))

-- What crossed is what was to be said, the two ends of a connection show the events that the rows show, the plain disk
-- array permits them, the ends of a connection are of the scenario, the target of a connection hears in it what is of
-- the process that it serves, the bytes of a write come in their order, and the events of a row in a connection are of
-- that process.
unfoldable pub seams : ScenarioValue → List Row → Bool
seams s rows =
    faithful s rows
    && (telling s rows && (allowed s rows && (paired s rows && (heard s rows && (written s rows && attended s rows)))))

-- It holds of every prompt trace of fewer than 2^32 rows.
abbrev pub SeamsHold : ScenarioValue → Type 0
SeamsHold s = (rows : List Row) → IsPrompt s rows → length rows < 2 ^ 32 → seams s rows ≡ true

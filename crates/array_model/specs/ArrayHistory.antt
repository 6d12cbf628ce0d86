-- A history played on the plain disk array.
use Rattle.std.specs.Prelude.{Bool, true, false, not, ◌||◌, List, [], ◌∷◌, filter, Option, Some, None}
use Rattle.std.specs.Prelude.{if◌then◌else◌}
use Rattle.bus_base.specs.declared.ProcId.{ProcId}
use Rattle.bus_base.specs.declared.Event.{Event}
use Rattle.bus_base.specs.declared.Event.TheVariants as events
use Rattle.scenario.specs.Value.{ScenarioValue}
use Rattle.array_model.specs.Processes.{same_id}
use Rattle.array_model.specs.Contents.{Contents, is_reeled}
use Rattle.array_model.specs.Execution.{Reply}
use Rattle.array_model.specs.Units.{UnitState, Array, starting_array, settled_array}
use Rattle.array_model.specs.Steps.{step}

abbrev pub array_step : ScenarioValue → Event → Option Array → Option Array
array_step s event None = None
array_step s event (Some a) = step s event a

-- The array after these events, the newest first; nothing where a step is not allowed.
abbrev pub array_after : ScenarioValue → List Event → Option Array
array_after s [] = Some (settled_array (starting_array s))
array_after s (event ∷ history) = array_step s event (array_after s history)

-- What it then holds: the contents of each unit, the disks and the tapes, and the reply of a process, the last that was
-- given.
abbrev pub unit_contents : List UnitState → List Contents
unit_contents [] = []
unit_contents (u ∷ units) = u.contents ∷ unit_contents units

abbrev pub units_in : Option Array → List Contents
units_in None = []
units_in (Some a) = unit_contents a.units

abbrev pub disks_of : Option Array → List Contents
disks_of a = filter (λ (c : Contents). not (is_reeled c)) (units_in a)

abbrev pub tapes_of : Option Array → List Contents
tapes_of a = filter is_reeled (units_in a)

abbrev pub reply_in : List (ProcId × Reply) → ProcId → Option Reply
reply_in [] id = None
reply_in (entry ∷ replies) id = if same_id entry.0 id then Some entry.1 else reply_in replies id

abbrev pub reply_of : Option Array → ProcId → Option Reply
reply_of None id = None
reply_of (Some a) id = reply_in a.replies id

-- Whether a process runs with these events.
abbrev pub is_run : Event → Bool
is_run (events.Run id) = true
is_run (events.Accept id) = false
is_run (events.Refuse id) = false
is_run (events.Fail id code) = false
is_run (events.End id status) = false
is_run (events.Lost id) = false
is_run (events.Aborted host target unit what) = false
is_run (events.Reset dev) = false

abbrev pub shows_run : List Event → Bool
shows_run [] = false
shows_run (e ∷ shown) = is_run e || shows_run shown

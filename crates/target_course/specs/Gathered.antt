-- The bytes that came to a target of the data of writes (6.1.5.1, 6.4): of each unit those of the process that last
-- sent it some.
use Rattle.std.specs.Prelude.{ℕ, min, max, ◌≡◌, ◌<◌, ◌≤◌, ◌+◌, ◌-◌, ◌^◌, ◌%◌, ◌==◌, ◌&&◌, ◌++◌, true, false, List, []}
use Rattle.std.specs.Prelude.{◌∷◌, length, take, nat_lt, Option, Some, None, slice_set, slice_index_or, if◌then◌else◌}
use Rattle.bus_base.specs.declared.ProcId.{ProcId}
use Rattle.bus_trace.specs.Trace.{bus}
use Rattle.bus_trace.specs.declared.Row.{Row}
use Rattle.bus_trace.specs.declared.connection.Connection.{Connection}
use Rattle.scenario.specs.Needs.{sent_count}
use Rattle.scenario.specs.Value.{ScenarioValue}
use Rattle.scenario.specs.declared.value.CmdDef.{CmdDef}
use Rattle.scenario.specs.declared.value.Policy.{Policy}
use Rattle.array_model.specs.Processes.{Process, process_of}
use Rattle.due_model.specs.dialogue_model.specs.Arrivals.{policy_of}
use Rattle.due_model.specs.dialogue_model.specs.DataRuns.{run_at}
use Rattle.due_model.specs.dialogue_model.specs.NextPhase.{phase_of}
use Rattle.due_model.specs.dialogue_model.specs.declared.exchange.Hearing.{Hearing}
use Rattle.due_model.specs.dialogue_model.specs.declared.exchange.Phase.TheVariants as phases
use Rattle.due_model.specs.dialogue_model.specs.declared.exchange.Task.{Task}
use Rattle.due_model.specs.Defs.{target_def_of}
use Rattle.due_model.specs.LastingState.{progress_in}
use Rattle.due_model.specs.RunState.{RunState, bus_of, process_served}
use Rattle.due_model.specs.RunSteps.{run_state}
use Rattle.due_model.specs.Tasks.{task_of}
use Rattle.due_model.specs.Telling.{id_of}
use Rattle.target_units.specs.scsi_device.specs.Writes.{brings_byte, writer_of, writers, start_of_run}
use Rattle.target_units.specs.Seated.{is_same_process}
use Rattle.target_course.specs.States.{IsOwnConnection}

-- ---- of one unit

pub record Gathering : Type 0 where
  -- whose bytes they are
  pub owner : Option ProcId
  -- from the first one on
  pub bytes : List ℕ
  -- how many there can be
  pub room : ℕ

abbrev pub empty_gathering : ℕ → Gathering
empty_gathering room = record { owner = None; bytes = []; room = room }

-- Those of a process: none yet, where they were those of another.
abbrev pub gathering_of : Gathering → ProcId → Gathering
gathering_of g id = if is_same_process g.owner (Some id) then g else record g { owner = Some id; bytes = [] }

-- A byte comes to the place of one that came before, or to the next.
abbrev pub gathering_with : Gathering → ℕ → ℕ → Gathering
gathering_with g place byte =
    if nat_lt place (length g.bytes) then record g { bytes = slice_set g.bytes place byte }
    else if place == length g.bytes && nat_lt place g.room then record g { bytes = g.bytes ++ byte ∷ [] }
    else g

-- What came of a process, so many bytes at most.
abbrev pub bytes_of : Gathering → ProcId → ℕ → List ℕ
bytes_of g id count = if is_same_process g.owner (Some id) then take count g.bytes else []

-- ---- of the units of a target

pub record GatheredValue : Type 0 where
  pub dev : ℕ
  -- by number, 0 to 7
  pub units : List Gathering

abbrev pub gathering_at : List Gathering → ℕ → Gathering
gathering_at units n = slice_index_or units n (empty_gathering 0)

abbrev pub gathered_with : List Gathering → ℕ → ProcId → ℕ → ℕ → List Gathering
gathered_with units n id place byte =
    slice_set units n (gathering_with (gathering_of (gathering_at units n) id) place byte)

-- ---- before any row: room for the longest write of the scenario at the unit

abbrev pub write_room : ScenarioValue → ℕ → ℕ → CmdDef → ℕ
write_room s dev unit c = if c.target == dev && c.unit == unit then sent_count s c else 0

abbrev pub most_room : ScenarioValue → ℕ → ℕ → List CmdDef → ℕ
most_room s dev unit [] = 0
most_room s dev unit (c ∷ commands) = max (write_room s dev unit c) (most_room s dev unit commands)

abbrev pub unit_room : ScenarioValue → ℕ → ℕ → ℕ
unit_room s dev unit = most_room s dev unit s.commands

abbrev pub empty_unit : ScenarioValue → ℕ → ℕ → Gathering
empty_unit s dev unit = empty_gathering (unit_room s dev unit)

abbrev pub nothing_gathered : ScenarioValue → ℕ → GatheredValue
nothing_gathered s dev = record {
  dev = dev;
  units = empty_unit s dev 0 ∷ empty_unit s dev 1 ∷ empty_unit s dev 2 ∷ empty_unit s dev 3 ∷ empty_unit s dev 4
      ∷ empty_unit s dev 5 ∷ empty_unit s dev 6 ∷ empty_unit s dev 7 ∷ [];
}

-- ---- a row that tells this, before which this connection stands

-- In a connection of its own the target serves this process, which is of this unit; the byte is that at this place of
-- its data.
abbrev pub gathered_seen : GatheredValue → Option ProcId → ℕ → ℕ → Hearing → Option Connection → GatheredValue
gathered_seen v None unit place w before = v
gathered_seen v (Some id) unit place w None = v
gathered_seen v (Some id) unit place w (Some n) =
    if n.target == v.dev && brings_byte w
    then record v { units = gathered_with v.units unit id place (w.change.after.data_bits % 256) } else v

-- The place of the next byte of the present run, so many bytes of which came; places past the last u64 count as that
-- one.
abbrev pub place_in_run : Policy → Option Task → ℕ → ℕ
place_in_run policy None answers = 0
place_in_run policy (Some t) answers = min ((run_at policy t t.runs).start + answers) (2 ^ 64 - 1)

-- ---- what the rows tell

-- Each byte is that which its process sends at that place.
pub record IsGatheringOf (s : ScenarioValue) (g : Gathering) : Type 0 where
  pub fits : length g.bytes ≤ g.room
  pub small : g.room ≤ 0xffffffff
  pub sent : (id : ProcId) (p : Process) (j : ℕ) → g.owner ≡ Some id → process_of s id ≡ Some p → j < length g.bytes
      → slice_index_or g.bytes j 0 ≡ slice_index_or p.sent j 0

-- Of each unit.
pub record IsGatheredOf (s : ScenarioValue) (v : GatheredValue) : Type 0 where
  pub eight : length v.units ≡ 8
  pub rooms : (n : ℕ) → n < 8 → (gathering_at v.units n).room ≡ unit_room s v.dev n
  pub each : (n : ℕ) → n < 8 → IsGatheringOf s (gathering_at v.units n)

abbrev pub place_at : ScenarioValue → RunState → ℕ → ℕ
place_at s k dev = place_in_run (policy_of (target_def_of s dev)) (task_of s k) k.handshakes.answers

-- Where a byte of DATA OUT crosses to this target, which process sends it, and at which place of its data.
abbrev pub IsSentSo : ScenarioValue → List Row → ℕ → Hearing → Option ProcId → ℕ → Type 0
IsSentSo s rows dev w process place = (n : Connection) → IsOwnConnection rows dev n → brings_byte w ≡ true
    → (process ≡ id_of (run_state s rows).served) × (place ≡ place_at s (run_state s rows) dev)

-- And that process is of this unit.
abbrev pub IsAtUnit : ScenarioValue → List Row → ℕ → Hearing → ℕ → Type 0
IsAtUnit s rows dev w unit = (n : Connection) (p : Process) → IsOwnConnection rows dev n → brings_byte w ≡ true
    → process_served s (run_state s rows) ≡ Some p → unit ≡ p.unit

-- ---- how much of it has come

-- So many bytes, of those that the process sends, have come to its unit.
abbrev pub HasCome : GatheredValue → Process → ℕ → Type 0
HasCome v p count = min count (length p.sent) ≤ length (gathering_at v.units p.unit).bytes

pub record IsRunningIn (s : ScenarioValue) (rows : List Row) (dev : ℕ) (p : Process) (n : Connection) : Type 0 where
  pub own : IsOwnConnection rows dev n
  pub served : process_served s (run_state s rows) ≡ Some p
  pub calm : (bus rows).rst ≡ false
  pub begun : (run_state s rows).exchange.begun ≡ true
  pub phase : phase_of (bus_of (run_state s rows)) ≡ phases.DataOut

-- Of the process that last sent a unit a byte all data of the runs that it has made have come, and in DATA OUT of the
-- present run as many bytes as crossed.
pub record AreAllGathered (s : ScenarioValue) (rows : List Row) (v : GatheredValue) : Type 0 where
  pub owned : (id : ProcId) (p : Process) → process_of s id ≡ Some p → p.target ≡ v.dev
      → writer_of (writers s rows) p.target p.unit ≡ Some id → (gathering_at v.units p.unit).owner ≡ Some id
  pub made : (id : ProcId) (p : Process) → process_of s id ≡ Some p
      → p.target ≡ v.dev → writer_of (writers s rows) p.target p.unit ≡ Some id
      → HasCome v p (start_of_run s p (progress_in (run_state s rows).progress id).runs)
  pub present : (p : Process) (n : Connection) → IsRunningIn s rows v.dev p n
      → 0 < (run_state s rows).handshakes.answers → writer_of (writers s rows) p.target p.unit ≡ Some p.id
  pub come : (p : Process) (n : Connection) → IsRunningIn s rows v.dev p n
      → writer_of (writers s rows) p.target p.unit ≡ Some p.id → HasCome v p
      (start_of_run s p (progress_in (run_state s rows).progress p.id).runs + (run_state s rows).handshakes.answers)

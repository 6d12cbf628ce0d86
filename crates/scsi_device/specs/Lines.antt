-- What a scenario that obeys the rules of its text says of its devices, units, commands and aborts.
use Rattle.std.specs.Prelude.{ℕ, ◌≡◌, ◌≤◌, ◌<◌, true, false, length, Some, None}
use Rattle.std.specs.List.{AllByRecursion}
use Rattle.text_words.specs.Spelling.{AreBytes}
use Rattle.scenario.specs.declared.value.HostDef.{HostDef}
use Rattle.scenario.specs.declared.value.TargetDef.{TargetDef}
use Rattle.scenario.specs.declared.value.UnitDef.{UnitDef}
use Rattle.scenario.specs.declared.value.TapeDef.{TapeDef}
use Rattle.scenario.specs.declared.value.FillDef.{FillDef}
use Rattle.scenario.specs.declared.value.CmdDef.{CmdDef}
use Rattle.scenario.specs.declared.value.AbortDef.{AbortDef}
use Rattle.scenario.specs.declared.value.ResetDef.{ResetDef}
use Rattle.scenario.specs.declared.value.FaultDef.{FaultDef}
use Rattle.scenario.specs.Lookups.{is_tape, tape_of, tape_unit, unit_of, units_of}
use Rattle.scenario.specs.Needs.{need_of, sent_of}
use Rattle.scenario.specs.Reasons.{is_block_in}
use Rattle.scenario.specs.Value.{ScenarioValue}
use Rattle.due_model.specs.array_model.specs.Processes.{command_at, payload_bytes}
use Rattle.due_model.specs.array_model.specs.SoundArray.{AreApart}
use Rattle.due_model.specs.array_model.specs.Contents.{loaded_objects}
use Rattle.due_model.specs.array_model.specs.Reels.{AreWhole}
use Rattle.due_model.specs.array_model.specs.Units.{starting_unit, starting_units, unit_state_at}
use Rattle.due_model.specs.array_model.specs.Seats.{is_initiator}
use Rattle.due_model.specs.story_model.specs.HistoryEvents.{abort_line_at}
use Rattle.due_model.specs.story_model.specs.TraceHistory.{retries_of}
use Rattle.due_model.specs.Defs.{host_of, target_def_of}
use Rattle.scsi_device.specs.NoUnits.{HasNoUnit}

pub record IsHostLine (s : ScenarioValue) (h : HostDef) : Type 0 where
  pub below : h.dev < 8
  pub latency : h.latency ≤ 100
  pub lag : h.lag ≤ 10000
  pub most : h.most ≤ 32
  pub few : h.retries ≤ 16
  pub host_is : host_of s h.dev ≡ Some h
  pub is_one : is_initiator s.hosts h.dev ≡ true
  pub no_target : target_def_of s h.dev ≡ None
  pub retries_are : h.retries ≡ retries_of s.hosts h.dev
  pub no_unit : HasNoUnit s h.dev

pub record IsTargetLine (s : ScenarioValue) (t : TargetDef) : Type 0 where
  pub below : t.dev < 8
  pub latency : t.latency ≤ 100
  pub few : t.retries ≤ 16
  pub seek : t.seek ≤ 1000000000
  pub target_is : target_def_of s t.dev ≡ Some t
  pub no_host : host_of s t.dev ≡ None
  pub is_none : is_initiator s.hosts t.dev ≡ false

pub record IsUnitLine (s : ScenarioValue) (u : UnitDef) : Type 0 where
  pub target : u.target < 8
  pub unit : u.unit < 8
  pub some_blocks : 1 ≤ u.blocks
  pub most_blocks : u.blocks ≤ 4294967296
  pub least_size : 16 ≤ u.size
  pub most_size : u.size ≤ 2048
  pub some_depth : 1 ≤ u.depth
  pub most_depth : u.depth ≤ 256
  pub unit_is : unit_of s u.target u.unit ≡ Some u
  pub is_disk : is_tape s u.target u.unit ≡ false
  pub starts : unit_state_at (starting_units s (units_of s)) u.target u.unit ≡ Some (starting_unit s u)
  pub no_host : is_initiator s.hosts u.target ≡ false

-- What each unit says, a disk or a tape, whose objects count as blocks.
pub record IsLogicalUnit (s : ScenarioValue) (u : UnitDef) : Type 0 where
  pub target : u.target < 8
  pub unit : u.unit < 8
  pub some_blocks : 1 ≤ u.blocks
  pub most_blocks : u.blocks ≤ 4294967296
  pub least_size : 16 ≤ u.size
  pub most_size : u.size ≤ 2048
  pub some_depth : 1 ≤ u.depth
  pub most_depth : u.depth ≤ 256
  pub unit_is : unit_of s u.target u.unit ≡ Some u
  pub starts : unit_state_at (starting_units s (units_of s)) u.target u.unit ≡ Some (starting_unit s u)
  pub no_host : is_initiator s.hosts u.target ≡ false

-- Its loads are whole, and no more than it has room for.
pub record IsTapeLine (s : ScenarioValue) (t : TapeDef) : Type 0 where
  pub target : t.target < 8
  pub unit : t.unit < 8
  pub some_objects : 1 ≤ t.objects
  pub most_objects : t.objects ≤ 65536
  pub least_size : 16 ≤ t.size
  pub most_size : t.size ≤ 2048
  pub some_depth : 1 ≤ t.depth
  pub most_depth : t.depth ≤ 256
  pub tape_is : tape_of s t.target t.unit ≡ Some t
  pub unit_is : unit_of s t.target t.unit ≡ Some (tape_unit t)
  pub starts : unit_state_at (starting_units s (units_of s)) t.target t.unit ≡ Some (starting_unit s (tape_unit t))
  pub no_host : is_initiator s.hosts t.target ≡ false
  pub whole : AreWhole t.size (loaded_objects (tape_unit t) s.loads)
  pub few : length (loaded_objects (tape_unit t) s.loads) ≤ t.objects

-- Its data are as many bytes as it sends.
pub record IsCommandLine (s : ScenarioValue) (c : CmdDef) : Type 0 where
  pub host : c.host < 8
  pub target : c.target < 8
  pub unit : c.unit < 8
  pub host_is : is_initiator s.hosts c.host ≡ true
  pub target_is : is_initiator s.hosts c.target ≡ false
  pub time : c.at ≤ 1000000000000
  pub some_block : 1 ≤ length c.cdb
  pub most_block : length c.cdb ≤ 10
  pub block : AreBytes c.cdb
  pub sent : length (payload_bytes c.payload (sent_of s c)) ≡ sent_of s c
  pub need : need_of s c ≤ 65536

pub record IsAbortLine (s : ScenarioValue) (a : AbortDef) : Type 0 where
  pub host : a.host < 8
  pub target : a.target < 8
  pub unit : a.unit < 8
  pub host_is : is_initiator s.hosts a.host ≡ true
  pub target_is : is_initiator s.hosts a.target ≡ false
  pub time : a.at ≤ 1000000000000

-- Beside what each line says: units stand once, a fill is of a block of its unit, and commands and aborts are few.
pub record FitsBus (s : ScenarioValue) : Type 0 where
  pub hosts : AllByRecursion (λ h. IsHostLine s h) s.hosts
  pub targets : AllByRecursion (λ t. IsTargetLine s t) s.targets
  pub units : AllByRecursion (λ u. IsUnitLine s u) s.units
  pub tapes : AllByRecursion (λ t. IsTapeLine s t) s.tapes
  pub apart : AreApart (starting_units s (units_of s))
  pub fills : AllByRecursion (λ (f : FillDef). is_block_in (unit_of s f.target f.unit) f.lba f.bytes ≡ true) s.fills
  pub commands : AllByRecursion (λ c. IsCommandLine s c) s.commands
  pub aborts : AllByRecursion (λ a. IsAbortLine s a) s.aborts
  pub resets : AllByRecursion (λ (r : ResetDef). r.at ≤ 1000000000000) s.resets
  pub faults : AllByRecursion (λ (f : FaultDef). (f.at ≤ 1000000000000) × (f.bit ≤ 8)) s.faults
  pub few_commands : length s.commands ≤ 4096
  pub few_aborts : length s.aborts ≤ 64

-- The units that a scenario names are 0 to 7.
pub record AreUnits (s : ScenarioValue) : Type 0 where
  pub commands : (n : ℕ) (c : CmdDef) → command_at s.commands n ≡ Some c → c.unit < 8
  pub aborts : (n : ℕ) (a : AbortDef) → abort_line_at s.aborts n ≡ Some a → a.unit < 8

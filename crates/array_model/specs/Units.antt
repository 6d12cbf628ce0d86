-- The state of the plain disk array: units, guests, and what is kept for each initiator.
use Rattle.std.specs.Prelude.{ℕ, Bool, true, false, not, ◌&&◌, ◌==◌, List, [], ◌∷◌, Option, Some, None, if◌then◌else◌}
use Rattle.std.specs.List.{list_any}
use Rattle.bus_base.specs.declared.events.Pick.{Pick}
use Rattle.bus_base.specs.declared.events.Pick.TheVariants as picks
use Rattle.bus_base.specs.declared.ProcId.{ProcId}
use Rattle.cdb_codec.specs.declared.Sense.{Sense}
use Rattle.scenario.specs.declared.value.TargetDef.{TargetDef}
use Rattle.scenario.specs.declared.value.UnitDef.{UnitDef}
use Rattle.scenario.specs.Value.{ScenarioValue}
use Rattle.scenario.specs.Lookups.{is_tape, units_of}
use Rattle.array_model.specs.Processes.{Process, same_id}
use Rattle.array_model.specs.Contents.{Contents, starting_contents, loaded_contents}
use Rattle.array_model.specs.Execution.{Reply}
use Rattle.array_model.specs.Order.{choice, without_process}

-- A process that runs or waits to, with its reply once it has one.
pub record RunningProcess : Type 0 where
  pub process : Process
  pub reply : Option Reply

abbrev pub without_reply : Process → RunningProcess
without_reply p = record { process = p; reply = None }

-- A unit that is there.
pub record UnitState : Type 0 where
  pub target : ℕ
  pub unit : ℕ
  pub depth : ℕ
  pub pick : Pick
  pub contents : Contents
  -- in order of arrival
  pub waiting : List Process
  pub current : Option RunningProcess

-- A unit, there or not, as an initiator knows it.
pub record Nexus : Type 0 where
  pub initiator : ℕ
  pub target : ℕ
  pub unit : ℕ

abbrev pub is_at_unit : Nexus → ℕ → ℕ → Bool
is_at_unit p target unit = p.target == target && p.unit == unit

abbrev pub same_nexus : Nexus → Nexus → Bool
same_nexus p q = p.initiator == q.initiator && is_at_unit p q.target q.unit

pub record Array : Type 0 where
  pub units : List UnitState
  -- processes outside every queue
  pub guests : List RunningProcess
  -- the senses that are stored, the initiators that stand in the hold of a unit, and the pending attentions
  pub senses : List (Nexus × Sense)
  pub holds : List Nexus
  pub attentions : List (Nexus × Sense)
  -- every reply that was given, the newest first, and every process that has ended or was lost
  pub replies : List (ProcId × Reply)
  pub ended : List ProcId

-- ---- looking up

abbrev pub sense_of_nexus : List (Nexus × Sense) → Nexus → Option Sense
sense_of_nexus [] nexus = None
sense_of_nexus (entry ∷ entries) nexus = if same_nexus entry.0 nexus then Some entry.1 else sense_of_nexus entries nexus

abbrev pub senses_without : List (Nexus × Sense) → Nexus → List (Nexus × Sense)
senses_without [] nexus = []
senses_without (entry ∷ entries) nexus =
    if same_nexus entry.0 nexus then senses_without entries nexus else entry ∷ senses_without entries nexus

abbrev pub nexuses_without : List Nexus → Nexus → List Nexus
nexuses_without [] nexus = []
nexuses_without (p ∷ nexuses) nexus =
    if same_nexus p nexus then nexuses_without nexuses nexus else p ∷ nexuses_without nexuses nexus

abbrev pub is_held : List Nexus → ℕ → ℕ → Bool
is_held nexuses target unit = list_any (λ (p : Nexus). is_at_unit p target unit) nexuses

abbrev pub unit_state_at : List UnitState → ℕ → ℕ → Option UnitState
unit_state_at [] target unit = None
unit_state_at (u ∷ units) target unit =
    if u.target == target && u.unit == unit then Some u else unit_state_at units target unit

-- The unit of the same target and number is replaced.
abbrev pub with_unit : List UnitState → UnitState → List UnitState
with_unit [] new = []
with_unit (u ∷ units) new =
    if u.target == new.target && u.unit == new.unit then new ∷ units else u ∷ with_unit units new

abbrev pub guest_at : List RunningProcess → ProcId → Option RunningProcess
guest_at [] id = None
guest_at (g ∷ guests) id = if same_id g.process.id id then Some g else guest_at guests id

abbrev pub without_guest : List RunningProcess → ProcId → List RunningProcess
without_guest [] id = []
without_guest (g ∷ guests) id = if same_id g.process.id id then without_guest guests id else g ∷ without_guest guests id

abbrev pub nexus_of : Process → Nexus
nexus_of p = record { initiator = p.initiator; target = p.target; unit = p.unit }

-- ---- the choice: a unit with no current process, an empty hold and a waiting process makes one current

abbrev pub with_current : UnitState → Option Process → UnitState
with_current u None = u
with_current u (Some p) =
    record u { waiting = without_process u.waiting p.id; current = Some (record { process = p; reply = None }) }

abbrev pub has_no_current : Option RunningProcess → Bool
has_no_current None = true
has_no_current (Some r) = false

abbrev pub unit_after_choice : List Nexus → UnitState → UnitState
unit_after_choice holds u =
    if has_no_current u.current && not (is_held holds u.target u.unit) then with_current u (choice u.pick u.waiting)
    else u

abbrev pub units_after_choice : List Nexus → List UnitState → List UnitState
units_after_choice holds [] = []
units_after_choice holds (u ∷ units) = unit_after_choice holds u ∷ units_after_choice holds units

abbrev pub settled_array : Array → Array
settled_array a = record a { units = units_after_choice a.holds a.units }

-- ---- the start

abbrev pub pick_of : List TargetDef → ℕ → Pick
pick_of [] target = picks.First
pick_of (t ∷ targets) target = if t.dev == target then t.pick else pick_of targets target

-- A tape stands among the lines as a unit that has its objects as blocks.
abbrev pub contents_at_start : ScenarioValue → UnitDef → Contents
contents_at_start s u =
    if is_tape s u.target u.unit then loaded_contents u s.loads else starting_contents u s.fills

abbrev pub starting_unit : ScenarioValue → UnitDef → UnitState
starting_unit s u = record {
  target = u.target;
  unit = u.unit;
  depth = u.depth;
  pick = pick_of s.targets u.target;
  contents = contents_at_start s u;
  waiting = [];
  current = None;
}

abbrev pub starting_units : ScenarioValue → List UnitDef → List UnitState
starting_units s [] = []
starting_units s (u ∷ units) = starting_unit s u ∷ starting_units s units

abbrev pub starting_array : ScenarioValue → Array
starting_array s = record {
  units = starting_units s (units_of s);
  guests = [];
  senses = [];
  holds = [];
  attentions = [];
  replies = [];
  ended = [];
}

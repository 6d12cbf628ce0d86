-- The memory that the units of a target have for the blocks that are still written for the first time.
use Rattle.std.specs.Prelude.{◌≡◌, ℕ, suc, ◌+◌, ◌≤◌, Bool, false, List, [], ◌∷◌, length, Option, Some, None, is_none}
use Rattle.std.specs.Prelude.{if◌then◌else◌}
use Rattle.bus_base.specs.declared.ProcId.{ProcId}
use Rattle.cdb_codec.specs.declared.status.TheConstants.{GOOD}
use Rattle.scenario.specs.declared.value.CmdDef.{CmdDef}
use Rattle.scenario.specs.declared.value.UnitDef.{UnitDef}
use Rattle.scenario.specs.Lookups.{is_tape, unit_of}
use Rattle.scenario.specs.Value.{ScenarioValue}
use Rattle.array_model.specs.ArrayHistory.{reply_in}
use Rattle.array_model.specs.Contents.{is_reeled}
use Rattle.array_model.specs.Execution.{Reply, execution}
use Rattle.array_model.specs.Processes.{Process}
use Rattle.array_model.specs.Seats.{Seat, contents_of, context_of}
use Rattle.array_model.specs.Units.{Array, UnitState, unit_state_at}
use Rattle.disk_unit.specs.Held.{UnitKind, cost_by, kind_by, kind_of, taken_now}
use Rattle.target_units.specs.Fillings.{blocks_by}

-- ---- the blocks that commands may still write

-- The command of this number has no reply yet.
abbrev pub is_unanswered : List (ProcId × Reply) → ℕ → Bool
is_unanswered replies n = is_none (reply_in replies (record { command = n; sense = false }))

-- How many blocks these commands write at most at the unit, which is of this kind; the first of them has this number,
-- and those that have a reply write none any more.
abbrev pub blocks_left : List (ProcId × Reply) → UnitKind → UnitDef → ℕ → List CmdDef → ℕ
blocks_left replies kind u n [] = 0
blocks_left replies kind u n (c ∷ commands) =
    (if is_unanswered replies n then blocks_by kind u c else 0) + blocks_left replies kind u (suc n) commands

-- The same of the commands of a scenario, which are counted from 1, where the unit need not be there.
abbrev pub blocks_left_at : List (ProcId × Reply) → ScenarioValue → Option UnitDef → ℕ
blocks_left_at replies s None = 0
blocks_left_at replies s (Some u) = blocks_left replies (kind_by s u) u 1 s.commands

-- ---- the blocks of a unit are those of its line

abbrev pub IsOfLine : Option UnitDef → Option UnitState → Type 0
IsOfLine None None = Unit {0}
IsOfLine None (Some v) = ⊥
IsOfLine (Some u) None = ⊥
IsOfLine (Some u) (Some v) = (v.contents.count ≡ u.blocks) × (v.contents.size ≡ u.size)

-- A tape's objects count as blocks.
abbrev pub AreOfLines : ScenarioValue → Array → Type 0
AreOfLines s a = (target unit : ℕ) → IsOfLine (unit_of s target unit) (unit_state_at a.units target unit)

-- A unit has a reel exactly where its line is that of a tape.
abbrev pub IsOfKind : Bool → Option UnitState → Type 0
IsOfKind tape None = Unit {0}
IsOfKind tape (Some v) = is_reeled v.contents ≡ tape

abbrev pub AreOfKinds : ScenarioValue → Array → Type 0
AreOfKinds s a = (target unit : ℕ) → IsOfKind (is_tape s target unit) (unit_state_at a.units target unit)

-- ---- a process that runs

-- There is memory for the blocks that it may write, and where it is carried out it sends the bytes that it takes.
pub record HasRoomFor (seat : Seat) (p : Process) (spare : ℕ) : Type 0 where
  pub blocks : cost_by (kind_of (contents_of seat.unit)) p.cdb ≤ spare
  pub bytes : (execution (context_of seat p.initiator) p.cdb p.sent).reply.status ≡ GOOD
      → length p.sent ≡ taken_now (contents_of seat.unit) p.cdb

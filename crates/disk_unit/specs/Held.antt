-- What a command does at a unit that is there, a disk or a tape, but for what is kept for its initiator.
use Rattle.std.specs.Prelude.{ℕ, ◌*◌, ◌==◌, Bool, true, ◌&&◌, ◌||◌, List, [], Option, Some, None, is_some}
use Rattle.std.specs.Prelude.{if◌then◌else◌}
use Rattle.cdb_codec.specs.Cdb.{command_of}
use Rattle.cdb_codec.specs.TapeCdb.{tape_command_of}
use Rattle.cdb_codec.specs.declared.status.TheConstants.{GOOD}
use Rattle.array_model.specs.scenario.specs.declared.value.UnitDef.{UnitDef}
use Rattle.array_model.specs.scenario.specs.Lookups.{is_tape}
use Rattle.array_model.specs.scenario.specs.Value.{ScenarioValue}
use Rattle.array_model.specs.Contents.{Contents}
use Rattle.array_model.specs.Reels.{Reel}
use Rattle.array_model.specs.Execution.{Reply, Execution, unit_execution, tape_in}
use Rattle.array_model.specs.Tapes as at_tapes
use Rattle.array_model.specs.Tapes.{is_walk}
use Rattle.disk_unit.specs.declared.media.Extent.{Extent}
use Rattle.disk_unit.specs.Disk.{disk_context, disk_extent, blocks_written}

abbrev pub held_execution : Contents → List ℕ → List ℕ → Execution
held_execution c cdb sent = unit_execution (disk_context c) c.reel cdb sent

abbrev pub held_reply : Contents → List ℕ → Reply
held_reply c cdb = (held_execution c cdb []).reply

abbrev pub is_held_carried_out : Contents → List ℕ → Bool
is_held_carried_out c cdb = (held_reply c cdb).status == GOOD

-- At a tape also where it walks.
abbrev pub is_held_changed : Contents → List ℕ → Bool
is_held_changed c cdb = (is_some c.reel && is_walk (tape_command_of cdb)) || is_held_carried_out c cdb

-- ---- what it names, may write, and takes

pub data UnitKind : Type 0 where
  disk_of : (blocks : ℕ) → UnitKind
  a_tape : UnitKind

abbrev pub kind_with : Option Reel → ℕ → UnitKind
kind_with None blocks = disk_of blocks
kind_with (Some r) blocks = a_tape

abbrev pub kind_of : Contents → UnitKind
kind_of c = kind_with c.reel c.count

-- As its line says.
abbrev pub kind_by : ScenarioValue → UnitDef → UnitKind
kind_by s u = if is_tape s u.target u.unit then a_tape else disk_of u.blocks

abbrev pub extent_by : UnitKind → List ℕ → Extent
extent_by (disk_of blocks) cdb = disk_extent cdb
extent_by a_tape cdb = record { first = 0; count = 1; writes = true }

abbrev pub held_extent : Contents → List ℕ → Extent
held_extent c cdb = extent_by (kind_of c) cdb

abbrev pub cost_by : UnitKind → List ℕ → ℕ
cost_by (disk_of blocks) cdb = blocks_written blocks (command_of cdb)
cost_by a_tape cdb = at_tapes.blocks_written (tape_command_of cdb)

abbrev pub taken_with : Option Reel → Contents → List ℕ → ℕ
taken_with None c cdb = blocks_written c.count (command_of cdb) * c.size
taken_with (Some r) c cdb = at_tapes.blocks_taken (tape_in c r) (tape_command_of cdb) * c.size

abbrev pub taken_now : Contents → List ℕ → ℕ
taken_now c cdb = taken_with c.reel c cdb

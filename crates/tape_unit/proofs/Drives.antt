-- What a disk does as a drive, and that a drive stays what it is.
use Rattle.std.proofs.Common.{ℕ, ◌≡◌, ◌*◌, true, false, List, [], None, ◌∙◌, sym}
use Rattle.std.specs.Prelude.{◌&&◌, ◌||◌, ◌==◌, is_some}
use Rattle.cdb_codec.specs.Cdb.{command_of}
use Rattle.cdb_codec.specs.TapeCdb.{tape_command_of}
use Rattle.cdb_codec.specs.declared.status.TheConstants.{GOOD}
use Rattle.array_model.specs.Contents.{Contents, is_reeled}
use Rattle.array_model.specs.Execution.{unit_execution}
use Rattle.array_model.specs.Tapes.{is_walk}
use Rattle.disk_unit.specs.Disk.{blocks_written, disk_context, disk_execution, disk_extent, disk_reply, is_changed}
use Rattle.disk_unit.specs.Held.{cost_by, extent_by, held_execution, held_extent, held_reply, is_held_changed}
use Rattle.disk_unit.specs.Held.{kind_of, kind_with, taken_now, taken_with}
use Rattle.disk_unit.specs.Plans.{plan_of}
use Rattle.disk_unit.specs.declared.media.Extent.{Extent}
use Rattle.disk_unit.specs.declared.media.Plan.{Plan}
use Rattle.tape_unit.specs.Drives.{drive_contents}
use Rattle.tape_unit.specs.Stored.{Store}
use Rattle.tape_unit.specs.declared.drive.Drive.{Drive}
use Rattle.tape_unit.specs.declared.drive.Drive.TheVariants as drives

-- ---- contents without a reel are a disk's

pub disk_replied : (c : Contents) (cdb : List ℕ) → c.reel ≡ None → disk_reply c cdb ≡ held_reply c cdb
disk_replied c cdb e = λ i. (unit_execution (disk_context c) (sym e i) cdb []).reply

pub disk_left : (c : Contents) (cdb sent : List ℕ) → c.reel ≡ None
    → (disk_execution c cdb sent).contents ≡ (held_execution c cdb sent).contents
disk_left c cdb sent e = λ i. (unit_execution (disk_context c) (sym e i) cdb sent).contents

pub disk_takes : (c : Contents) (cdb : List ℕ) → c.reel ≡ None
    → blocks_written c.count (command_of cdb) * c.size ≡ taken_now c cdb
disk_takes c cdb e = λ i. taken_with (sym e i) c cdb

pub disk_costs : (c : Contents) (cdb : List ℕ) → c.reel ≡ None
    → blocks_written c.count (command_of cdb) ≡ cost_by (kind_of c) cdb
disk_costs c cdb e = λ i. cost_by (kind_with (sym e i) c.count) cdb

pub disk_named : (c : Contents) (cdb : List ℕ) → c.reel ≡ None
    → (let x : Extent = disk_extent cdb in x) ≡ held_extent c cdb
disk_named c cdb e = λ i. extent_by (kind_with (sym e i) c.count) cdb

pub disk_planned : (c : Contents) (cdb : List ℕ) → c.reel ≡ None
    → (let x : Plan = plan_of (disk_reply c cdb) (blocks_written c.count (command_of cdb) * c.size) in x)
    ≡ plan_of (held_reply c cdb) (taken_now c cdb)
disk_planned c cdb e = λ i. plan_of (disk_replied c cdb e i) (disk_takes c cdb e i)

pub disk_changed : (c : Contents) (cdb : List ℕ) → c.reel ≡ None → is_changed c cdb ≡ is_held_changed c cdb
disk_changed c cdb e = λ i. (is_some (sym e i) && is_walk (tape_command_of cdb))
    || (unit_execution (disk_context c) (sym e i) cdb []).reply.status == GOOD

-- ---- a disk is no tape

pub no_tape : {X : Type 0} (m : Drive) (t : Store) → is_reeled (drive_contents m) ≡ false → m ≡ drives.Tape t → X
no_tape m t plain e = bad ((λ i. is_reeled (drive_contents (sym e i))) ∙ plain)
  where
    bad : {Y : Type 0} → true ≡ false → Y
    bad f = absurd cc

pub same_tape : (s t : Store) → drives.Tape s ≡ drives.Tape t → s ≡ t
same_tape s t e = cc

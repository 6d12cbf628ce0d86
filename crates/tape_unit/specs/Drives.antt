-- What a disk or a tape holds, and what a command makes of it.
use Rattle.std.specs.Prelude.{◌≡◌, ℕ, List}
use Rattle.array_model.specs.Contents.{Contents}
use Rattle.array_model.specs.Execution.{tape_contents}
use Rattle.disk_unit.specs.Held.{held_execution}
use Rattle.tape_unit.specs.declared.drive.Drive.{Drive}
use Rattle.tape_unit.specs.declared.drive.Drive.TheVariants as drives
use Rattle.tape_unit.specs.Stored.{Store, store_after}

abbrev pub drive_contents : Drive → Contents
drive_contents (drives.Disk disk) = disk.blocks.contents
drive_contents (drives.Tape store) = tape_contents store.tape

-- How many blocks may still be written for the first time, or added.
abbrev pub drive_spare : Drive → ℕ
drive_spare (drives.Disk disk) = disk.blocks.spare
drive_spare (drives.Tape store) = store.spare

-- Before and after a command that sent these bytes: it holds what the array says, and a tape has as much memory less as
-- blocks were written.
pub record IsAfter (old : Drive) (cdb sent : List ℕ) (new : Drive) : Type 0 where
  pub contents : drive_contents new ≡ (held_execution (drive_contents old) cdb sent).contents
  pub store : (t : Store) → old ≡ drives.Tape t → new ≡ drives.Tape (store_after t cdb sent)

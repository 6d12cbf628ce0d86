use Rattle.std.proofs.Common.{◌∙◌, sym}
use Rattle.disk_unit.specs.Held.{is_held_changed}
use Rattle.tape_unit.specs.Drives.{drive_contents}
use Rattle.tape_unit.proofs.Drives.{disk_changed}
use Rattle.tape_unit.proofs.drive.DriveMedium.changes.Goals as goal

pub returns-in-Disk : goal.returns-in-Disk
returns-in-Disk c =
    c.changes.ensures ∙ disk_changed c.in-Disk.disk.blocks.contents c.args.cdb.now c.is_disk.ensures
    ∙ (λ i. is_held_changed (drive_contents (sym c.in-Disk.is i)) c.args.cdb.now)

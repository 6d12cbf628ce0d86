use Rattle.std.proofs.Common.{◌∙◌, sym}
use Rattle.disk_unit.specs.Held.{held_extent}
use Rattle.tape_unit.specs.Drives.{drive_contents}
use Rattle.tape_unit.proofs.Drives.{disk_named}
use Rattle.tape_unit.proofs.drive.DriveMedium.extent.Goals as goal

pub returns-in-Disk : goal.returns-in-Disk
returns-in-Disk c =
    c.extent.ensures ∙ disk_named c.in-Disk.disk.blocks.contents c.args.cdb.now c.is_disk.ensures
    ∙ (λ i. held_extent (drive_contents (sym c.in-Disk.is i)) c.args.cdb.now)

use Rattle.std.proofs.Common.{◌∙◌, sym}
use Rattle.disk_unit.specs.Held.{cost_by, kind_of}
use Rattle.tape_unit.specs.Drives.{drive_contents}
use Rattle.tape_unit.proofs.Drives.{disk_costs}
use Rattle.tape_unit.proofs.drive.DriveMedium.cost.Goals as goal

pub returns-in-Disk : goal.returns-in-Disk
returns-in-Disk c =
    c.cost.ensures ∙ disk_costs c.in-Disk.disk.blocks.contents c.args.cdb.now c.is_disk.ensures
    ∙ (λ i. cost_by (kind_of (drive_contents (sym c.in-Disk.is i))) c.args.cdb.now)

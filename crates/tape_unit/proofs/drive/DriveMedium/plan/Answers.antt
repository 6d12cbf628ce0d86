use Rattle.std.proofs.Common.{◌∙◌, sym}
use Rattle.disk_unit.specs.Held.{held_reply, taken_now}
use Rattle.disk_unit.specs.Plans.{plan_of}
use Rattle.tape_unit.specs.Drives.{drive_contents}
use Rattle.tape_unit.proofs.Drives.{disk_planned}
use Rattle.tape_unit.proofs.drive.DriveMedium.plan.Goals as goal

pub returns-in-Disk : goal.returns-in-Disk
returns-in-Disk c =
    c.plan.ensures ∙ disk_planned c.in-Disk.disk.blocks.contents c.args.cdb.now c.is_disk.ensures
    ∙ (λ i. plan_of (held_reply (drive_contents (sym c.in-Disk.is i)) c.args.cdb.now)
    (taken_now (drive_contents (sym c.in-Disk.is i)) c.args.cdb.now))

use Rattle.std.proofs.Common.{◌∙◌, sym}
use Rattle.std.specs.Prelude.{is_some}
use Rattle.tape_unit.specs.Drives.{drive_contents}
use Rattle.tape_unit.proofs.drive.Drive.is_tape.Goals as goal

pub returns-in-Disk : goal.returns-in-Disk
returns-in-Disk c =
    (λ i. is_some (sym c.is_disk.ensures i)) ∙ (λ i. is_some (drive_contents (sym c.in-Disk.is i)).reel)

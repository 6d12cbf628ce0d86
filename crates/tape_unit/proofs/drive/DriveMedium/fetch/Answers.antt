use Rattle.std.proofs.Common.{◌≡◌, ◌≤◌, ◌+◌, ◌∙◌, length, take, drop, sym, subst}
use Rattle.array_model.specs.Execution.{Reply}
use Rattle.disk_unit.specs.Disk.{disk_reply}
use Rattle.disk_unit.specs.Held.{held_reply}
use Rattle.tape_unit.specs.Drives.{drive_contents}
use Rattle.tape_unit.proofs.Drives.{disk_replied}
use Rattle.tape_unit.proofs.drive.DriveMedium.fetch.Goals as goal

pub fetch-requires : goal.fetch-requires
fetch-requires c =
    let same : disk_reply c.in-Disk.disk.blocks.contents c.args.cdb.now
    ≡ held_reply (drive_contents c.args.self.now) c.args.cdb.now =
    disk_replied c.in-Disk.disk.blocks.contents c.args.cdb.now c.is_disk.ensures
    ∙ (λ i. held_reply (drive_contents (sym c.in-Disk.is i)) c.args.cdb.now) in
    record {
      within = subst (λ (r : Reply). c.args.at + length c.args.into.now ≤ length r.bytes) (sym same) c.requires.within;
    }

pub returns-in-Disk : goal.returns-in-Disk
returns-in-Disk c =
    let same : disk_reply c.in-Disk.disk.blocks.contents c.args.cdb.now
    ≡ held_reply (drive_contents c.args.self.now) c.args.cdb.now =
    disk_replied c.in-Disk.disk.blocks.contents c.args.cdb.now c.is_disk.ensures
    ∙ (λ i. held_reply (drive_contents (sym c.in-Disk.is i)) c.args.cdb.now) in
    c.fetch.ensures ∙ (λ i. take (length c.args.into.now) (drop c.args.at (same i).bytes))

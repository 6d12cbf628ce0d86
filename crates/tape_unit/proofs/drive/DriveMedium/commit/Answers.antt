use Rattle.std.proofs.Common.{ℕ, ◌≤◌, ◌+◌, ◌∙◌, sym, subst}
use Rattle.std.specs.Prelude.{is_some}
use Rattle.array_model.specs.Execution.{tape_contents}
use Rattle.disk_unit.specs.Held.{cost_by, held_execution, kind_of, taken_now}
use Rattle.tape_unit.specs.declared.drive.Drive.{Drive}
use Rattle.tape_unit.specs.declared.drive.Drive.TheVariants as drives
use Rattle.tape_unit.specs.Drives.{drive_contents, drive_spare}
use Rattle.tape_unit.specs.Stored.{store_after}
use Rattle.tape_unit.proofs.Drives.{disk_costs, disk_left, disk_takes, no_tape, same_tape}
use Rattle.tape_unit.proofs.drive.DriveMedium.commit.Goals as goal

pub commit-requires-clause-whole : goal.commit-requires-clause-whole
commit-requires-clause-whole c =
    c.requires.whole ∙ (λ i. taken_now (drive_contents (c.in-Disk.is i)) c.args.cdb.now)
    ∙ sym (disk_takes c.in-Disk.disk.blocks.contents c.args.cdb.now c.is_disk.ensures)

pub commit-requires-clause-room : goal.commit-requires-clause-room
commit-requires-clause-room c =
    subst (λ (n : ℕ). n ≤ c.in-Disk.disk.blocks.spare)
    (sym (disk_costs c.in-Disk.disk.blocks.contents c.args.cdb.now c.is_disk.ensures))
    (subst (λ (m : Drive). cost_by (kind_of (drive_contents m)) c.args.cdb.now ≤ drive_spare m) c.in-Disk.is
    c.requires.room)

pub commit-requires-in-Tape-clause-whole : goal.commit-requires-in-Tape-clause-whole
commit-requires-in-Tape-clause-whole c =
    c.requires.whole ∙ (λ i. taken_now (drive_contents (c.in-Tape.is i)) c.args.cdb.now)

pub commit-requires-in-Tape-clause-room : goal.commit-requires-in-Tape-clause-room
commit-requires-in-Tape-clause-room c =
    subst (λ (m : Drive). cost_by (kind_of (drive_contents m)) c.args.cdb.now ≤ drive_spare m) c.in-Tape.is
    c.requires.room

pub returns-in-Disk-clause-exact : goal.returns-in-Disk-clause-exact
returns-in-Disk-clause-exact c = record {
  contents = c.commit.ensures.exact
      ∙ disk_left c.in-Disk.disk.blocks.contents c.args.cdb.now c.args.sent.now c.is_disk.ensures
      ∙ (λ i. (held_execution (drive_contents (sym c.in-Disk.is i)) c.args.cdb.now c.args.sent.now).contents);
  store = λ t e. no_tape c.args.self.now t
      ((λ i. is_some (drive_contents (c.in-Disk.is i)).reel) ∙ (λ i. is_some (c.is_disk.ensures i))) e;
}

pub returns-in-Disk-clause-lowered : goal.returns-in-Disk-clause-lowered
returns-in-Disk-clause-lowered c =
    subst (λ (m : Drive). drive_spare m
    ≤ c.commit.new.self.blocks.spare + cost_by (kind_of (drive_contents m)) c.args.cdb.now)
    (sym c.in-Disk.is) (subst (λ (n : ℕ). c.in-Disk.disk.blocks.spare ≤ c.commit.new.self.blocks.spare + n)
    (disk_costs c.in-Disk.disk.blocks.contents c.args.cdb.now c.is_disk.ensures) c.commit.ensures.lowered)

pub returns-in-Tape-clause-exact : goal.returns-in-Tape-clause-exact
returns-in-Tape-clause-exact c = record {
  contents = (λ i. tape_contents (c.commit-in-Tape.ensures.exact i).tape)
      ∙ (λ i. (held_execution (drive_contents (sym c.in-Tape.is i)) c.args.cdb.now c.args.sent.now).contents);
  store = λ t e. (λ i. drives.Tape (c.commit-in-Tape.ensures.exact i))
      ∙ (λ i. drives.Tape
      (store_after (same_tape c.in-Tape.tape t (sym c.in-Tape.is ∙ e) i) c.args.cdb.now c.args.sent.now));
}

pub returns-in-Tape-clause-lowered : goal.returns-in-Tape-clause-lowered
returns-in-Tape-clause-lowered c =
    subst (λ (m : Drive). drive_spare m
    ≤ c.commit-in-Tape.new.self.spare + cost_by (kind_of (drive_contents m)) c.args.cdb.now) (sym c.in-Tape.is)
    c.commit-in-Tape.ensures.lowered

-- What a device does at a moment.
use Rattle.std.specs.Prelude.{ℕ, Option, Some, None, nat_le, if◌then◌else◌}
use Rattle.reaction_model.specs.declared.due.Due.{Due}
use Rattle.scsi_device.specs.declared.acts.Act.{Act}

-- Its next row, where it is due by then, else the moment at which it is.
abbrev pub act_of : Option Due → ℕ → Act
act_of None now = record { row = None; wake = None }
act_of (Some x) now =
    if nat_le x.time now then record { row = Some x.kind; wake = None } else record { row = None; wake = Some x.time }

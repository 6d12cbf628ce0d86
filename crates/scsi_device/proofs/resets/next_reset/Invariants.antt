use Rattle.std.specs.Prelude.{◌≡◌, drop}
use Rattle.reaction_model.specs.Reactions.{sooner_time}
use Rattle.due_model.specs.Due.{reset_from}
use Rattle.scsi_device.proofs.resets.next_reset.Given as goal

abbrev pub invariant-loop-def : goal.invariant-loop-def
invariant-loop-def l =
    sooner_time l.next (reset_from l.dev l.released (drop l.def-index l.resets)) ≡ reset_from l.dev l.released l.resets

use Rattle.std.proofs.Common.{◌≡◌, drop}
use Rattle.vcd_text.specs.Codes.{device_of}
use Rattle.vcd_text.proofs.codes.DeviceCodes.device_of.Given as goal

abbrev pub invariant-loop-named : goal.invariant-loop-named
invariant-loop-named l = device_of (drop l.named-index l.named-items) l.code ≡ device_of l.named-items l.code

use Rattle.std.proofs.Common.{arith}
use Rattle.std.proofs.lemmas.Grind.{common_steps}
use Rattle.vcd_text.proofs.CodeSets.{longest_device_with}
use Rattle.vcd_text.proofs.codes.DeviceCodes.add.Goals as goal

pub invariant_of-self-2 : goal.invariant_of-self-2
invariant_of-self-2 c = (
  grind (arith, common_steps),
  longest_device_with c.self.inside.codes.items c.push.new.self.items c.in_ok-named.named c.args.device c.args.code.now
      c.self.inside.longest c.max-self-inside.result c.in_ok-push.ensures.items c.in_ok-named.ensures c.self.invariant.1
      c.max-self-inside.ensures,
)

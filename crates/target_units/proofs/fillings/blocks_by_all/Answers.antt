use Rattle.std.proofs.Common.{◌≡◌, drop, arith}
use Rattle.std.proofs.lemmas.List.{at_drop_all}
use Rattle.disk_unit.specs.Held.{disk_of}
use Rattle.target_units.specs.Fillings.{blocks_by_all}
use Rattle.target_units.proofs.fillings.blocks_by_all.Goals as goal

pub returns : goal.returns
returns c =
    let none : blocks_by_all (disk_of c.args.def.now.blocks) c.args.def.now
    (drop c.loop-command.command-index c.args.commands.now) ≡ 0 = at_drop_all
    (λ commands. blocks_by_all (disk_of c.args.def.now.blocks) c.args.def.now commands) c.args.commands.now
    c.loop-command.command-index c.loop-command-test.false in
    omega (arith, none, c.loop-command.invariant.sum, c.loop-command.invariant.bound)

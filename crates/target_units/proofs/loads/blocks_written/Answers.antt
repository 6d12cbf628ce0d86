use Rattle.std.proofs.Common.{◌≡◌, drop, arith}
use Rattle.std.proofs.lemmas.List.{at_drop_all}
use Rattle.scenario.specs.Lookups.{tape_unit}
use Rattle.disk_unit.specs.Held.{a_tape}
use Rattle.target_units.specs.Fillings.{blocks_by_all}
use Rattle.target_units.proofs.loads.blocks_written.Goals as goal

pub returns : goal.returns
returns c =
    let none : blocks_by_all a_tape (tape_unit c.args.def.now)
    (drop c.loop-command.command-index c.args.commands.now) ≡ 0 = at_drop_all
    (λ commands. blocks_by_all a_tape (tape_unit c.args.def.now) commands) c.args.commands.now
    c.loop-command.command-index c.loop-command-test.false in
    omega (arith, none, c.loop-command.invariant.sum, c.loop-command.invariant.bound)

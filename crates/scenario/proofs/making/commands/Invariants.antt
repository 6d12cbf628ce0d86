use Rattle.std.proofs.Common.{◌≡◌}
use Rattle.scenario.specs.Making.{made_commands}
use Rattle.scenario.proofs.making.commands.Given as goal

abbrev pub invariant-loop-c : goal.invariant-loop-c
invariant-loop-c l = l.defs.items ≡ made_commands l.seed l.c

use Rattle.std.specs.Prelude.{◌≡◌, ◌++◌, drop}
use Rattle.initiator.specs.OwnBytes.{bytes_of_commands, own_bytes}
use Rattle.initiator.proofs.own_bytes.all_bytes.Given as goal

abbrev pub invariant-loop-def : goal.invariant-loop-def
invariant-loop-def l = l.made.items ++ bytes_of_commands l.scenario l.dev (drop l.def-index l.scenario.commands)
    ≡ own_bytes l.scenario l.dev

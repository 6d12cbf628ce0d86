use Rattle.std.specs.Prelude.{◌≡◌, ◌++◌, drop}
use Rattle.initiator.specs.Received.{buffers_of_commands, nothing_received}
use Rattle.initiator.proofs.received.all_buffers.Given as goal

abbrev pub invariant-loop-def : goal.invariant-loop-def
invariant-loop-def l = l.made.items ++ buffers_of_commands l.scenario l.dev (drop l.def-index l.scenario.commands)
    ≡ nothing_received l.scenario l.dev

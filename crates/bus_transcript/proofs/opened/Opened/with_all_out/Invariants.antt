-- What is left of the messages makes of it what all of them make of the first.
use Rattle.std.proofs.Common.{◌≡◌, drop}
use Rattle.bus_transcript.specs.Opened.{with_all_out}
use Rattle.bus_transcript.proofs.opened.Opened.with_all_out.Given as goal

abbrev pub invariant-loop-message : goal.invariant-loop-message
invariant-loop-message l =
    with_all_out l.self (drop l.message-index l.messages) ≡ with_all_out l.initial.self l.messages

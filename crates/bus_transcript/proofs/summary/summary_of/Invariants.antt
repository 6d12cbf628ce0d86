-- What is left of the parts makes of it what all of them make of the first.
use Rattle.std.proofs.Common.{◌≡◌, drop}
use Rattle.bus_transcript.specs.Nexus.{no_summary, summary_of}
use Rattle.bus_transcript.proofs.summary.summary_of.Given as goal

abbrev pub invariant-loop-i : goal.invariant-loop-i
invariant-loop-i l = summary_of l.again l.summary (drop l.i l.parts.items) ≡ summary_of l.again no_summary l.parts.items

use Rattle.std.proofs.Common.{length}
use Rattle.scenario.proofs.Reader.{IsReading}
use Rattle.scenario.specs.Seen.{seen}
use Rattle.scenario.specs.Index.{IsIndexOf, IsCountOf}
use Rattle.scenario.proofs.reading.read_lines.Given as goal

abbrev pub invariant-loop-rest : goal.invariant-loop-rest
invariant-loop-rest l =
    IsReading l.bytes (seen l.draft) l.count l.rest × IsIndexOf l.draft.blocks l.draft.scenario.fills
    × IsCountOf l.draft.loaded l.draft.scenario.loads

abbrev pub decreases-loop-rest : goal.decreases-loop-rest
decreases-loop-rest l = length l.rest

use Rattle.bus_transcript.proofs.Resets.{resets_alike}
use Rattle.bus_transcript.proofs.laws.resets_are_told.Goals as goal

pub returns : goal.returns
returns c = λ s rows. resets_alike s rows

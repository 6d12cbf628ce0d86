use Rattle.scenario.proofs.TapeNeeds.{sent_to_tape}
use Rattle.scenario.proofs.laws.tapes_take_writes.Goals as goal

pub returns : goal.returns
returns c = sent_to_tape

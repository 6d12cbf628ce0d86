use Rattle.bus_transcript.proofs.Inside.{all_in}
use Rattle.bus_transcript.proofs.laws.events_stand_in_connections.Goals as goal

pub returns : goal.returns
returns c = λ rows. all_in rows

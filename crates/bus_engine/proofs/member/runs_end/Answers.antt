use Rattle.bus_engine.proofs.Overs.{place_over}
use Rattle.bus_engine.proofs.member.runs_end.Goals as goal

pub returns : goal.returns
returns c = place_over

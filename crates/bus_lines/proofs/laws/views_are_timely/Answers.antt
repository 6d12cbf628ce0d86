use Rattle.bus_lines.proofs.Times.{timely}
use Rattle.bus_lines.proofs.laws.views_are_timely.Goals as goal

pub returns : goal.returns
returns c = timely

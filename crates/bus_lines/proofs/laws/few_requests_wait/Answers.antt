use Rattle.bus_lines.proofs.Early.{few}
use Rattle.bus_lines.proofs.laws.few_requests_wait.Goals as goal

pub returns : goal.returns
returns c = few

use Rattle.bus_phases.proofs.Agreeing.{all_asynchronous}
use Rattle.bus_phases.proofs.agreements.Agreements.new.Goals as goal

pub returns : goal.returns
returns c = all_asynchronous

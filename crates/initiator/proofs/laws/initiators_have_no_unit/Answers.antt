use Rattle.initiator.proofs.NoUnits.{no_process_ready, is_no_target}
use Rattle.initiator.proofs.laws.initiators_have_no_unit.Goals as goal

pub returns-clause-ready : goal.returns-clause-ready
returns-clause-ready c = λ s rows dev h. no_process_ready s rows dev h

pub returns-clause-no_target : goal.returns-clause-no_target
returns-clause-no_target c = λ s rows dev h k. is_no_target s rows dev h k

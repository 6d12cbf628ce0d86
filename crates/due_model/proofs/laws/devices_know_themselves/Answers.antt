use Rattle.due_model.proofs.Owns.{other_mine, own_mine}
use Rattle.due_model.proofs.laws.devices_know_themselves.Goals as goal

pub returns-clause-other : goal.returns-clause-other
returns-clause-other c = λ s rows row dev latency h. other_mine s rows row dev latency h

pub returns-clause-own : goal.returns-clause-own
returns-clause-own c = λ s rows row latency lines h e. own_mine s rows row latency lines h e

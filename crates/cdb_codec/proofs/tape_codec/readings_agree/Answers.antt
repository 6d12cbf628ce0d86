use Rattle.cdb_codec.proofs.Readings.{shared_alike_in, senses_alike, writes_alike}
use Rattle.cdb_codec.proofs.tape_codec.readings_agree.Goals as goal

pub returns-clause-shared : goal.returns-clause-shared
returns-clause-shared c = shared_alike_in

pub returns-clause-senses : goal.returns-clause-senses
returns-clause-senses c = senses_alike

pub returns-clause-writes : goal.returns-clause-writes
returns-clause-writes c = writes_alike

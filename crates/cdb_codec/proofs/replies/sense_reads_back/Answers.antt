use Rattle.cdb_codec.proofs.Senses.{sense_reads_back}
use Rattle.cdb_codec.proofs.replies.sense_reads_back.Goals as goal

pub returns : goal.returns
returns c = sense_reads_back

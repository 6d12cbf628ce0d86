use Rattle.cdb_codec.proofs.TapeBack.{tape_reads_back}
use Rattle.cdb_codec.proofs.tape_codec.tape_reads_back.Goals as goal

pub returns : goal.returns
returns c = tape_reads_back

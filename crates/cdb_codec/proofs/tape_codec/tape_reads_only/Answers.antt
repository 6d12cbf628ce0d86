use Rattle.cdb_codec.proofs.TapeOnly.{tape_reads_only}
use Rattle.cdb_codec.proofs.tape_codec.tape_reads_only.Goals as goal

pub returns : goal.returns
returns c = tape_reads_only

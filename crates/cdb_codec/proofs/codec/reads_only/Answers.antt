use Rattle.cdb_codec.proofs.Only.{reads_only}
use Rattle.cdb_codec.proofs.codec.reads_only.Goals as goal

pub returns : goal.returns
returns c = reads_only

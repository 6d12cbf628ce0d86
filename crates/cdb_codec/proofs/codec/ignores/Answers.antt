use Rattle.cdb_codec.proofs.Ignored.{ignores}
use Rattle.cdb_codec.proofs.codec.ignores.Goals as goal

pub returns : goal.returns
returns c = ignores

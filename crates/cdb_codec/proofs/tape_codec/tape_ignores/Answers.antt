use Rattle.cdb_codec.proofs.TapeIgnored.{tape_ignores}
use Rattle.cdb_codec.proofs.tape_codec.tape_ignores.Goals as goal

pub returns : goal.returns
returns c = tape_ignores

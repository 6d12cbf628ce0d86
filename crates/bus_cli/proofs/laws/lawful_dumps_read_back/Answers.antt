use Rattle.bus_cli.proofs.LawfulDumps.{lawful_back}
use Rattle.bus_cli.proofs.laws.lawful_dumps_read_back.Goals as goal

pub returns : goal.returns
returns c = lawful_back

use Rattle.vcd_text.proofs.ReadBack.{dump_back}
use Rattle.vcd_text.proofs.laws.dumps_read_back.Goals as goal

pub returns : goal.returns
returns c = dump_back

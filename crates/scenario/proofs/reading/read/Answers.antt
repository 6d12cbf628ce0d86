use Rattle.scenario.proofs.Obeying.{answer_obeys}
use Rattle.scenario.proofs.reading.read.Goals as goal

pub returns-clause-obeys : goal.returns-clause-obeys
returns-clause-obeys c = answer_obeys c.args.bytes.now c.read_lines.result c.read_lines.ensures

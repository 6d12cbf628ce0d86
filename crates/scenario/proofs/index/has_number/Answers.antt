use Rattle.std.proofs.Common.{sym, arith}
use Rattle.scenario.proofs.Insert.{none_above}
use Rattle.scenario.proofs.index.has_number.Goals as goal

pub returns-in-Some : goal.returns-in-Some
returns-in-Some c =
    sym (none_above c.in-Some.last.now c.args.number (omega arith) c.args.blocks.now.keys c.in-Some.ensures.all_up_to)

use Rattle.std.proofs.Common.{arith}
use Rattle.bus_rules.proofs.Words.{view_after}
use Rattle.bus_rules.proofs.saved_view.step_lines.Goals as goal

pub returns : goal.returns
returns c = λ rows v next now. view_after c.args.row.now rows c.args.view.now
    (omega arith) v c.requires _ _ _ _ _ c.lines_in-before.ensures c.lines_word.ensures c.lines_word-view.ensures next
    now _ c.renew.ensures.lines _ c.renew.ensures.changed _ c.step.ensures.exact

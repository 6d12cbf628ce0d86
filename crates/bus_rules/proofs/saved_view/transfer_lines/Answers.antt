use Rattle.std.proofs.Common.{ap, ◌∙◌, arith}
use Rattle.bus_trace.specs.Changes.{same_stage}
use Rattle.bus_trace.specs.LineSet.{LineSet}
use Rattle.bus_trace.proofs.Views.{times_kept}
use Rattle.bus_rules.proofs.Words.{view_after}
use Rattle.bus_rules.proofs.saved_view.transfer_lines.Goals as goal

pub returns : goal.returns
returns c = λ rows v stage next now.
    let same = ap (λ (x : LineSet). same_stage x c.args.after) c.lines_in-before.ensures ∙ stage in
    view_after c.args.row.now rows c.args.view.now
    (omega arith) v c.requires _ _ _ _ _ c.lines_in-before.ensures c.lines_word.ensures c.lines_word-view.ensures
    next now _ c.renew.ensures.lines _ c.renew.ensures.changed _ (c.transfer_times.ensures
    ∙ times_kept c.args.view.now.times c.lines_in-before.result c.args.after c.args.row.now.time same)

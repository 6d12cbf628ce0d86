use Rattle.std.proofs.Common.{List, sym, subst, arith}
use Rattle.trace_checker.specs.Judging.{IsJudgeOf}
use Rattle.trace_checker.specs.Saved.{judge_in}
use Rattle.bus_trace.specs.declared.Row.{Row}
use Rattle.scsibus_c.proofs.Past.{alone, all_of_device}
use Rattle.scsibus_c.proofs.judge.take_in_words.Goals as goal

pub take_by_rules-requires : goal.take_by_rules-requires
take_by_rules-requires c =
    let here = c.in-len1.len_at_least in
    all_of_device c.args.rows.now 0 _ c.requires (omega arith)

pub returns-in-len1 : goal.returns-in-len1
returns-in-len1 c = λ past is few.
    let all = sym (alone past c.args.rows.now _ c.in-len1.len_at_least c.in-len1.len_below) in
    subst (λ (ps : List Row). IsJudgeOf ps (judge_in c.take_by_rules.new.judge)) all
    (c.take_by_rules.ensures past is (omega arith))

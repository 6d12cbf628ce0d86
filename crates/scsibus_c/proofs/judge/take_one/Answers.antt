use Rattle.std.proofs.Common.{sym, subst}
use Rattle.trace_checker.specs.Judging.{IsJudgeOf}
use Rattle.trace_checker.specs.Saved.{judge_in}
use Rattle.trace_checker.specs.declared.saved.SavedJudge.{SavedJudge}
use Rattle.scsibus_c.proofs.judge.take_one.Goals as goal

pub returns-then-pass : goal.returns-then-pass
returns-then-pass c = λ past is few. c.pass.ensures.kept past is few c.if-pass.true

pub returns : goal.returns
returns c = λ past is few.
    c.take_by_rules.ensures past
    (subst (λ (j : SavedJudge). IsJudgeOf past (judge_in j)) (sym (c.pass.ensures.other c.if-pass.false)) is) few

use Rattle.std.proofs.Common.{◌∙◌, ap, sym, subst}
use Rattle.bus_rules.specs.declared.verdict.Verdict.{Verdict}
use Rattle.trace_checker.specs.Judging.{IsJudgeOf}
use Rattle.trace_checker.specs.declared.Judge.{Judge}
use Rattle.scsibus_c.specs.Rows.{told}
use Rattle.scsibus_c.proofs.judge.scsibus_judge_finish.Goals as goal

pub returns-then-state-eq-FORM-clause-verdict : goal.returns-then-state-eq-FORM-clause-verdict
returns-then-state-eq-FORM-clause-verdict c = λ past is few. c.told.ensures ∙ ap (λ (v : Verdict). told v)
    (c.finish.ensures past (subst (λ (j : Judge). IsJudgeOf past j) (sym c.restored.ensures) is.judge) few)

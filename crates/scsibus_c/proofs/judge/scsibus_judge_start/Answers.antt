use Rattle.std.proofs.Common.{refl, sym, subst, []}
use Rattle.trace_checker.specs.Judging.{IsJudgeOf}
use Rattle.trace_checker.specs.declared.Judge.{Judge}
use Rattle.scsibus_c.proofs.judge.scsibus_judge_start.Goals as goal

pub returns : goal.returns
returns c = record { form = refl; judge = subst (λ (j : Judge). IsJudgeOf [] j) (sym c.saved.ensures) c.new.ensures }

use Rattle.std.proofs.Common.{sym, subst}
use Rattle.trace_checker.specs.Judging.{IsJudgeOf}
use Rattle.trace_checker.specs.declared.Judge.{Judge}
use Rattle.scsibus_c.specs.Rows.{rows_after}
use Rattle.scsibus_c.proofs.judge.take_many.Goals as goal

pub returns : goal.returns
returns c = λ past is few.
    let fed = c.take.ensures past (subst (λ (j : Judge). IsJudgeOf past j) (sym c.restored-own.ensures) is) few in
    subst (λ (j : Judge). IsJudgeOf (rows_after past c.args.rows.now) j) (sym c.saved.ensures) fed

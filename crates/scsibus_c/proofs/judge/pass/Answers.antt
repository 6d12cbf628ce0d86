use Rattle.std.proofs.Common.{◌<◌, ◌∷◌, sym, subst}
use Rattle.trace_checker.specs.Judging.{IsJudgeOf}
use Rattle.trace_checker.specs.Saved.{judge_in}
use Rattle.bus_trace.specs.declared.Row.{Row}
use Rattle.scsibus_c.proofs.judge.pass.Goals as goal

pub pass-requires : goal.pass-requires
pass-requires c = subst (λ (r : Row). r.dev < 8) (sym c.row_of.ensures) c.requires

pub returns-then-row-eq0-clause-kept : goal.returns-then-row-eq0-clause-kept
returns-then-row-eq0-clause-kept c = λ past is few e.
    subst (λ (r : Row). IsJudgeOf (r ∷ past) (judge_in c.pass.new.self)) c.row_of.ensures
    (c.pass.ensures.kept past is few e)

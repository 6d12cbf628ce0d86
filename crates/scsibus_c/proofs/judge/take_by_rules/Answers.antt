use Rattle.std.proofs.Common.{◌<◌, ◌∷◌, sym, subst}
use Rattle.trace_checker.specs.Judging.{IsJudgeOf}
use Rattle.trace_checker.specs.Saved.{judge_in}
use Rattle.bus_trace.specs.declared.Row.{Row}
use Rattle.scsibus_c.proofs.judge.take_by_rules.Goals as goal

pub feed-requires : goal.feed-requires
feed-requires c = subst (λ (r : Row). r.dev < 8) (sym c.row_of.ensures) c.requires

pub returns : goal.returns
returns c = λ past is few.
    subst (λ (r : Row). IsJudgeOf (r ∷ past) (judge_in c.feed.new.self)) c.row_of.ensures (c.feed.ensures past is few)

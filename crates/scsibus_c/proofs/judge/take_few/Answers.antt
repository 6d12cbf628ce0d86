use Rattle.std.proofs.Common.{◌≡◌, ◌<◌, ◌+◌, ℕ, List, length, take, sym, subst, arith}
use Rattle.std.proofs.lemmas.List.{take_all}
use Rattle.trace_checker.specs.Judging.{IsJudgeOf}
use Rattle.trace_checker.specs.Saved.{judge_in}
use Rattle.bus_trace.specs.declared.Row.{Row}
use Rattle.scsibus_c.specs.declared.rows.ScsibusRow.{ScsibusRow}
use Rattle.scsibus_c.specs.Rows.{rows_after}
use Rattle.scsibus_c.proofs.Past.{one_more, as_many_so_far, all_of_device}
use Rattle.scsibus_c.proofs.judge.take_few.Goals as goal

pub take_one-requires : goal.take_one-requires
take_one-requires c = all_of_device c.args.rows.now c.loop-row.row-index _ c.requires c.loop-row-test.true

pub loop-row-preserved : goal.loop-row-preserved
loop-row-preserved c = λ past is few.
    let xs : List ScsibusRow = c.args.rows.now in
    let i : ℕ = c.loop-row.row-index in
    let seen : List Row = rows_after past (take i xs) in
    let inside : i < length xs = c.loop-row-test.true in
    let many : length seen ≡ i + length past = as_many_so_far past xs i (omega arith) in
    let kept = c.take_one.ensures seen (c.loop-row.invariant past is few) (omega arith) in
    subst (λ (ps : List Row). IsJudgeOf ps (judge_in c.take_one.new.judge)) (sym (one_more past xs i _ inside)) kept

pub returns : goal.returns
returns c = λ past is few.
    let all = take_all c.loop-row.row-index c.args.rows.now (let ended = c.loop-row-test.false in omega arith) in
    subst (λ (xs : List ScsibusRow). IsJudgeOf (rows_after past xs) (judge_in c.loop-row.judge)) all
    (c.loop-row.invariant past is few)

use Rattle.std.proofs.Common.{◌≡◌, ◌<◌, ◌+◌, ◌∙◌, ◌∷◌, ap, ℕ, List, length, take, sym, subst, arith}
use Rattle.trace_checker.specs.Judging.{IsJudgeOf}
use Rattle.bus_trace.specs.declared.Row.{Row}
use Rattle.scsibus_c.specs.declared.rows.ScsibusRow.{ScsibusRow}
use Rattle.scsibus_c.specs.Rows.{rows_after}
use Rattle.scsibus_c.proofs.Past.{one_more, as_many_so_far, all_of_device}
use Rattle.scsibus_c.proofs.judge.take.Goals as goal

pub feed-requires : goal.feed-requires
feed-requires c = subst (λ (r : Row). r.dev < 8) (sym c.row_of.ensures)
    (all_of_device c.args.rows.now c.loop-row.row-index _ c.requires c.loop-row-test.true)

pub loop-row-preserved : goal.loop-row-preserved
loop-row-preserved c = λ past is few.
    let xs : List ScsibusRow = c.args.rows.now in
    let i : ℕ = c.loop-row.row-index in
    let seen : List Row = rows_after past (take i xs) in
    let inside : i < length xs = c.loop-row-test.true in
    let many : length seen ≡ i + length past = as_many_so_far past xs i (omega arith) in
    let kept = c.feed.ensures.kept seen (c.loop-row.invariant past is few) (omega arith) in
    subst (λ (ps : List Row). IsJudgeOf ps c.feed.new.self)
    (sym (one_more past xs i _ inside ∙ ap (λ (r : Row). r ∷ seen) (sym c.row_of.ensures))) kept

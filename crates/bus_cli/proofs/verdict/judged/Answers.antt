use Rattle.std.proofs.Common.{◌∙◌, List, [], ◌∷◌, ◌++◌, ap, subst, sym, reverse, length, append_assoc, append-nil}
use Rattle.std.proofs.Common.{arith}
use Rattle.std.specs.List.{AllByRecursion}
use Rattle.std.proofs.lemmas.List.{reverse-append}
use Rattle.bus_trace.specs.declared.Row.{Row}
use Rattle.bus_trace.specs.OfTrace.{IsRow}
use Rattle.bus_rules.specs.Rules.{judged_whole}
use Rattle.bus_cli.proofs.verdict.judged.Goals as goal

pub loop-row-init : goal.loop-row-init
loop-row-init c =
    let all = c.into_iter-row-iterator.ensures.into_iter_gives ∙ c.iter-row-items.ensures.rows in (
      tt,
      tt,
      (
        [],
        c.new-judge.ensures,
        append-nil _ ∙ ap (λ (rows : List Row). reverse rows) all,
        omega (
          arith,
          ap (λ (rows : List Row). length rows) c.into_iter-row-iterator.ensures.into_iter_gives,
          c.iter-row-items.ensures.few,
        ),
      ),
      subst (λ (rows : List Row). AllByRecursion IsRow rows) (sym all) c.requires,
    )

pub take-requires : goal.take-requires
take-requires c =
    (subst (λ (rows : List Row). AllByRecursion IsRow rows) c.in-Some.ensures.steps c.loop-row.invariant.3).0.device

pub loop-row-preserved : goal.loop-row-preserved
loop-row-preserved c =
    let left = c.in-Some.ensures.steps in
    let row = c.in-Some.row in
    let rest = c.next.new.self in
    let (seen, is, whole, few) = c.loop-row.invariant.2 in
    let count = ap (λ (rows : List Row). length rows) left in (
      tt,
      tt,
      (
        row ∷ seen,
        c.take.ensures seen is (omega (arith, few)),
        sym (append_assoc (reverse rest) (row ∷ []) seen) ∙ ap (λ (rows : List Row). rows ++ seen)
            (sym (reverse-append (row ∷ []) rest) ∙ ap (λ (rows : List Row). reverse rows) (sym left))
            ∙ whole,
        omega (arith, few, count),
      ),
      (subst (λ (rows : List Row). AllByRecursion IsRow rows) left c.loop-row.invariant.3).1,
    )

pub returns : goal.returns
returns c =
    let (seen, is, whole, few) = c.loop-row.invariant.2 in
    let all = ap (λ (rest : List Row). reverse rest ++ seen) (sym c.in-None.ensures.steps.0) ∙ whole in
    c.finish.ensures seen is (omega (arith, few)) ∙ ap (λ (rows : List Row). judged_whole rows c.args.end) all

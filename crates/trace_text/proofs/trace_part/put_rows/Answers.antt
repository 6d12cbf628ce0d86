use Rattle.std.proofs.Common.{◌∙◌, List, ap, subst, sym}
use Rattle.std.specs.List.{AllByRecursion, flat_map}
use Rattle.bus_trace.specs.declared.Row.{Row}
use Rattle.bus_trace.specs.OfTrace.{IsOfDevice}
use Rattle.trace_text.specs.RowText.{row_text}
use Rattle.text_pages.proofs.Putting.{begins, goes_on}
use Rattle.trace_text.proofs.trace_part.put_rows.Goals as goal

pub loop-row-init : goal.loop-row-init
loop-row-init g c =
    let all = c.into_iter-row-iterator.ensures.into_iter_gives ∙ c.iter-row-items.ensures.rows in (
      tt,
      tt,
      begins _ _ _ (ap (λ (rows : List Row). flat_map row_text rows) all),
      subst (λ (rows : List Row). AllByRecursion IsOfDevice rows) (sym all) c.requires,
    )

pub loop-row-preserved : goal.loop-row-preserved
loop-row-preserved g c =
    let left = c.in-Some.ensures.steps in (
      tt,
      tt,
      goes_on _ c.loop-row.invariant.2 c.put_row.ensures (ap (λ (rows : List Row). flat_map row_text rows) left),
      (subst (λ (rows : List Row). AllByRecursion IsOfDevice rows) left c.loop-row.invariant.3).1,
    )

pub put_row-requires : goal.put_row-requires
put_row-requires g c =
    (subst (λ (rows : List Row). AllByRecursion IsOfDevice rows) c.in-Some.ensures.steps c.loop-row.invariant.3).0

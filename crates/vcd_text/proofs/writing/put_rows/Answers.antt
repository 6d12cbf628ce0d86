use Rattle.std.proofs.Common.{◌∙◌, List, ap, subst, sym}
use Rattle.std.specs.List.{AllByRecursion}
use Rattle.bus_trace.specs.declared.Row.{Row}
use Rattle.bus_trace.specs.OfTrace.{IsRow}
use Rattle.vcd_text.specs.DumpText.{rows_text, time_written}
use Rattle.text_pages.proofs.Putting.{begins, goes_on}
use Rattle.vcd_text.proofs.Written.{row_next, time_next}
use Rattle.vcd_text.proofs.writing.put_rows.Goals as goal

pub loop-row-init : goal.loop-row-init
loop-row-init g c =
    let all = c.into_iter-row-iterator.ensures.into_iter_gives ∙ c.iter-row-items.ensures.rows in (
      tt,
      tt,
      begins _ _ _ (ap (λ (rows : List Row). rows_text 0 rows) all),
      ap (λ (rows : List Row). time_written 0 rows) all,
      subst (λ (rows : List Row). AllByRecursion IsRow rows) (sym all) c.requires,
    )

pub loop-row-preserved : goal.loop-row-preserved
loop-row-preserved g c =
    let left = c.in-Some.ensures.steps in (
      tt,
      tt,
      goes_on _ c.loop-row.invariant.2 c.put_row-last.ensures.text
          (row_next _ _ _ _ _ left c.put_row-last.ensures.last),
      time_next _ _ _ _ _ left c.put_row-last.ensures.last ∙ c.loop-row.invariant.3,
      (subst (λ (rows : List Row). AllByRecursion IsRow rows) left c.loop-row.invariant.4).1,
    )

pub put_row-last-requires : goal.put_row-last-requires
put_row-last-requires g c =
    (subst (λ (rows : List Row). AllByRecursion IsRow rows) c.in-Some.ensures.steps c.loop-row.invariant.4).0.device

use Rattle.std.proofs.Common.{ℕ, ◌+◌, List, [], ◌∷◌, ◌++◌, ap, ◌∙◌, take, drop, decimal}
use Rattle.text_pages.proofs.Putting.{and_then, put_as}
use Rattle.text_pages.proofs.Times.{last_four, whole_time}
use Rattle.trace_text.specs.RowText.{lines_text}
use Rattle.trace_text.proofs.trace_part.put_driven.Goals as goal

pub returns-then-time-lt-SPAN : goal.returns-then-time-lt-SPAN
returns-then-time-lt-SPAN g c = put_as _ (and_then c.put_number.ensures c.put.ensures)
    (ap (λ (end : List ℕ). decimal c.args.time ++ take 9 (drop 4 end)) c.line_end.ensures)

pub returns : goal.returns
returns g c =
    let time = c.args.time in
    let rest = 32 ∷ (48 + c.args.dev) ∷ 32 ∷ [] ++ lines_text c.args.lines ++ 10 ∷ [] in
    put_as _ (and_then c.put_short.ensures c.put-2.ensures)
    ((λ i. take c.len.result (c.text.ensures i) ++ c.line_end-2.ensures i) ∙ ap
    (λ (digits : List ℕ). digits ++ last_four c.low.result rest) (c.len.ensures.upper ∙ ap decimal c.set_upper.ensures)
    ∙ whole_time time c.low.result rest c.low.ensures c.if-time-lt-SPAN.false c.ranges.time.fits)

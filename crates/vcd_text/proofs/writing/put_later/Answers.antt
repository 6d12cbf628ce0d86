use Rattle.std.proofs.Common.{ℕ, List, [], ◌∷◌, ◌++◌, ap, sym, ◌∙◌, append_assoc, take, drop, decimal}
use Rattle.text_pages.proofs.Putting.{and_then, put_as}
use Rattle.text_pages.proofs.Times.{last_four, whole_time}
use Rattle.vcd_text.specs.DumpText.{value_text}
use Rattle.vcd_text.proofs.writing.put_later.Goals as goal

pub returns-then-time-lt-SPAN : goal.returns-then-time-lt-SPAN
returns-then-time-lt-SPAN g c =
    let time = c.args.time in
    put_as _ (and_then c.put.ensures (and_then c.put_number.ensures c.put-then-time-lt-SPAN.ensures))
    (ap (λ (end : List ℕ). 35 ∷ (decimal time ++ take 23 (drop 4 end))) c.change_end.ensures ∙ ap
    (λ (text : List ℕ). 35 ∷ text) (sym (append_assoc (decimal time) (10 ∷ []) (value_text c.args.dev c.args.lines))))

pub returns : goal.returns
returns g c =
    let time = c.args.time in
    let line = value_text c.args.dev c.args.lines in
    put_as _ c.put_marked.ensures ((λ i. 35 ∷ (take c.len.result (c.text.ensures i) ++ c.change_end-2.ensures i))
    ∙ ap (λ (digits : List ℕ). 35 ∷ (digits ++ last_four c.low.result (10 ∷ line)))
    (c.len.ensures.upper ∙ ap decimal c.set_upper.ensures) ∙ ap (λ (text : List ℕ). 35 ∷ text)
    (whole_time time c.low.result (10 ∷ line) c.low.ensures c.if-time-lt-SPAN.false c.ranges.time.fits
    ∙ sym (append_assoc (decimal time) (10 ∷ []) line)))

use Rattle.std.proofs.Common.{ℕ, List, ◌++◌, ap, ◌∙◌, arith}
use Rattle.text_pages.proofs.Putting.{put_as}
use Rattle.vcd_text.specs.DumpText.{value_text}
use Rattle.vcd_text.proofs.Written.{time_shown, time_hidden}
use Rattle.vcd_text.proofs.writing.put_change.Goals as goal

pub returns-then-last-row-clause-text : goal.returns-then-last-row-clause-text
returns-then-last-row-clause-text g c =
    let row = c.args.row.now in
    let line = value_text row.dev c.args.lines in
    put_as _ c.put.ensures (c.value_line.ensures
    ∙ ap (λ (text : List ℕ). text ++ line) (time_hidden c.args.last row.time (omega (arith, c.if-last-row.true))))

pub returns-clause-text : goal.returns-clause-text
returns-clause-text g c =
    let row = c.args.row.now in
    let line = value_text row.dev c.args.lines in
    put_as _ c.put_later.ensures
    (ap (λ (text : List ℕ). text ++ line) (time_shown c.args.last row.time (omega (arith, c.if-last-row.false))))

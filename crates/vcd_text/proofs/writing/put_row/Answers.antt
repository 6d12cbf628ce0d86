use Rattle.std.proofs.Common.{ℕ, sym, ap, ◌∙◌, ◌++◌}
use Rattle.vcd_text.specs.DumpText.{time_text, value_text, change_text}
use Rattle.text_pages.proofs.Putting.{put_as}
use Rattle.vcd_text.proofs.writing.put_row.Goals as goal

pub returns-in-Drives-clause-text : goal.returns-in-Drives-clause-text
returns-in-Drives-clause-text g c =
    let row = c.args.row.now in
    put_as _ c.put_change.ensures.text
    (ap (λ (lines : ℕ). time_text c.args.last row.time ++ value_text row.dev lines) c.bits.ensures.number
    ∙ ap (change_text c.args.last row.time row.dev) (sym c.in-Drives.is))

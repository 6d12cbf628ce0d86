use Rattle.std.proofs.Common.{◌∙◌, [], sym, ap, arith}
use Rattle.trace_text.specs.Whole.{trace_told}
use Rattle.trace_text.proofs.KeptRows.{all_kept, where_kept}
use Rattle.trace_text.proofs.whole.read_bytes.Goals as goal

pub returns-in-Ok : goal.returns-in-Ok
returns-in-Ok c =
    let ok = sym c.is_err.ensures.value ∙ c.if-is_err.false in
    let taken = where_kept c.take_all.result ok c.take_all.ensures [] c.new-kept.ensures (omega (arith, c.requires)) in
    all_kept c.args.bytes.now c.take_all.new.self c.finish.result c.requires taken c.finish.ensures.exact
    ∙ ap trace_told c.in-Ok.is

pub returns-in-Err : goal.returns-in-Err
returns-in-Err c =
    let ok = sym c.is_err.ensures.value ∙ c.if-is_err.false in
    let taken = where_kept c.take_all.result ok c.take_all.ensures [] c.new-kept.ensures (omega (arith, c.requires)) in
    all_kept c.args.bytes.now c.take_all.new.self c.finish.result c.requires taken c.finish.ensures.exact
    ∙ ap trace_told c.in-Err.is

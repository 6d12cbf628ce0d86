-- No read fails, and no write has failed where the text is taken.
use Rattle.std.proofs.Common.{◌≡◌, map, string_bytes, rules, arith}
use Rattle.scsibus_main_c.specs.Words.{words_in}
use Rattle.scsibus_main_c.proofs.Answered.{same_words, answered}
use Rattle.scsibus_main_c.proofs.calls.answer.Goals as goal

pub returns : goal.returns
returns c c' =
    let e = c'.bus_main-status.ensures in
    let same : map string_bytes c'.deref.result.now ≡ words_in c'.args.words.now = search rules in
    answered _ c'.args.words.now c'.args.input.now c'.bus_main-status.result c'.bus_main-status.new.out.bytes.items
    c'.new-text.result.bytes.items c'.new-text.result.faults c'.bus_main-status.new.out.faults
    (same_words c'.deref.result.now c'.args.words.now same) c'.new-text.ensures.empty c'.new-text.ensures.whole
    (omega arith) e.words e.read e.write e.form e.said e.complete

use Rattle.std.proofs.Common.{drop}
use Rattle.text_words.specs.Spelling.{hex_text}
use Rattle.text_pages.specs.Pages.{place}
use Rattle.text_pages.proofs.Putting.{IsOn}
use Rattle.text_pages.proofs.parts.put_hex.Given as goal

abbrev pub invariant-loop-byte : goal.invariant-loop-byte
invariant-loop-byte g l = IsOn (place (g.K.Sink.written l.initial.out) (g.K.Sink.faults l.initial.out) l.initial.page)
    (place (g.K.Sink.written l.out) (g.K.Sink.faults l.out) l.page) (hex_text l.bytes)
    (hex_text (drop l.byte-index l.bytes))

use Rattle.std.proofs.Common.{ap, ◌∙◌}
use Rattle.text_words.specs.Spelling.{hex_text}
use Rattle.msg_grammar.specs.Messages.{out_bytes}
use Rattle.text_pages.proofs.Putting.{and_then, put_as}
use Rattle.bus_transcript.proofs.printing.put_out.Goals as goal

pub returns : goal.returns
returns g c = and_then c.put.ensures (put_as _ c.put_hex.ensures
    (ap hex_text (c.as_slice.ensures.value ∙ c.encode_out.ensures.bytes ∙ ap out_bytes c.fitted_out.ensures.exact)))

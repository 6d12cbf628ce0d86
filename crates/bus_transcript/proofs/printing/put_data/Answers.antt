use Rattle.text_pages.proofs.Putting.{and_then, and_spaced}
use Rattle.bus_transcript.proofs.printing.put_data.Goals as goal

pub returns : goal.returns
returns g c = and_then c.put_data_word.ensures (and_spaced _ c.put_spaced.ensures c.put_hex.ensures)
